-- The stands of a trace that a node has committed, from one call to the next.
use Rattle.std.proofs.Common.{◌≡◌, ◌∙◌, ℕ, zero, suc, ◌+◌, ◌≤◌, true, false, is_some, is_none, List, [], ◌∷◌, ◌++◌, length, take, Option, Some, None}
use Rattle.std.proofs.Common.{refl, sym, ap, subst, arith, append-nil, append_assoc, length-append}
use Rattle.std.proofs.lemmas.List.Elements.{filter_map-append}
use Rattle.std.specs.Prelude.{if◌then◌else◌, slice_get}
use Rattle.std.specs.List.{cons_option}
use Rattle.link_laws.specs.Boards.{Board}
use Rattle.link_laws.specs.Keeping.{IsHonest, IsPlace, KeepsTo}
use Rattle.link_laws.specs.Laws.{AnswersRightly, ShowsRow}
use Rattle.link_laws.specs.Making.{rule_of}
use Rattle.link_laws.specs.Nodes.{End, Go, Move, Progress, Stay, drops, knowing, making_of, moved, taken, with_making, worked}
use Rattle.link_laws.specs.declared.fact.Fact.{Fact}
use Rattle.link_laws.specs.declared.taken.Taken.{Taken}
use Rattle.link_laws.specs.declared.taken.Taken.TheVariants.{Dropped, Ended}
use Rattle.link_laws.proofs.MoveLaws.{moves_to_next}
use Rattle.link_laws.proofs.PairLaws.{knowing_keeps, work_commits}
use Rattle.link_laws.proofs.RuleLaws.{reach_words, rule_is_right}
use Rattle.link_nodes.specs.ShownRows.{rows_come_to}
use Rattle.link_nodes.specs.Shown.{committed, lines_shown}
use Rattle.list_laws.proofs.Members.{at_seam, take_next}
use Rattle.run_laws.proofs.PositionLaws.{positions_keep}
use Rattle.run_laws.proofs.RunTraces.{goes_same, same_stand}
use Rattle.trace_plan.specs.Plans.{Planned}
use Rattle.trace_rows.specs.Lines.{lines_of}
use Rattle.trace_rows.proofs.RowLaws.{no_lines}
use Rattle.trace_rows.proofs.RunKept.{lines-append}
use Rattle.unit_tree.specs.Compositions.{AreMembers, Composition}
use Rattle.unit_tree.specs.Ports.{IsPlaceOrder}
use Rattle.unit_tree.specs.Successor.{ends, first_position, goes, successor}
use Rattle.unit_tree.specs.Trace.{Follows, Goes, HasWords, IsStand, IsTrace, Reaches, Stand, row_at, rows_of}
use Rattle.unit_tree.specs.declared.ending.Ending.{Ending}

-- ---- A place in a trace

pub record Around (run : Composition) (count : ℕ) (stand : Stand) (stands : List Stand) (ending : Ending) : Type 0 where
  pub before : List Stand
  pub later : List Stand
  pub is : stands ≡ before ++ (stand ∷ later)
  pub many : length before ≡ count
  pub follows : Follows run stand later ending

goes_not : (run : Composition) (stand next : Stand) (ending : Ending) → Goes run stand next → successor run stand.at stand.ports ≡ ends ending → ⊥
goes_not run stand next ending to is = differ (sym to.0 ∙ is)
  where
    differ : goes next.at ≡ ends ending → ⊥
    differ e = cc

module _ (run : Composition) (order : List ℕ) (are : AreMembers run) (is_order : IsPlaceOrder run order) where
  around_first : (from : Stand) (stands : List Stand) (ending : Ending) → from.at ≡ first_position run → IsStand run from → IsTrace run stands ending
      → Around run 0 from stands ending
  around_first from [] ending opening is_stand trace = absurd trace
  around_first from (first ∷ others) ending opening is_stand trace =
      let words = subst (HasWords run) (sym opening) (positions_keep run are).first in
      let same : from ≡ first = same_stand run order are is_order from first words is_stand trace.1 (opening ∙ sym trace.0) in
      record {
        before = [];
        later = others;
        is = ap (λ stand. stand ∷ others) (sym same);
        many = refl;
        follows = subst (λ stand. Follows run stand others ending) (sym same) trace.2;
      }

  around_next : (count : ℕ) (here next : Stand) (stands : List Stand) (ending : Ending) → HasWords run here.at → Goes run here next
      → Around run count here stands ending → Around run (suc count) next stands ending
  around_next count here next stands ending words to at = by_later at.later at.is at.follows
    where
      by_later : (later : List Stand) → stands ≡ at.before ++ (here ∷ later) → Follows run here later ending → Around run (suc count) next stands ending
      by_later [] is follows = absurd (goes_not run here next ending to follows)
      by_later (stand ∷ others) is follows =
          let same : stand ≡ next = goes_same run order are is_order here stand next words follows.0 to in
          let longer : length at.before + 1 ≡ suc count = omega (arith, at.many) in
          record {
            before = at.before ++ here ∷ [];
            later = others;
            is = is ∙ ap (λ one. at.before ++ (here ∷ (one ∷ others))) same ∙ sym (append_assoc at.before (here ∷ []) (next ∷ others));
            many = length-append at.before (here ∷ []) ∙ longer;
            follows = subst (λ one. Follows run one others ending) same follows.1;
          }

  around_reached : (count : ℕ) (last from to : Stand) (stands : List Stand) (ending : Ending) → from.at ≡ first_position run → IsStand run from
      → IsTrace run stands ending → Reaches run count last from to
      → Around run count to stands ending
  around_reached zero last from to stands ending opening is_stand trace reached =
      subst (λ stand. Around run 0 stand stands ending) reached.0 (around_first from stands ending opening is_stand trace)
  around_reached (suc count) last from to stands ending opening is_stand trace (earlier, before, on) =
      let words = reach_words run order are is_order count earlier from last (subst (HasWords run) (sym opening) (positions_keep run are).first) before in
      around_next count last to stands ending words on (around_reached count earlier from last stands ending opening is_stand trace before)

  pub around : (stand : Stand) (stands : List Stand) (ending : Ending) → IsPlace run stand → IsTrace run stands ending
      → Around run stand.at.number stand stands ending
  around stand stands ending place trace =
      around_reached stand.at.number place.last place.from stand stands ending place.opening place.is_stand trace place.reached

-- ---- What is committed

going_committed : (node : Progress) (stands : List Stand) → node.ended ≡ None → committed node stands ≡ take node.at.number stands
going_committed node stands going = ap (λ ended. if is_some ended then stands else take node.at.number stands) going

one_more : (run : Composition) (count : ℕ) (stand : Stand) (stands : List Stand) (ending : Ending) → Around run count stand stands ending
    → take (suc count) stands ≡ take count stands ++ stand ∷ []
one_more run count stand stands ending at =
    let there : slice_get stands count ≡ Some stand = ap (slice_get stands) (sym at.many) ∙ ap (λ all. slice_get all (length at.before)) at.is
    ∙ at_seam at.before stand at.later in
    let more : suc count ≡ count + 1 = omega arith in
    ap (λ n. take n stands) more ∙ take_next stands count stand there

take_none : (n : ℕ) → ◌≡◌ {A = List Stand} (take n []) []
take_none zero = refl
take_none (suc n) = refl

take_whole : (n : ℕ) (xs : List Stand) → length xs ≤ n → take n xs ≡ xs
take_whole n [] most = take_none n
take_whole zero (x ∷ xs) most = absurd (omega (arith, most))
take_whole (suc n) (x ∷ xs) most = ap (λ rest. x ∷ rest) (take_whole n xs (omega (arith, most)))

all_of : (run : Composition) (count : ℕ) (stand : Stand) (stands : List Stand) (end ending : Ending) → Around run count stand stands end
    → successor run stand.at stand.ports ≡ ends ending → stands ≡ take count stands ++ stand ∷ []
all_of run count stand stands end ending at is = by_later at.later at.is at.follows
  where
    length_is : (before : List Stand) → length (before ++ stand ∷ []) ≡ length before + 1
    length_is before = length-append before (stand ∷ [])

    by_later : (later : List Stand) → stands ≡ at.before ++ (stand ∷ later) → Follows run stand later end → stands ≡ take count stands ++ stand ∷ []
    by_later (next ∷ others) split follows = absurd (goes_not run stand next ending follows.0 is)
    by_later [] split follows =
        let long : length stands ≤ suc count = omega (arith, ap length split, length_is at.before, at.many) in
        sym (take_whole (suc count) stands long) ∙ one_more run count stand stands end at

-- ---- From one call to the next

module _ (plan : Planned) where
  -- One more stand.
  lines_on : (node next : Progress) (stand : Stand) (stands : List Stand) → committed next stands ≡ committed node stands ++ stand ∷ []
      → lines_shown plan next stands ≡ lines_shown plan node stands ++ lines_of plan.system (cons_option (row_at plan.run stand) [])
  lines_on node next stand stands is =
      ap (λ all. lines_of plan.system (rows_of plan.run all)) is
      ∙ ap (lines_of plan.system) (filter_map-append (row_at plan.run) (committed node stands) (stand ∷ []))
      ∙ lines-append plan.system (rows_of plan.run (committed node stands)) (cons_option (row_at plan.run stand) [])

  pub nothing_more : (text : List ℕ) → text ≡ text ++ lines_of plan.system []
  nothing_more text = sym (append-nil text) ∙ ap (λ more. text ++ more) (sym (no_lines plan.system))

  module _ (order : List ℕ) (is_order : IsPlaceOrder plan.run order) (are : AreMembers plan.run) (owners : List ℕ)
      (owns : length owners ≡ length plan.run.members) (stands : List Stand) (ending : Ending) (trace : IsTrace plan.run stands ending) where
    module _ (now : Progress) (going : now.ended ≡ None) (stand : Stand) (at : Around plan.run now.at.number stand stands ending) (known sees : Board) where
      abbrev did : Move → Progress × Taken
      did move = moved (rule_of plan.run owners) now move

      grown_by : (move : Move) → (rule_of plan.run owners).move 0 now.at known ≡ move → AnswersRightly plan.run stand sees (did move).1
          → ShowsRow plan.run stand (did move)
          → lines_shown plan (did move).0 stands ≡ lines_shown plan now stands ++ lines_of plan.system (rows_come_to true (did move))
      grown_by Stay is answers shows = nothing_more (lines_shown plan now stands)
      grown_by (Go to) is answers shows =
          lines_on now (did (Go to)).0 stand stands
          (going_committed (did (Go to)).0 stands going
          ∙ ap (λ count. take count stands) (moves_to_next plan.run owners 0 now.at known to is)
          ∙ one_more plan.run now.at.number stand stands ending at ∙ sym (ap (λ all. all ++ stand ∷ []) (going_committed now stands going)))
          ∙ ap (λ row. lines_shown plan now stands ++ lines_of plan.system (cons_option row [])) (sym shows)
      grown_by (End end) is answers shows =
          lines_on now (did (End end)).0 stand stands
          (all_of plan.run now.at.number stand stands ending answers.1.0 at answers.1.1
          ∙ sym (ap (λ all. all ++ stand ∷ []) (going_committed now stands going)))
          ∙ ap (λ row. lines_shown plan now stands ++ lines_of plan.system (cons_option row [])) (sym shows)

    abbrev Grown : Progress → Progress × Taken → Type 0
    Grown node did = lines_shown plan did.0 stands ≡ lines_shown plan node stands ++ lines_of plan.system (rows_come_to (is_none node.ended) did)

    worked_by : (node : Progress) (found : Option Ending) → node.ended ≡ found → KeepsTo plan.run (rule_of plan.run owners) 0 node
        → lines_shown plan (if is_some found then (node, Ended) else moved (rule_of plan.run owners)
        (with_making node (making_of (rule_of plan.run owners) 0 node))
        ((rule_of plan.run owners).move 0 node.at (making_of (rule_of plan.run owners) 0 node).known)).0 stands
        ≡ lines_shown plan node stands ++ lines_of plan.system
        (rows_come_to (is_none found) (if is_some found then (node, Ended) else moved (rule_of plan.run owners)
        (with_making node (making_of (rule_of plan.run owners) 0 node))
        ((rule_of plan.run owners).move 0 node.at (making_of (rule_of plan.run owners) 0 node).known)))
    worked_by node (Some end) is keeps = nothing_more (lines_shown plan node stands)
    worked_by node None is keeps =
        let rule = rule_of plan.run owners in
        let made = making_of rule 0 node in
        let now = with_making node made in
        let place = around plan.run order are is_order keeps.stand stands ending keeps.stands.place trace in
        let at = subst (λ count. Around plan.run count keeps.stand stands ending) (sym (ap (λ (p : _). p.number) keeps.stands.part)) place in
        let works = work_commits plan.run rule (rule_is_right plan.run order owners is_order are owns) 0 node keeps is in
        let same : worked rule 0 node ≡ moved rule now (rule.move 0 node.at made.known) =
        ap (λ found. if is_some found then (node, Ended) else moved rule now (rule.move 0 node.at made.known)) is in
        grown_by now is keeps.stand at made.known made.known (rule.move 0 node.at made.known) refl
        (subst (λ (did : Progress × Taken). AnswersRightly plan.run keeps.stand made.known did.1) same works.answers)
        (subst (ShowsRow plan.run keeps.stand) same works.row)

    pub worked_grows : (node : Progress) → KeepsTo plan.run (rule_of plan.run owners) 0 node → Grown node (worked (rule_of plan.run owners) 0 node)
    worked_grows node keeps = worked_by node node.ended refl keeps

    dropped_grows : (node : Progress) (ended : Option Ending)
        → lines_shown plan node stands ≡ lines_shown plan node stands ++ lines_of plan.system (rows_come_to (is_none ended) (node, Dropped))
    dropped_grows node None = nothing_more (lines_shown plan node stands)
    dropped_grows node (Some end) = nothing_more (lines_shown plan node stands)

    pub taken_grows : (node : Progress) (fact : Fact) → KeepsTo plan.run (rule_of plan.run owners) 0 node → IsHonest plan.run fact
        → Grown node (taken (rule_of plan.run owners) 0 node fact)
    taken_grows node fact keeps honest = by_test (drops (rule_of plan.run owners) 0 node fact) refl
      where
        by_test : (test : _) → drops (rule_of plan.run owners) 0 node fact ≡ test
            → Grown node (if test then (node, Dropped) else worked (rule_of plan.run owners) 0 (knowing node fact))
        by_test true is = dropped_grows node node.ended
        by_test false is = worked_grows (knowing node fact)
            (knowing_keeps plan.run (rule_of plan.run owners) (rule_is_right plan.run order owners is_order are owns) 0 node keeps fact honest is)
