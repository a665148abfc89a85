-- What is known stays true, and where a row goes on the inputs have its words.
use Rattle.std.proofs.Common.{◌≡◌, ◌∙◌, ℕ, true, is_none, is_some, ℤ, List, [], ◌∷◌, length, Option, Some, None, refl, sym, ap, subst, arith, append-nil}
use Rattle.std.proofs.lemmas.Bool.{and_parts}
use Rattle.std.specs.List.{list_all}
use Rattle.link_laws.specs.Boards.{Agrees, Board, before_limits, before_redo, before_trial, board_of}
use Rattle.link_laws.specs.Keeping.{IsMade}
use Rattle.link_laws.specs.Laws.{AreWordsKnown, IsRightStage}
use Rattle.link_laws.specs.Making.{held, limits_made, part_of, ports_in, redos_made, replies_made, stage_at, words_made}
use Rattle.link_laws.specs.Nodes.{Making}
use Rattle.link_core.specs.Noted.{AreFed, IsTrue, part_at}
use Rattle.link_laws.specs.declared.fact.Fact.{Fact}
use Rattle.link_laws.specs.declared.fact.Seen.{Seen}
use Rattle.link_laws.specs.declared.stage.Stage.{Stage}
use Rattle.link_laws.specs.declared.stage.Stage.TheVariants.{Words, Limits, Trial, Redo, Over, On}
use Rattle.link_laws.proofs.PrefixLaws.{behind, limits_behind, redos_behind, replies_behind, words_behind}
use Rattle.link_laws.proofs.RuleLaws.{limits_keep, passes_keep, place_at_most, place_long, place_stands, ports_are, redos_keep, replies_keep, right_stage}
use Rattle.port_solve.specs.Solved.{HaveInputs, HaveStates, HaveTheirWords}
use Rattle.port_solve.specs.Sound.{IsSound}
use Rattle.port_solve.proofs.SolvedPorts.{all_right}
use Rattle.run_laws.proofs.AssignmentLaws.{undefined_faults}
use Rattle.super_time.specs.declared.point.Point.{Point}
use Rattle.unit_tree.specs.Compositions.{AreMembers, Composition}
use Rattle.unit_tree.specs.Negotiation.{all_inputs}
use Rattle.unit_tree.specs.Ports.{IsPlaceOrder, first_some, port_fault}
use Rattle.unit_tree.specs.Routes.{routes_of}
use Rattle.unit_tree.specs.Successor.{Position, after, ends_at, ends_or, goes, successor}
use Rattle.unit_tree.specs.Trace.{Stand}
use Rattle.unit_tree.specs.declared.ending.Ending.{Ending}
use Rattle.unit_tree.proofs.RouteLaws.{count_is}

-- ---- No output faults where a row goes on

first_none : (first : Option Ending) (others : List (Option Ending)) → first_some (first ∷ others) ≡ None → first ≡ None
first_none None others is = refl
first_none (Some ending) others is = absurd (cc)

none_is : (found : Option Ending) → is_none found ≡ true → found ≡ None
none_is None is = refl
none_is (Some ending) is = absurd (cc)

goes_none : (found : Option Ending) (to next : Position) → ends_or found to ≡ goes next → found ≡ None
goes_none None to next is = refl
goes_none (Some ending) to next is = absurd (cc)

module _ (run : Composition) (stand : Stand) where
  abbrev fault : Option Ending
  fault = port_fault run stand.at.states stand.ports

  no_fault_limits : before_limits run stand ≡ true → fault ≡ None
  no_fault_limits is = first_none fault _ (none_is _ is)

  no_fault_trial : before_trial run stand ≡ true → fault ≡ None
  no_fault_trial is = no_fault_limits (and_parts (before_limits run stand) _ is).0

  no_fault_redo : before_redo run stand ≡ true → fault ≡ None
  no_fault_redo is = no_fault_trial (and_parts (before_trial run stand) _ is).0

  no_fault_on : successor run stand.at stand.ports ≡ goes (after run stand.at stand.ports) → fault ≡ None
  no_fault_on is = first_none fault _ (goes_none (first_some (ends_at run stand.at stand.ports)) (after run stand.at stand.ports)
      (after run stand.at stand.ports) is)

-- ---- By the truth of what is known

module _ (run : Composition) (order : List ℕ) (is_order : IsPlaceOrder run order) (are : AreMembers run) (owners : List ℕ) (me : ℕ)
    (owns : length owners ≡ length run.members)
    (point : Point) (row : ℕ) (states : List (List ℤ)) where
  abbrev at : Position
  at = part_at owners me point row states

  -- The stage by what is known is the right one.
  stage_right : (known : Board) (so : IsTrue run owners me point row states known) → IsRightStage run so.stand known (stage_at run at known)
  stage_right known so =
      subst (λ (one : Position). IsRightStage run so.stand known (stage_at run one known)) (sym so.part)
      (right_stage run owners me so.stand (place_stands run order are is_order so.stand so.place) (place_long run order are is_order so.stand so.place)
      (place_at_most run order are is_order so.stand so.place) owns known so.agrees)

  -- What is made is true.
  made_true : (known : Board) (so : IsTrue run owners me point row states known) (make : Position → Making → Making) (before : List Fact)
      → (make at (behind before (record { known = known; facts = [] })) ≡ behind before (make at (record { known = known; facts = [] })))
      → (IsMade run so.stand (record { known = known; facts = [] })
      → IsMade run so.stand (make (part_of owners me so.stand.at) (record { known = known; facts = [] })))
      → (now next : Making) → now ≡ behind before (record { known = known; facts = [] }) → next ≡ make at now
      → IsTrue run owners me point row states next.known
  made_true known so make before stays keeps now next now_is next_is =
      let start : Making = record { known = known; facts = [] } in
      let made = keeps (record { agrees = so.agrees; facts = tt }) in
      let known_is : next.known ≡ (make (part_of owners me so.stand.at) start).known =
      ap (λ (making : Making). making.known) (next_is ∙ ap (make at) now_is ∙ stays) ∙ ap (λ one. (make one start).known) so.part in
      record {
        stand = so.stand;
        place = so.place;
        part = so.part;
        agrees = subst (Agrees (board_of run so.stand)) (sym known_is) made.agrees;
      }

  no_facts : (now : Making) → now ≡ behind now.facts (record { known = now.known; facts = [] })
  no_facts now = ap (λ facts. record { known = now.known; facts = facts }) (sym (append-nil now.facts))

  pub words_true : (now next : Making) → IsTrue run owners me point row states now.known → next ≡ words_made run owners me at now
      → IsTrue run owners me point row states next.known
  words_true now next so is =
      made_true now.known so (words_made run owners me) now.facts (words_behind now.facts run owners me at (record { known = now.known; facts = [] }))
      (passes_keep run owners me so.stand (place_stands run order are is_order so.stand so.place) (place_long run order are is_order so.stand so.place)
      (place_at_most run order are is_order so.stand so.place) owns (length (held run owners (part_of owners me so.stand.at).states))
      (record { known = now.known; facts = [] }))
      now next (no_facts now) is

  pub limits_true : (now next : Making) → IsTrue run owners me point row states now.known → next ≡ limits_made run owners me at now
      → IsTrue run owners me point row states next.known
  limits_true now next so is =
      made_true now.known so (limits_made run owners me) now.facts
      (limits_behind now.facts run owners me at (stage_at run at now.known) (record { known = now.known; facts = [] }))
      (λ made. limits_keep run owners me so.stand (place_stands run order are is_order so.stand so.place) (place_long run order are is_order so.stand so.place)
      (place_at_most run order are is_order so.stand so.place) owns (record { known = now.known; facts = [] })
      (stage_at run (part_of owners me so.stand.at) now.known) made
      (right_stage run owners me so.stand (place_stands run order are is_order so.stand so.place) (place_long run order are is_order so.stand so.place)
      (place_at_most run order are is_order so.stand so.place) owns now.known so.agrees))
      now next (no_facts now) is

  pub replies_true : (now next : Making) → IsTrue run owners me point row states now.known → next ≡ replies_made run owners me at now
      → IsTrue run owners me point row states next.known
  replies_true now next so is =
      made_true now.known so (replies_made run owners me) now.facts
      (replies_behind now.facts run owners me at (stage_at run at now.known) (record { known = now.known; facts = [] }))
      (λ made. replies_keep run owners me so.stand (place_stands run order are is_order so.stand so.place)
      (place_long run order are is_order so.stand so.place) (place_at_most run order are is_order so.stand so.place) owns
      (record { known = now.known; facts = [] }) (stage_at run (part_of owners me so.stand.at) now.known) made
      (right_stage run owners me so.stand (place_stands run order are is_order so.stand so.place) (place_long run order are is_order so.stand so.place)
      (place_at_most run order are is_order so.stand so.place) owns now.known so.agrees))
      now next (no_facts now) is

  pub redos_true : (now next : Making) → IsTrue run owners me point row states now.known → next ≡ redos_made run owners me at now
      → IsTrue run owners me point row states next.known
  redos_true now next so is =
      made_true now.known so (redos_made run owners me) now.facts
      (redos_behind now.facts run owners me at (stage_at run at now.known) (record { known = now.known; facts = [] }))
      (λ made. redos_keep run owners me so.stand (place_stands run order are is_order so.stand so.place) (place_long run order are is_order so.stand so.place)
      (place_at_most run order are is_order so.stand so.place) owns (record { known = now.known; facts = [] })
      (stage_at run (part_of owners me so.stand.at) now.known) made
      (right_stage run owners me so.stand (place_stands run order are is_order so.stand so.place) (place_long run order are is_order so.stand so.place)
      (place_at_most run order are is_order so.stand so.place) owns now.known so.agrees))
      now next (no_facts now) is

  -- ---- Inputs

  module _ (sound : IsSound run) (known : Board) (so : IsTrue run owners me point row states known) (have : HaveStates run states) (inputs : List (List ℤ))
      (shape : HaveInputs run inputs)
      (their : HaveTheirWords run (ports_in known.words) inputs) (count : length known.words ≡ length (routes_of run).outputs) where
    fed_by : AreWordsKnown run so.stand known → port_fault run so.stand.at.states so.stand.ports ≡ None → inputs ≡ all_inputs run (ports_in known.words)
    fed_by words none =
        let stands = place_stands run order are is_order so.stand so.place in
        let long = place_long run order are is_order so.stand so.place in
        let ports = ports_are run owners me so.stand stands long (place_at_most run order are is_order so.stand so.place) owns known words in
        let all = (undefined_faults run order so.stand.at.states so.stand.ports is_order long stands).0 none in
        all_right run states sound have (ports_in known.words) inputs (ports_count known.words ∙ count ∙ count_is run)
        (subst (λ told. list_all is_some told ≡ true) (sym ports) all) their shape
      where
        ports_count : (words : List (Option Seen)) → length (ports_in words) ≡ length words
        ports_count [] = refl
        ports_count (one ∷ words) = let rest = ports_count words in omega (arith, rest)

    by_stage : (stage : Stage) → IsRightStage run so.stand known stage → AreFed run inputs (ports_in known.words) stage
    by_stage Words right = tt
    by_stage Limits (lacks, words, asks) = fed_by words (no_fault_limits run so.stand asks)
    by_stage (Trial h) (lacks, words, tries, is) = fed_by words (no_fault_trial run so.stand tries)
    by_stage (Redo h) (lacks, words, redoes, is) = fed_by words (no_fault_redo run so.stand redoes)
    by_stage (Over ending) right = tt
    by_stage (On h) (none, is, on) = fed_by none.words (no_fault_on run so.stand on)

    pub are_fed : AreFed run inputs (ports_in known.words) (stage_at run at known)
    are_fed = by_stage (stage_at run at known) (stage_right known so)
