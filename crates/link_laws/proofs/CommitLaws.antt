-- A node commits in the first event in which it knows all facts of its row.
use Rattle.link_laws.proofs.PairLaws.{all_events_keep, events_keep, found_is, goes_after, knowing_keeps, move_of, true_is_honest}
use Rattle.link_laws.specs.Boards.{Board, LacksNone, board_of, row_of}
use Rattle.link_laws.specs.Keeping.{IsHonest, IsPlace, IsRightMove, IsRightRule, IsTrueFact, KeepsTo, PairKeepsTo}
use Rattle.link_laws.specs.Nodes.{End, Go, Move, Progress, Rule, Stay, drops, has, knowing, making_of, moved, with_making, worked}
use Rattle.link_laws.specs.Pairs.{Pair, after_events, delivered, event_step, happened, node_of, opened_pair, step_of_node}
use Rattle.link_laws.specs.Progress.{IsAtRow, IsCommit, KnowsAllIn, NoRestart, Waits, known_in, known_with, node_in, other_in}
use Rattle.link_laws.specs.declared.fact.Fact.{Fact}
use Rattle.link_laws.specs.declared.pair_event.PairEvent.{PairEvent}
use Rattle.link_laws.specs.declared.pair_event.PairEvent.TheVariants.{Deliver, Keep, Restart, Work}
use Rattle.link_laws.specs.declared.taken.Taken.{Taken}
use Rattle.link_laws.specs.declared.taken.Taken.TheVariants.{Dropped, Ended, Kept}
use Rattle.std.proofs.Common.{ap, ap₂, arith, inl, inr, refl, subst, sym, ◌<◌, ◌∙◌, ◌≤◌, ◌⊎◌}
use Rattle.std.specs.List.{AllByRecursion}
use Rattle.std.specs.Prelude.{Bool, List, None, Option, Some, [], false, if◌then◌else◌, is_some, not, slice_get, suc, true, zero, ℕ, ◌-◌, ◌==◌, ◌||◌, ◌↔◌}
use Rattle.std.specs.Prelude.{◌∷◌, ◌≡◌}
use Rattle.unit_tree.specs.Compositions.{Composition}
use Rattle.unit_tree.specs.Ports.{first_some}
use Rattle.unit_tree.specs.Successor.{Position, after, ends_at}
use Rattle.unit_tree.specs.Trace.{Goes, Stand}
use Rattle.unit_tree.specs.declared.ending.Ending.{Ending}

-- The node is past the row of the stand, or has ended.
abbrev pub IsPast : Stand → Progress → Type 0
IsPast stand node = (stand.at.number < node.at.number) ⊎ (is_some node.ended ≡ true)

no_commit_dropped : IsCommit Dropped → ⊥
no_commit_dropped (inl is) = cc
no_commit_dropped (inr is) = cc

no_commit_kept : IsCommit Kept → ⊥
no_commit_kept (inl is) = cc
no_commit_kept (inr is) = cc

not_there_and_past : (stand : Stand) (node : Progress) → IsAtRow stand node → IsPast stand node → ⊥
not_there_and_past stand node there (inl past) = omega (arith, there.0, past)
not_there_and_past stand node there (inr ended) = let is : is_some node.ended ≡ false = ap is_some there.1 in cc

module _ (run : Composition) (rule : Rule) (right : IsRightRule run rule) (me : ℕ) where
  stand_is : (node : Progress) (keeps : KeepsTo run rule me node) (stand : Stand) → IsPlace run stand → node.at.number ≡ stand.at.number → keeps.stand ≡ stand
  stand_is node keeps stand place number =
      right.one keeps.stand stand keeps.stands.place place
      (sym (ap (λ (at : Position). at.number) keeps.stands.part ∙ right.numbers me keeps.stand.at) ∙ number)

  number_is : (node : Progress) (keeps : KeepsTo run rule me node) → node.at.number ≡ keeps.stand.at.number
  number_is node keeps = ap (λ (at : Position). at.number) keeps.stands.part ∙ right.numbers me keeps.stand.at

  next_number : (stand next : Stand) → Goes run stand next → next.at.number ≡ suc stand.at.number
  next_number stand next to =
      sym (ap (λ (at : Position). at.number) (goes_after (first_some (ends_at run stand.at stand.ports)) (after run stand.at stand.ports) next.at to.0))

  -- ---- One call

  -- It knows all, and commits; or it does not, and stays.
  abbrev Does : Stand → Option Board → Progress × Taken → Type 0
  Does stand found did =
      (((known : Board) × (found ≡ Some known) × LacksNone (board_of run stand) known) × IsCommit did.1 × IsPast stand did.0)
      ⊎ ((((known : Board) × (found ≡ Some known) × LacksNone (board_of run stand) known) → ⊥) × (IsCommit did.1 → ⊥) × IsAtRow stand did.0)

  some_is : {A : Type 0} (one other : A) → ◌≡◌ {A = Option A} (Some one) (Some other) → one ≡ other
  some_is one other e = cc

  moves_do : (node : Progress) (stand : Stand) (known : Board) (move : Move) → node.known ≡ known → IsAtRow stand node
      → IsRightMove run rule me stand known move → Does stand (Some known) (moved rule node move)
  moves_do node stand known Stay is there lacks =
      inr ((λ all. lacks (subst (LacksNone (board_of run stand)) (sym (some_is known all.0 all.1)) all.2)), no_commit_kept, there)
  moves_do node stand known (Go at) is there (none, (next, to, part)) =
      let number : at.number ≡ suc stand.at.number =
      ap (λ (to : Position). to.number) part ∙ right.numbers me next.at ∙ next_number stand next to in
      inl ((known, refl, none), inl refl, inl (omega (arith, number)))
  moves_do node stand known (End ending) is there (none, ends_there) = inl ((known, refl, none), inr refl, inr refl)

  work_does : (node : Progress) (keeps : KeepsTo run rule me node) → node.ended ≡ None
      → Does keeps.stand (Some (making_of rule me node).known) (worked rule me node)
  work_does node keeps going =
      subst (λ (ended : Option Ending). Does keeps.stand (Some (making_of rule me node).known)
      (if is_some ended then (node, Ended) else moved rule (with_making node (making_of rule me node)) (rule.move me node.at (making_of rule me node).known)))
      (sym going)
      (moves_do (with_making node (making_of rule me node)) keeps.stand (making_of rule me node).known
      (rule.move me node.at (making_of rule me node).known) refl (number_is node keeps, going) (move_of run rule right me node keeps))

  take_does : (node : Progress) (keeps : KeepsTo run rule me node) (fact : Fact) → node.ended ≡ None → IsHonest run fact → (dropped : Bool)
      → drops rule me node fact ≡ dropped
      → Does keeps.stand (if dropped then None else Some (making_of rule me (knowing node fact)).known)
      (if dropped then (node, Dropped) else worked rule me (knowing node fact))
  take_does node keeps fact going honest true is = inr ((λ all. cc (all.1)), no_commit_dropped, (number_is node keeps, going))
  take_does node keeps fact going honest false is =
      let knows = knowing_keeps run rule right me node keeps fact honest is in
      subst (λ (stand : Stand). Does stand (Some (making_of rule me (knowing node fact)).known) (worked rule me (knowing node fact)))
      (stand_is (knowing node fact) knows keeps.stand keeps.stands.place (number_is node keeps))
      (work_does (knowing node fact) knows going)

  deliver_does : (node : Progress) (keeps : KeepsTo run rule me node) (facts : List Fact) (place : ℕ) (found : Option Fact)
      → slice_get facts place ≡ found → node.ended ≡ None → AllByRecursion (IsTrueFact run) facts
      → Does keeps.stand (known_with rule me node found) (delivered rule me node found)
  deliver_does node keeps facts place None is going so = inr ((λ all. cc (all.1)), no_commit_dropped, (number_is node keeps, going))
  deliver_does node keeps facts place (Some fact) is going so =
      take_does node keeps fact going (true_is_honest run rule right fact (found_is (IsTrueFact run) facts place fact so is)) (drops rule me node fact) refl

  event_does : (node other : Progress) (keeps : KeepsTo run rule me node) (event : PairEvent) → node.ended ≡ None
      → AllByRecursion (IsTrueFact run) other.facts → (event ≡ Restart (node_of event) → ⊥)
      → Does keeps.stand (known_in rule me node other event) (happened rule me node other event)
  event_does node other keeps (Work at) going so no_restart = work_does node keeps going
  event_does node other keeps (Deliver at place) going so no_restart =
      deliver_does node keeps other.facts place (slice_get other.facts place) refl going so
  event_does node other keeps (Keep at) going so no_restart = inr ((λ all. cc (all.1)), no_commit_kept, (number_is node keeps, going))
  event_does node other keeps (Restart at) going so no_restart = absurd (no_restart refl)

  both_ways : (stand : Stand) (found : Option Board) (did : Progress × Taken) → Does stand found did
      → IsCommit did.1 ↔ ((known : Board) × (found ≡ Some known) × LacksNone (board_of run stand) known)
  both_ways stand found did (inl commits) = ((λ is. commits.0), λ all. commits.1)
  both_ways stand found did (inr stays) = ((λ is. absurd (stays.1 is)), λ all. absurd (stays.0 all))

  event_answers : (node other : Progress) (keeps : KeepsTo run rule me node) (event : PairEvent) → node.ended ≡ None
      → AllByRecursion (IsTrueFact run) other.facts
      → IsCommit (happened rule me node other event).1
      ↔ ((known : Board) × (known_in rule me node other event ≡ Some known) × LacksNone (board_of run keeps.stand) known)
  event_answers node other keeps (Work at) going so =
      both_ways keeps.stand (Some (making_of rule me node).known) (worked rule me node) (work_does node keeps going)
  event_answers node other keeps (Deliver at place) going so =
      both_ways keeps.stand (known_with rule me node (slice_get other.facts place)) (delivered rule me node (slice_get other.facts place))
      (deliver_does node keeps other.facts place (slice_get other.facts place) refl going so)
  event_answers node other keeps (Keep at) going so = ((λ is. absurd (no_commit_kept is)), λ all. cc (all.1))
  event_answers node other keeps (Restart at) going so = ((λ is. absurd (no_commit_kept is)), λ all. cc (all.1))

  -- ---- What is past stays past

  ended_stays : (node other : Progress) (ending : Ending) (event : PairEvent) → node.ended ≡ Some ending → (event ≡ Restart (node_of event) → ⊥)
      → is_some (happened rule me node other event).0.ended ≡ true
  ended_stays node other ending (Work at) is no_restart =
      ap (λ (found : Option Ending). is_some (if is_some found then (node, Ended)
      else moved rule (with_making node (making_of rule me node)) (rule.move me node.at (making_of rule me node).known)).0.ended) is
      ∙ ap is_some is
  ended_stays node other ending (Deliver at place) is no_restart = by_found (slice_get other.facts place)
    where
      by_found : (found : Option Fact) → is_some (delivered rule me node found).0.ended ≡ true
      by_found None = ap is_some is
      by_found (Some fact) =
          ap (λ (found : Option Ending). is_some (if is_some found || (not (row_of fact == node.at.number)
          || (not (rule.is_of (1 - me) fact) || has node.known fact)) then (node, Dropped) else worked rule me (knowing node fact)).0.ended) is
          ∙ ap is_some is
  ended_stays node other ending (Keep at) is no_restart = ap is_some is
  ended_stays node other ending (Restart at) is no_restart = absurd (no_restart refl)

  past_by : (stand : Stand) (node other : Progress) (event : PairEvent) (ended : Option Ending) → node.ended ≡ ended → KeepsTo run rule me node
      → AllByRecursion (IsTrueFact run) other.facts → (event ≡ Restart (node_of event) → ⊥) → IsPast stand node
      → IsPast stand (happened rule me node other event).0
  past_by stand node other event (Some ending) is keeps so no_restart past = inr (ended_stays node other ending event is no_restart)
  past_by stand node other event None is keeps so no_restart (inr ended) = let none : is_some node.ended ≡ false = ap is_some is in absurd (cc)
  past_by stand node other event None is keeps so no_restart (inl past) =
      let number = number_is node keeps in
      elim (event_does node other keeps event is so no_restart) [
        | inl commits ↦ elim commits.2 [ inl more ↦ inl (omega (arith, past, number, more)) | inr ended ↦ inr ended ]
        | inr stays ↦ inl (omega (arith, past, number, stays.2.0))
      ]

-- ---- Pairs

module _ (run : Composition) (rule : Rule) (right : IsRightRule run rule) where
  -- The node knows all and is past its row, or does not and is still there.
  abbrev GoesOrStays : ℕ → Stand → Pair → PairEvent → Pair → Type 0
  GoesOrStays me stand pair event next =
      (KnowsAllIn run rule me stand pair event × IsPast stand (node_in next me))
      ⊎ ((KnowsAllIn run rule me stand pair event → ⊥) × IsAtRow stand (node_in next me))

  other_event : (me number : ℕ) (stand : Stand) (pair next : Pair) (event : PairEvent) → node_of event ≡ number → (number ≡ me → ⊥)
      → node_in next me ≡ node_in pair me → IsAtRow stand (node_in pair me) → GoesOrStays me stand pair event next
  other_event me number stand pair next event is differs same there =
      inr ((λ knows. differs (sym is ∙ knows.0)), subst (IsAtRow stand) (sym same) there)

  own_event : (me : ℕ) (stand : Stand) (pair next : Pair) (event : PairEvent) (node other : Progress) (keeps : KeepsTo run rule me node) → IsPlace run stand
      → node_in pair me ≡ node → other_in pair me ≡ other → node_in next me ≡ (happened rule me node other event).0
      → node_of event ≡ me → (event ≡ Restart me → ⊥) → IsAtRow stand node → AllByRecursion (IsTrueFact run) other.facts → GoesOrStays me stand pair event next
  own_event me stand pair next event node other keeps place node_is other_is next_is is no_restart there so =
      elim (event_does run rule right me node other keeps event there.1 so (λ restart. no_restart (restart ∙ ap Restart is))) [
        | inl commits ↦ inl ((is, subst Knows same (known_is commits.0)), past (subst (λ (one : Stand). IsPast one (happened rule me node other event).0) same commits.2))
        | inr stays ↦ inr (
          (λ knows. stays.0 (known_back (subst Knows (sym same) knows.1))),
          at_row (subst (λ (one : Stand). IsAtRow one (happened rule me node other event).0) same stays.2),
        )
      ]
    where
      same : keeps.stand ≡ stand
      same = stand_is run rule right me node keeps stand place there.0

      Knows : Stand → Type 0
      Knows one = (known : Board) × (known_in rule me (node_in pair me) (other_in pair me) event ≡ Some known) × LacksNone (board_of run one) known

      found_is' : known_in rule me (node_in pair me) (other_in pair me) event ≡ known_in rule me node other event
      found_is' = ap₂ (λ one two. known_in rule me one two event) node_is other_is

      known_is : ((known : Board) × (known_in rule me node other event ≡ Some known) × LacksNone (board_of run keeps.stand) known) → Knows keeps.stand
      known_is all = (all.0, found_is' ∙ all.1, all.2)

      known_back : Knows keeps.stand → ((known : Board) × (known_in rule me node other event ≡ Some known) × LacksNone (board_of run keeps.stand) known)
      known_back all = (all.0, sym found_is' ∙ all.1, all.2)

      past : IsPast stand (happened rule me node other event).0 → IsPast stand (node_in next me)
      past = subst (IsPast stand) (sym next_is)

      at_row : IsAtRow stand (happened rule me node other event).0 → IsAtRow stand (node_in next me)
      at_row = subst (IsAtRow stand) (sym next_is)

  step_does : (me number : ℕ) → me ≤ 1 → (pair : Pair) → PairKeepsTo run rule pair → (event : PairEvent) (stand : Stand) → IsPlace run stand
      → IsAtRow stand (node_in pair me) → (event ≡ Restart me → ⊥) → node_of event ≡ number
      → GoesOrStays me stand pair event (step_of_node rule pair number event).0
  step_does zero zero me_is pair keeps event stand place there no_restart is =
      own_event 0 stand pair (step_of_node rule pair 0 event).0 event pair.first pair.second keeps.first place refl refl refl is no_restart there
      keeps.second.facts
  step_does (suc zero) (suc zero) me_is pair keeps event stand place there no_restart is =
      own_event 1 stand pair (step_of_node rule pair 1 event).0 event pair.second pair.first keeps.second place refl refl refl is no_restart there
      keeps.first.facts
  step_does zero (suc zero) me_is pair keeps event stand place there no_restart is =
      other_event 0 1 stand pair (step_of_node rule pair 1 event).0 event is (λ same. omega (arith, same)) refl there
  step_does (suc zero) zero me_is pair keeps event stand place there no_restart is =
      other_event 1 0 stand pair (step_of_node rule pair 0 event).0 event is (λ same. omega (arith, same)) refl there
  step_does zero (suc (suc number)) me_is pair keeps event stand place there no_restart is =
      other_event 0 (suc (suc number)) stand pair pair event is (λ same. omega (arith, same)) refl there
  step_does (suc zero) (suc (suc number)) me_is pair keeps event stand place there no_restart is =
      other_event 1 (suc (suc number)) stand pair pair event is (λ same. omega (arith, same)) refl there
  step_does (suc (suc me)) number me_is pair keeps event stand place there no_restart is = absurd (omega (arith, me_is))

  past_step : (me number : ℕ) → me ≤ 1 → (pair : Pair) → PairKeepsTo run rule pair → (event : PairEvent) (stand : Stand)
      → (event ≡ Restart me → ⊥) → node_of event ≡ number → IsPast stand (node_in pair me) → IsPast stand (node_in (step_of_node rule pair number event).0 me)
  past_step zero zero me_is pair keeps event stand no_restart is past =
      past_by run rule right 0 stand pair.first pair.second event pair.first.ended refl keeps.first keeps.second.facts
      (λ restart. no_restart (restart ∙ ap Restart is)) past
  past_step (suc zero) (suc zero) me_is pair keeps event stand no_restart is past =
      past_by run rule right 1 stand pair.second pair.first event pair.second.ended refl keeps.second keeps.first.facts
      (λ restart. no_restart (restart ∙ ap Restart is)) past
  past_step zero (suc zero) me_is pair keeps event stand no_restart is past = past
  past_step (suc zero) zero me_is pair keeps event stand no_restart is past = past
  past_step zero (suc (suc number)) me_is pair keeps event stand no_restart is past = past
  past_step (suc zero) (suc (suc number)) me_is pair keeps event stand no_restart is past = past
  past_step (suc (suc me)) number me_is pair keeps event stand no_restart is past = absurd (omega (arith, me_is))

  past_along : (me : ℕ) → me ≤ 1 → (pair : Pair) → PairKeepsTo run rule pair → (events : List PairEvent) (stand : Stand) → NoRestart me events
      → IsPast stand (node_in pair me) → IsPast stand (node_in (after_events rule pair events) me)
  past_along me me_is pair keeps [] stand no_restart past = past
  past_along me me_is pair keeps (event ∷ events) stand no_restart past =
      past_along me me_is (event_step rule pair event).0 (events_keep run rule right pair (event ∷ []) keeps) events stand no_restart.1
      (past_step me (node_of event) me_is pair keeps event stand no_restart.0 refl past)

  stays_by : (me : ℕ) → me ≤ 1 → (pair : Pair) → PairKeepsTo run rule pair → (later : List PairEvent) (stand : Stand) → IsPlace run stand
      → IsAtRow stand (node_in pair me) → NoRestart me later → IsAtRow stand (node_in (after_events rule pair later) me) → Waits run rule me stand pair later
  stays_by me me_is pair keeps [] stand place there no_restart still = tt
  stays_by me me_is pair keeps (event ∷ later) stand place there no_restart still =
      elim (step_does me (node_of event) me_is pair keeps event stand place there no_restart.0 refl) [
        | inl commits ↦ absurd (not_there_and_past stand (node_in (after_events rule (event_step rule pair event).0 later) me) still
            (past_along me me_is (event_step rule pair event).0 (events_keep run rule right pair (event ∷ []) keeps) later stand no_restart.1 commits.1))
        | inr stays ↦ (
          stays.0,
          stays_by me me_is (event_step rule pair event).0 (events_keep run rule right pair (event ∷ []) keeps) later stand place stays.1
              no_restart.1 still,
        )
      ]

  waits_by : (me : ℕ) → me ≤ 1 → (pair : Pair) → PairKeepsTo run rule pair → (later : List PairEvent) (stand : Stand) → IsPlace run stand
      → IsAtRow stand (node_in pair me) → NoRestart me later → Waits run rule me stand pair later → IsAtRow stand (node_in (after_events rule pair later) me)
  waits_by me me_is pair keeps [] stand place there no_restart waits = there
  waits_by me me_is pair keeps (event ∷ later) stand place there no_restart waits =
      elim (step_does me (node_of event) me_is pair keeps event stand place there no_restart.0 refl) [
        | inl commits ↦ absurd (waits.0 commits.0)
        | inr stays ↦ waits_by me me_is (event_step rule pair event).0 (events_keep run rule right pair (event ∷ []) keeps) later stand place stays.1
            no_restart.1 waits.1
      ]

  pub commits_at_once : (me : ℕ) → me ≤ 1 → (before later : List PairEvent) (stand : Stand) → IsPlace run stand
      → IsAtRow stand (node_in (after_events rule (opened_pair rule run) before) me) → NoRestart me later
      → IsAtRow stand (node_in (after_events rule (after_events rule (opened_pair rule run) before) later) me)
      ↔ Waits run rule me stand (after_events rule (opened_pair rule run) before) later
  commits_at_once me me_is before later stand place there no_restart =
      let pair = after_events rule (opened_pair rule run) before in
      let keeps = all_events_keep run rule right before in
      (stays_by me me_is pair keeps later stand place there no_restart, waits_by me me_is pair keeps later stand place there no_restart)

  -- ---- The result of an event

  answers_by : (me : ℕ) → me ≤ 1 → (pair : Pair) → PairKeepsTo run rule pair → (event : PairEvent) (stand : Stand) → IsPlace run stand
      → IsAtRow stand (node_in pair me) → node_of event ≡ me
      → IsCommit (step_of_node rule pair me event).1 ↔ KnowsAllIn run rule me stand pair event
  answers_by zero me_is pair keeps event stand place there is =
      let both = event_answers run rule right 0 pair.first pair.second keeps.first event there.1 keeps.second.facts in
      let same = stand_is run rule right 0 pair.first keeps.first stand place there.0 in (
        (λ commit. (
          is,
          subst (λ (one : Stand). (known : Board) × (known_in rule 0 pair.first pair.second event ≡ Some known) × LacksNone (board_of run one) known)
              same (both.0 commit),
        )),
        (λ knows. both.1 (subst (λ (one : Stand). (known : Board) × (known_in rule 0 pair.first pair.second event ≡ Some known)
            × LacksNone (board_of run one) known) (sym same) knows.1)),
      )
  answers_by (suc zero) me_is pair keeps event stand place there is =
      let both = event_answers run rule right 1 pair.second pair.first keeps.second event there.1 keeps.first.facts in
      let same = stand_is run rule right 1 pair.second keeps.second stand place there.0 in (
        (λ commit. (
          is,
          subst (λ (one : Stand). (known : Board) × (known_in rule 1 pair.second pair.first event ≡ Some known) × LacksNone (board_of run one) known)
              same (both.0 commit),
        )),
        (λ knows. both.1 (subst (λ (one : Stand). (known : Board) × (known_in rule 1 pair.second pair.first event ≡ Some known)
            × LacksNone (board_of run one) known) (sym same) knows.1)),
      )
  answers_by (suc (suc me)) me_is pair keeps event stand place there is = absurd (omega (arith, me_is))

  pub commits_exactly : (me : ℕ) → me ≤ 1 → (events : List PairEvent) (event : PairEvent) (stand : Stand) → IsPlace run stand
      → IsAtRow stand (node_in (after_events rule (opened_pair rule run) events) me) → node_of event ≡ me
      → IsCommit (event_step rule (after_events rule (opened_pair rule run) events) event).1
      ↔ KnowsAllIn run rule me stand (after_events rule (opened_pair rule run) events) event
  commits_exactly me me_is events event stand place there is =
      let pair = after_events rule (opened_pair rule run) events in
      subst (λ number. IsCommit (step_of_node rule pair number event).1 ↔ KnowsAllIn run rule me stand pair event) (sym is)
      (answers_by me me_is pair (all_events_keep run rule right events) event stand place there is)
