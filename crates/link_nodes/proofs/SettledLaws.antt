-- Once node 0 has ended and node 1 is at its row to stay, rounds change nothing more that is written or returned.
use Rattle.std.proofs.Common.{◌≡◌, ◌∙◌, ℕ, zero, suc, ◌+◌, ◌-◌, ◌<◌, ◌%◌, ◌==◌, Bool, true, false, List, [], ◌∷◌, ◌++◌, length, Option, Some, None, Ok, Err, refl, sym, ap, ap₂, subst, arith}
use Rattle.std.specs.List.{AllByRecursion, flat_map}
use Rattle.std.specs.Prelude.{IfSome, ⊤, if◌then◌else◌, is_some, not, reverse, slice_get, ◌&&◌, ◌||◌, OnOk}
use Rattle.std.proofs.lemmas.Bool.{eqb-true}
use Rattle.link_laws.specs.Boards.{Board, row_of}
use Rattle.link_laws.specs.Keeping.{IsHonest, IsPlace, IsRightMove, IsRightRule, IsTrueFact, KeepsTo, PairKeepsTo}
use Rattle.link_laws.specs.Making.{rule_of}
use Rattle.link_core.proofs.OwnerLaws.{as_many_owners}
use Rattle.link_laws.specs.Nodes.{by_turns, End, Go, Move, Progress, Rule, Stay, drops, has, knowing, making_of, moved, with_making, worked}
use Rattle.link_laws.specs.Pairs.{Pair, after_events, delivered, event_step, node_of, opened_pair, step_of_node}
use Rattle.link_laws.specs.declared.fact.Fact.{Fact}
use Rattle.link_laws.specs.declared.pair_event.PairEvent.{PairEvent}
use Rattle.link_laws.specs.declared.pair_event.PairEvent.TheVariants.{Deliver, Keep, Restart, Work}
use Rattle.link_laws.specs.declared.taken.Taken.TheVariants.{Dropped, Ended}
use Rattle.link_laws.proofs.PairLaws.{events_keep, found_is, knowing_keeps, move_of, true_is_honest}
use Rattle.link_laws.proofs.RuleLaws.{rule_is_right}
use Rattle.link_nodes.proofs.ExchangeLaws.{pair_there}
use Rattle.link_nodes.proofs.ShownRowLaws.{Done}
use Rattle.link_nodes.proofs.RoundLaws.{round_keeps, rounds_keep}
use Rattle.link_nodes.specs.Rounds.{after_round, after_rounds, arrivals, closing_events, numbered_sent, to_first, to_second}
use Rattle.link_nodes.specs.Settled.{IsSettled, RoundsSettle}
use Rattle.link_nodes.specs.Exchanges.{ExchangeComes, RoundsCome, exchange_rule, pair_of, rule_by_turns}
use Rattle.link_nodes.specs.Shown.{told_of}
use Rattle.link_nodes.specs.ShownRows.{ComesTo, IsJudged}
use Rattle.link_nodes.specs.declared.exchange.Exchange.{Exchange}
use Rattle.trace_plan.specs.Plans.{Planned}
use Rattle.unit_tree.specs.Compositions.{Composition}
use Rattle.unit_tree.specs.Successor.{Position, ends, goes, successor}
use Rattle.unit_tree.specs.Trace.{Stand}
use Rattle.unit_tree.specs.declared.ending.Ending.{Ending}

-- An event of a round: node 0 neither saves its position nor starts again.
abbrev pub IsOfRound : PairEvent → Type 0
IsOfRound (Work node) = ⊤
IsOfRound (Deliver node place) = ⊤
IsOfRound (Keep node) = node ≡ 1
IsOfRound (Restart node) = node ≡ 1

no_next : (next : Position) (ending : Ending) → goes next ≡ ends ending → ⊥
no_next next ending is = cc

-- A node that has ended does nothing more.
module _ (rule : Rule) (me : ℕ) (node : Progress) (ended : is_some node.ended ≡ true) where
  work_ends : (worked rule me node).0 ≡ node
  work_ends = ap (λ test. (if test then (node, Ended)
      else moved rule (with_making node (making_of rule me node)) (rule.move me node.at (making_of rule me node).known)).0) ended

  delivery_ends : (found : Option Fact) → (delivered rule me node found).0 ≡ node
  delivery_ends None = refl
  delivery_ends (Some fact) =
      ap (λ test. (if test || (not (row_of fact == node.at.number) || (not (rule.is_of (1 - me) fact) || has node.known fact)) then (node, Dropped)
      else worked rule me (knowing node fact)).0) ended

module _ (run : Composition) (rule : Rule) (right : IsRightRule run rule) where
  abbrev Stays : Progress → Progress → Type 0
  Stays node next = (next.at ≡ node.at) × (next.kept ≡ node.kept)

  -- ---- Node 1, where the trace ends

  module _ (stand : Stand) (place : IsPlace run stand) (ending : Ending) (ends_there : successor run stand.at stand.ports ≡ ends ending) where
    stand_is : (node : Progress) (keeps : KeepsTo run rule 1 node) → node.at.number ≡ stand.at.number → keeps.stand ≡ stand
    stand_is node keeps number =
        right.one keeps.stand stand keeps.stands.place place
        (sym (ap (λ (at : Position). at.number) keeps.stands.part ∙ right.numbers 1 keeps.stand.at) ∙ number)

    moved_stays : (node : Progress) (known : Board) (move : Move) → IsRightMove run rule 1 stand known move → Stays node (moved rule node move).0
    moved_stays node known Stay is = (refl, refl)
    moved_stays node known (Go at) (none, (next, to, part)) = absurd (no_next next.at ending (sym to.0 ∙ ends_there))
    moved_stays node known (End other) is = (refl, refl)

    work_stays : (node : Progress) → KeepsTo run rule 1 node → node.at.number ≡ stand.at.number → Stays node (worked rule 1 node).0
    work_stays node keeps number = by_end node.ended
      where
        move_is : IsRightMove run rule 1 stand (making_of rule 1 node).known (rule.move 1 node.at (making_of rule 1 node).known)
        move_is = subst (λ (one : Stand). IsRightMove run rule 1 one (making_of rule 1 node).known (rule.move 1 node.at (making_of rule 1 node).known))
            (stand_is node keeps number) (move_of run rule right 1 node keeps)

        by_end : (found : Option Ending) → Stays node (if is_some found then (node, Ended)
            else moved rule (with_making node (making_of rule 1 node)) (rule.move 1 node.at (making_of rule 1 node).known)).0
        by_end (Some other) = (refl, refl)
        by_end None = moved_stays (with_making node (making_of rule 1 node)) (making_of rule 1 node).known
            (rule.move 1 node.at (making_of rule 1 node).known) move_is

    take_stays : (node : Progress) → KeepsTo run rule 1 node → node.at.number ≡ stand.at.number → (fact : Fact) → IsHonest run fact → (dropped : Bool)
        → drops rule 1 node fact ≡ dropped → Stays node (if dropped then (node, Dropped) else worked rule 1 (knowing node fact)).0
    take_stays node keeps number fact honest true is = (refl, refl)
    take_stays node keeps number fact honest false is =
        work_stays (knowing node fact) (knowing_keeps run rule right 1 node keeps fact honest is) number

    deliver_stays : (node : Progress) → KeepsTo run rule 1 node → node.at.number ≡ stand.at.number → (facts : List Fact) → AllByRecursion (IsTrueFact run) facts
        → (at : ℕ) (found : Option Fact) → slice_get facts at ≡ found → Stays node (delivered rule 1 node found).0
    deliver_stays node keeps number facts so at None is = (refl, refl)
    deliver_stays node keeps number facts so at (Some fact) is =
        take_stays node keeps number fact (true_is_honest run rule right fact (found_is (IsTrueFact run) facts at fact so is)) (drops rule 1 node fact) refl

  -- ---- Pairs

  -- It is still settled, and node 0 is as it was.
  abbrev Settles : Pair → Pair → Type 0
  Settles pair next = IsSettled next × (next.first ≡ pair.first)

  settles_not : (pair : Pair) → IsSettled pair → Settles pair pair
  settles_not pair settled = (settled, refl)

  settles_on : (one two three : Pair) → Settles one two → Settles two three → Settles one three
  settles_on one two three first second = (second.0, second.1 ∙ first.1)

  same_first : (pair : Pair) (next : Progress) → IsSettled pair → next ≡ pair.first → Settles pair (record pair { first = next })
  same_first pair next settled is =
      (subst (λ (one : Progress). IsSettled (record pair { first = one })) (sym is) settled, is)

  same_second : (pair : Pair) (next : Progress) → IsSettled pair → Stays pair.second next → Settles pair (record pair { second = next })
  same_second pair next settled stays = (
    record {
      ended = settled.ended;
      there = ap (λ (at : Position). at.number) stays.0 ∙ settled.there;
      kept = ap (λ (at : Position). at.number) stays.1 ∙ settled.kept;
    },
    refl,
  )

  -- The end of the trace, where node 0 has ended.
  end_of : (ended : Option Ending) (stand : Stand) → is_some ended ≡ true → IfSome ended (λ ending. successor run stand.at stand.ports ≡ ends ending)
      → (ending : Ending) × (successor run stand.at stand.ports ≡ ends ending)
  end_of None stand is ends_there = absurd (cc)
  end_of (Some ending) stand is ends_there = (ending, ends_there)

  settles_by : (pair : Pair) → PairKeepsTo run rule pair → IsSettled pair → (event : PairEvent) → IsOfRound event → (number : ℕ) → node_of event ≡ number
      → Settles pair (step_of_node rule pair number event).0
  settles_by pair keeps settled (Work node) of zero is = same_first pair (worked rule 0 pair.first).0 settled (work_ends rule 0 pair.first settled.ended)
  settles_by pair keeps settled (Deliver node at) of zero is =
      same_first pair (delivered rule 0 pair.first (slice_get pair.second.facts at)).0 settled
      (delivery_ends rule 0 pair.first settled.ended (slice_get pair.second.facts at))
  settles_by pair keeps settled (Keep node) of zero is = absurd (omega (arith, of, is))
  settles_by pair keeps settled (Restart node) of zero is = absurd (omega (arith, of, is))
  settles_by pair keeps settled (Work node) of (suc zero) is =
      let end = end_of pair.first.ended keeps.first.stand settled.ended keeps.first.ended in
      same_second pair (worked rule 1 pair.second).0 settled
      (work_stays keeps.first.stand keeps.first.stands.place end.0 end.1 pair.second keeps.second
      (settled.there ∙ ap (λ (at : Position). at.number) keeps.first.stands.part ∙ right.numbers 0 keeps.first.stand.at))
  settles_by pair keeps settled (Deliver node at) of (suc zero) is =
      let end = end_of pair.first.ended keeps.first.stand settled.ended keeps.first.ended in
      same_second pair (delivered rule 1 pair.second (slice_get pair.first.facts at)).0 settled
      (deliver_stays keeps.first.stand keeps.first.stands.place end.0 end.1 pair.second keeps.second
      (settled.there ∙ ap (λ (at : Position). at.number) keeps.first.stands.part ∙ right.numbers 0 keeps.first.stand.at)
      pair.first.facts keeps.first.facts at (slice_get pair.first.facts at) refl)
  settles_by pair keeps settled (Keep node) of (suc zero) is = (record { ended = settled.ended; there = settled.there; kept = settled.there }, refl)
  settles_by pair keeps settled (Restart node) of (suc zero) is = (record { ended = settled.ended; there = settled.kept; kept = settled.kept }, refl)
  settles_by pair keeps settled event of (suc (suc number)) is = settles_not pair settled

  settles_along : (pair : Pair) → PairKeepsTo run rule pair → IsSettled pair → (events : List PairEvent) → AllByRecursion IsOfRound events
      → Settles pair (after_events rule pair events)
  settles_along pair keeps settled [] are = settles_not pair settled
  settles_along pair keeps settled (event ∷ events) are =
      let next = (event_step rule pair event).0 in
      let one = settles_by pair keeps settled event are.0 (node_of event) refl in
      settles_on pair next (after_events rule next events) one (settles_along next (events_keep run rule right pair (event ∷ []) keeps) one.0 events are.1)

  -- ---- Rounds

  deliveries : (node : ℕ) (numbered : List (ℕ × Fact)) → AllByRecursion IsOfRound (flat_map (λ one. Deliver node one.0 ∷ Deliver node one.0 ∷ []) numbered)
  deliveries node [] = tt
  deliveries node (one ∷ numbered) = (tt, (tt, deliveries node numbered))

  closing : (k : ℕ) → AllByRecursion IsOfRound (closing_events k)
  closing k = by_tests (k % 5 == 0) (k % 8 == 0)
    where
      by_tests : (keeps restarts : Bool) → AllByRecursion IsOfRound ((if keeps then Keep 1 ∷ [] else []) ++ (if restarts then Restart 1 ∷ [] else []))
      by_tests true true = (refl, (refl, tt))
      by_tests true false = (refl, tt)
      by_tests false true = (refl, tt)
      by_tests false false = tt

  round_settles : (seed k : ℕ) (pair : Pair) → PairKeepsTo run rule pair → IsSettled pair → Settles pair (after_round rule seed k pair)
  round_settles seed k pair keeps settled =
      let both : List PairEvent = Work 0 ∷ Work 1 ∷ [] in
      let worked = after_events rule pair both in
      let to_one : List PairEvent = arrivals 0 (numbered_sent seed k worked.first.at.number worked.second.facts) in
      let first = to_first rule seed k worked in
      let to_two : List PairEvent = arrivals 1 (numbered_sent seed k first.second.at.number first.first.facts) in
      let second = to_second rule seed k first in
      let one = settles_along pair keeps settled both (tt, (tt, tt)) in
      let one_keeps = events_keep run rule right pair both keeps in
      let two = settles_along worked one_keeps one.0 to_one (deliveries 0 (reverse (numbered_sent seed k worked.first.at.number worked.second.facts))) in
      let two_keeps = events_keep run rule right worked to_one one_keeps in
      let three = settles_along first two_keeps two.0 to_two (deliveries 1 (reverse (numbered_sent seed k first.second.at.number first.first.facts))) in
      let three_keeps = events_keep run rule right first to_two two_keeps in
      let four = settles_along second three_keeps three.0 (closing_events k) (closing k) in
      settles_on pair worked (after_round rule seed k pair) one
      (settles_on worked first (after_round rule seed k pair) two (settles_on first second (after_round rule seed k pair) three four))

  -- More rounds.
  keeps_more : (seed k more : ℕ) (pair : Pair) → PairKeepsTo run rule (after_rounds rule seed k pair) → PairKeepsTo run rule (after_rounds rule seed (more + k) pair)
  keeps_more seed k zero pair keeps =
      let same : k ≡ 0 + k = omega arith in
      subst (λ n. PairKeepsTo run rule (after_rounds rule seed n pair)) same keeps
  keeps_more seed k (suc more) pair keeps =
      let next : suc (more + k) ≡ suc more + k = omega arith in
      subst (λ n. PairKeepsTo run rule (after_rounds rule seed n pair)) next
      (round_keeps run rule right seed (suc (more + k)) (after_rounds rule seed (more + k) pair) (keeps_more seed k more pair keeps))

  pub rounds_settle : (seed k more : ℕ) (pair : Pair) → PairKeepsTo run rule (after_rounds rule seed k pair) → IsSettled (after_rounds rule seed k pair)
      → Settles (after_rounds rule seed k pair) (after_rounds rule seed (more + k) pair)
  rounds_settle seed k zero pair keeps settled =
      let same : k ≡ 0 + k = omega arith in
      subst (λ n. Settles (after_rounds rule seed k pair) (after_rounds rule seed n pair)) same (settles_not (after_rounds rule seed k pair) settled)
  rounds_settle seed k (suc more) pair keeps settled =
      let next : suc (more + k) ≡ suc more + k = omega arith in
      let before = rounds_settle seed k more pair keeps settled in
      subst (λ n. Settles (after_rounds rule seed k pair) (after_rounds rule seed n pair)) next
      (settles_on (after_rounds rule seed k pair) (after_rounds rule seed (more + k) pair) (after_rounds rule seed (suc (more + k)) pair) before
      (round_settles seed (suc (more + k)) (after_rounds rule seed (more + k) pair) (keeps_more seed k more pair keeps) before.0))

-- What is returned is the same.
pub told_same : (pair next : Pair) → IsSettled pair → IsSettled next → next.first ≡ pair.first → told_of next ≡ told_of pair
told_same pair next settled still same =
    let second : next.second.at.number ≡ pair.second.at.number =
    still.there ∙ ap (λ (one : Progress). one.at.number) same ∙ sym settled.there in
    ap₂ (λ (one : Progress) number. record { first = one.at.number; second = number; last = one.at.point; outcome = one.ended }) same second

-- Node 1 saves its position in each fifth round.
pub kept_now : (rule : Rule) (pair : Pair) (k : ℕ) → (k % 5 == 0) ≡ true
    → (after_events rule pair (closing_events k)).second.kept ≡ (after_events rule pair (closing_events k)).second.at
kept_now rule pair k is = by_tests (k % 5 == 0) (k % 8 == 0) is
  where
    by_tests : (keeps restarts : Bool) → keeps ≡ true
        → (after_events rule pair ((if keeps then Keep 1 ∷ [] else []) ++ (if restarts then Restart 1 ∷ [] else []))).second.kept
        ≡ (after_events rule pair ((if keeps then Keep 1 ∷ [] else []) ++ (if restarts then Restart 1 ∷ [] else []))).second.at
    by_tests true true keeps = refl
    by_tests true false keeps = refl
    by_tests false restarts keeps = absurd (cc)

pub rounds_settle_all : RoundsSettle
rounds_settle_all run order owners is_order are owns seed k more settled =
    let rule = rule_of run owners in
    let right = rule_is_right run order owners is_order are owns in
    let settles = rounds_settle run rule right seed k more (opened_pair rule run) (rounds_keep run rule right seed k) settled in
    (settles.1, told_same (after_rounds rule seed k (opened_pair rule run)) (after_rounds rule seed (more + k) (opened_pair rule run)) settled settles.0 settles.1)

-- ---- The rounds that are made

-- All were made, or they were given up.
pub rounds_come : (exchange : Exchange) (target : Pair) (next : Exchange) (old new : Option (List ℕ)) (faults faults' : ℕ) (result : Done)
    → ExchangeComes exchange target next old new faults faults' result → RoundsCome exchange target next old new faults faults' result
rounds_come exchange target next old new faults faults' result gone = record { told = by_result result gone.comes.there gone.second; comes = gone.comes }
  where
    by_result : (one : Done) → OnOk one (next.first.progress ≡ target.first) → OnOk one (next.second.progress ≡ target.second)
        → OnOk one (told_of (pair_of next) ≡ told_of target)
    by_result (Ok done) first second = ap₂ (λ (a b : Progress). told_of (record { first = a; second = b })) first second
    by_result (Err fault) first second = tt

both_true : (one other : Bool) → (one && other) ≡ true → (one ≡ true) × (other ≡ true)
both_true true other is = (refl, is)
both_true false other is = absurd (cc)

-- Those that were left out change nothing that is written or returned.
pub rounds_end : (exchange next : Exchange) (seed number all : ℕ) (old new : Option (List ℕ)) (faults faults' : ℕ) → number < all
    → ExchangeComes {T = Unit {0}} exchange (after_rounds (exchange_rule exchange) seed (number + 1) (pair_of exchange)) next old new faults faults' (Ok tt)
    → ((number + 1) % 5 == 0) ≡ true
    → (is_some next.first.progress.ended && (next.second.progress.at.number == next.first.progress.at.number)) ≡ true
    → PairKeepsTo next.plan.value.run (exchange_rule next) (pair_of next) → IsJudged next.plan.value
    → RoundsCome {T = Unit {0}} exchange (after_rounds (exchange_rule exchange) seed all (pair_of exchange)) next old new faults faults' (Ok tt)
rounds_end exchange next seed number all old new faults faults' within gone fifth at_end keeps judged =
    let rule = exchange_rule exchange in
    let pair = after_rounds rule seed (number + 1) (pair_of exchange) in
    let there : pair_of next ≡ pair = pair_there exchange pair next old new faults faults' gone in
    let run = exchange.plan.value.run in
    let order = subst IsJudged gone.plan judged in
    let right = rule_is_right run order.order (by_turns (length run.members)) order.is_order order.members (as_many_owners (length run.members)) in
    let pair_keeps : PairKeepsTo run rule pair =
    subst (PairKeepsTo run rule) there (subst (λ (p : Planned). PairKeepsTo p.run (rule_by_turns p.run) (pair_of next)) gone.plan keeps) in
    let both = both_true (is_some next.first.progress.ended) (next.second.progress.at.number == next.first.progress.at.number) at_end in
    let same_row : pair.second.at.number ≡ pair.first.at.number =
    subst (λ (p : Pair). p.second.at.number ≡ p.first.at.number) there
    (eqb-true next.second.progress.at.number next.first.progress.at.number both.1) in
    let kept : pair.second.kept ≡ pair.second.at = kept_after rule seed (number + 1) number (pair_of exchange) (omega arith) fifth in
    let settled : IsSettled pair = record {
      ended = subst (λ (p : Pair). is_some p.first.ended ≡ true) there both.0;
      there = same_row;
      kept = ap (λ (at : Position). at.number) kept ∙ same_row;
    } in
    let sum : (all - (number + 1)) + (number + 1) ≡ all = omega (arith, within) in
    let settles : (IsSettled (after_rounds rule seed all (pair_of exchange)))
    × ((after_rounds rule seed all (pair_of exchange)).first ≡ pair.first) =
    subst (λ n. (IsSettled (after_rounds rule seed n (pair_of exchange))) × ((after_rounds rule seed n (pair_of exchange)).first ≡ pair.first)) sum
    (rounds_settle run rule right seed (number + 1) (all - (number + 1)) (pair_of exchange) pair_keeps settled) in
    record {
      told = ap told_of there ∙ sym (told_same pair (after_rounds rule seed all (pair_of exchange)) settled settles.0 settles.1);
      comes = subst (λ (node : Progress). ComesTo {T = Unit {0}} exchange.plan.value exchange.first.progress node next.first.progress old new faults faults' (Ok tt))
          (sym settles.1) gone.comes;
    }
  where
    kept_after : (rule : Rule) (seed k number : ℕ) (start : Pair) → k ≡ suc number → (k % 5 == 0) ≡ true
        → (after_rounds rule seed k start).second.kept ≡ (after_rounds rule seed k start).second.at
    kept_after rule seed k number start is fifth' =
        subst (λ n. (after_rounds rule seed n start).second.kept ≡ (after_rounds rule seed n start).second.at) (sym is)
        (kept_now rule (to_second rule seed (suc number) (to_first rule seed (suc number) (after_events rule (after_rounds rule seed number start) (Work 0 ∷ Work 1 ∷ []))))
        (suc number) (ap (λ n. n % 5 == 0) (sym is) ∙ fifth'))
