-- Rounds keep the invariant of a pair.
use Rattle.std.proofs.Common.{ℕ, zero, suc, [], ◌∷◌}
use Rattle.link_laws.specs.Keeping.{IsRightRule, PairKeepsTo}
use Rattle.link_laws.specs.Making.{rule_of}
use Rattle.link_laws.specs.Nodes.{Rule}
use Rattle.link_laws.specs.Pairs.{Pair, after_events, opened_pair}
use Rattle.link_laws.specs.declared.pair_event.PairEvent.TheVariants.{Work}
use Rattle.link_laws.proofs.PairLaws.{all_events_keep, events_keep}
use Rattle.link_laws.proofs.RuleLaws.{rule_is_right}
use Rattle.link_nodes.specs.Rounds.{RoundsKeepToTheTrace, arrivals, closing_events, after_round, after_rounds, numbered_sent, to_first, to_second}
use Rattle.unit_tree.specs.Compositions.{Composition}

module _ (run : Composition) (rule : Rule) (right : IsRightRule run rule) where
  pub round_keeps : (seed k : ℕ) (pair : Pair) → PairKeepsTo run rule pair → PairKeepsTo run rule (after_round rule seed k pair)
  round_keeps seed k pair keeps =
      let worked = after_events rule pair (Work 0 ∷ Work 1 ∷ []) in
      let one = events_keep run rule right pair (Work 0 ∷ Work 1 ∷ []) keeps in
      let two = events_keep run rule right worked (arrivals 0 (numbered_sent seed k worked.first.at.number worked.second.facts)) one in
      let first = to_first rule seed k worked in
      let three = events_keep run rule right first (arrivals 1 (numbered_sent seed k first.second.at.number first.first.facts)) two in
      events_keep run rule right (to_second rule seed k first) (closing_events k) three

  pub rounds_keep : (seed k : ℕ) → PairKeepsTo run rule (after_rounds rule seed k (opened_pair rule run))
  rounds_keep seed zero = all_events_keep run rule right []
  rounds_keep seed (suc k) = round_keeps seed (suc k) (after_rounds rule seed k (opened_pair rule run)) (rounds_keep seed k)

pub rounds_keep_to_the_trace : RoundsKeepToTheTrace
rounds_keep_to_the_trace run order owners is_order are owns seed k =
    rounds_keep run (rule_of run owners) (rule_is_right run order owners is_order are owns) seed k
