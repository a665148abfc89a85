-- Rounds, as far as node 0 is concerned: it only goes on.
use Rattle.std.proofs.Common.{◌≡◌, ◌∙◌, ℕ, zero, suc, ◌+◌, ◌%◌, ◌==◌, Bool, true, false, List, [], ◌∷◌, ◌++◌, map, refl, sym, ap, subst, arith}
use Rattle.std.specs.Prelude.{if◌then◌else◌, reverse}
use Rattle.link_laws.specs.Making.{rule_of}
use Rattle.link_laws.specs.Nodes.{Rule}
use Rattle.link_laws.specs.Pairs.{Pair, after_events}
use Rattle.link_laws.specs.declared.pair_event.PairEvent.TheVariants.{Keep, Restart, Work}
use Rattle.link_nodes.proofs.ArrivalLaws.{fact_of, first_told, second_told}
use Rattle.link_nodes.proofs.LaterLaws.{IsLater, all_later, later_still, same_later, worked_later}
use Rattle.link_nodes.specs.Rounds.{after_round, after_rounds, closing_events, numbered_sent, to_first, to_second}
use Rattle.unit_tree.specs.Compositions.{Composition}

-- The first node of a pair is that of another.
pub kept_first : (rule : Rule) (pair : Pair) (k : ℕ) → (after_events rule pair (closing_events k)).first ≡ pair.first
kept_first rule pair k = by_tests (k % 5 == 0) (k % 8 == 0)
  where
    by_tests : (keeps restarts : Bool) → (after_events rule pair
        ((if keeps then Keep 1 ∷ [] else []) ++ (if restarts then Restart 1 ∷ [] else []))).first ≡ pair.first
    by_tests true true = refl
    by_tests true false = refl
    by_tests false true = refl
    by_tests false false = refl

pub second_first : (rule : Rule) (seed k : ℕ) (pair : Pair) → (to_second rule seed k pair).first ≡ pair.first
second_first rule seed k pair = ap (λ (p : Pair). p.first)
    (second_told rule seed k pair (map fact_of (numbered_sent seed k pair.second.at.number pair.first.facts)) refl)

module _ (run : Composition) (owners : List ℕ) where
  abbrev rule : Rule
  rule = rule_of run owners

  pub first_later : (seed k : ℕ) (pair : Pair) → IsLater pair.first (to_first rule seed k pair).first
  first_later seed k pair =
      let transit = map fact_of (numbered_sent seed k pair.first.at.number pair.second.facts) in
      subst (λ (p : Pair). IsLater pair.first p.first) (sym (first_told rule seed k pair transit refl)) (all_later run owners 0 pair.first (reverse transit))

  -- What is left of a round, from each of its parts on.
  pub rest_later : (seed k : ℕ) (pair : Pair) → IsLater pair.first (after_events rule (to_second rule seed k pair) (closing_events k)).first
  rest_later seed k pair = subst (IsLater pair.first) (sym (kept_first rule (to_second rule seed k pair) k ∙ second_first rule seed k pair))
      (same_later pair.first)

  pub told_later : (seed k : ℕ) (pair : Pair) → IsLater pair.first (after_events rule (to_second rule seed k (to_first rule seed k pair)) (closing_events k)).first
  told_later seed k pair =
      let one = to_first rule seed k pair in
      later_still pair.first one.first (after_events rule (to_second rule seed k one) (closing_events k)).first (first_later seed k pair) (rest_later seed k one)

  pub round_later : (seed k : ℕ) (pair : Pair) → IsLater pair.first (after_round rule seed k pair).first
  round_later seed k pair =
      let one = after_events rule pair (Work 0 ∷ Work 1 ∷ []) in
      later_still pair.first one.first (after_round rule seed k pair).first (worked_later run owners 0 pair.first) (told_later seed k one)

  -- More rounds.
  pub rounds_later : (seed k more : ℕ) (pair : Pair) → IsLater (after_rounds rule seed k pair).first (after_rounds rule seed (more + k) pair).first
  rounds_later seed k zero pair =
      let same : 0 + k ≡ k = omega arith in
      subst (λ n. IsLater (after_rounds rule seed k pair).first (after_rounds rule seed n pair).first) (sym same)
      (same_later (after_rounds rule seed k pair).first)
  rounds_later seed k (suc more) pair =
      let next : suc more + k ≡ suc (more + k) = omega arith in
      subst (λ n. IsLater (after_rounds rule seed k pair).first (after_rounds rule seed n pair).first) (sym next)
      (later_still (after_rounds rule seed k pair).first (after_rounds rule seed (more + k) pair).first (after_rounds rule seed (suc (more + k)) pair).first
      (rounds_later seed k more pair) (round_later seed (suc (more + k)) (after_rounds rule seed (more + k) pair)))
