use Rattle.std.proofs.Common.{◌≡◌, true, false, ◌∷◌, [], inl, inr, refl, ap}
use Rattle.std.specs.Prelude.{codes}
use Rattle.std.specs.Str.{bytes_eq}
use Rattle.unit_tree.specs.Orders.{IsIn, DependsOn, needs, through, IsOrderly}
use Rattle.unit_tree.specs.Parts.{system_of}
use Rattle.worked_facts.specs.WorkedSystems.{joins, pair_with, ring, behind_ring, y_of}
use Rattle.language_laws.proofs.OrderLaws.{on_cycle, behind_cycle}
use Rattle.worked_facts.proofs.language.orders_are_worked.Goals as goal

b_is_not_a : IsIn (y_of (codes "b") ∷ []) (y_of (codes "a")) → ⊥
b_is_not_a (inl same) = let told : true ≡ false = ap (λ port. bytes_eq port.instance (codes "b")) same in absurd (cc told)
b_is_not_a (inr none) = none

a_is_not_b : IsIn (y_of (codes "a") ∷ []) (y_of (codes "b")) → ⊥
a_is_not_b (inl same) = let told : true ≡ false = ap (λ port. bytes_eq port.instance (codes "a")) same in absurd (cc told)
a_is_not_b (inr none) = none

chain_is : IsOrderly (system_of 1 (pair_with (joins (codes "b") (codes "a") ∷ []))) (y_of (codes "b") ∷ y_of (codes "a") ∷ [])
chain_is = (inr (inl refl), (λ none. none), _, (inl refl, b_is_not_a, (inl refl, _), _))

ring_is : DependsOn (system_of 1 ring) (y_of (codes "a")) (y_of (codes "a"))
ring_is = through (y_of (codes "a")) (y_of (codes "b")) (y_of (codes "a")) (inl refl) (needs (y_of (codes "b")) (y_of (codes "a")) (inl refl))

ring_is_there : DependsOn (system_of 1 behind_ring) (y_of (codes "a")) (y_of (codes "a"))
ring_is_there = through (y_of (codes "a")) (y_of (codes "b")) (y_of (codes "a")) (inl refl) (needs (y_of (codes "b")) (y_of (codes "a")) (inl refl))

pub returns : goal.returns
returns c = record {
  chain_has_all = (y_of (codes "b") ∷ y_of (codes "a") ∷ [], chain_is, (inr (inl refl), (inl refl, _)));
  instances_only =
      (y_of (codes "a") ∷ y_of (codes "b") ∷ [], (inl refl, (λ none. none), _, (inr (inl refl), a_is_not_b, _, _)), (inl refl, (inr (inl refl), _)));
  first_of_ring = record {
    before = [];
    later = y_of (codes "b") ∷ [];
    cut = refl;
    has_no_order = on_cycle (system_of 1 ring) (y_of (codes "a")) ring_is;
    is_first = _;
  };
  line_of_ring = refl;
  first_behind_ring = record {
    before = [];
    later = y_of (codes "a") ∷ y_of (codes "b") ∷ [];
    cut = refl;
    has_no_order =
        behind_cycle (system_of 1 behind_ring) (y_of (codes "c")) (y_of (codes "a")) (needs (y_of (codes "c")) (y_of (codes "a")) (inl refl))
        (on_cycle (system_of 1 behind_ring) (y_of (codes "a")) ring_is_there);
    is_first = _;
  };
}
