use Rattle.std.proofs.Common.{◌≡◌, ℕ, Some, length}
use Rattle.std.specs.Prelude.{slice_get}
use Rattle.nest_ways.specs.declared.sets.NumberSet.{NumberSet}
use Rattle.nest_ways.proofs.numbers.no_sets.Given as goal

abbrev pub invariant-loop : goal.invariant-loop
invariant-loop l = (length l.sets.items ≡ l.counter) × ((place : ℕ) (set : NumberSet) → slice_get l.sets.items place ≡ Some (Some set) → ⊥)
