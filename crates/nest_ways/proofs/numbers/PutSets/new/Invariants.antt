use Rattle.std.proofs.Common.{◌≡◌, ℕ, length}
use Rattle.nest_ways.specs.Sets.{HasNumberAt}
use Rattle.nest_ways.proofs.numbers.PutSets.new.Given as goal

abbrev pub invariant-loop : goal.invariant-loop
invariant-loop l = (length l.sets.items ≡ l.counter) × ((scope number : ℕ) → HasNumberAt l.sets.items scope number → ⊥)
