use Rattle.std.proofs.Common.{◌≤◌, ℕ}
use Rattle.nest_ways.specs.Sets.{HasAt}
use Rattle.nest_ways.proofs.sets.empty_before.Given as goal

abbrev pub invariant-loop-place : goal.invariant-loop-place
invariant-loop-place l = (at bit : ℕ) → HasAt l.words at bit → l.place ≤ at
