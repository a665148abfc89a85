use Rattle.std.proofs.Common.{◌<◌, ℕ}
use Rattle.nest_ways.specs.Sets.{HasAt}
use Rattle.nest_ways.proofs.sets.are_within.Given as goal

abbrev pub invariant-loop-place : goal.invariant-loop-place
invariant-loop-place l = (at bit : ℕ) → at < l.place → HasAt l.ones at bit → HasAt l.others at bit
