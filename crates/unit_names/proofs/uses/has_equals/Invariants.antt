use Rattle.std.proofs.Common.{◌≡◌, drop}
use Rattle.unit_tree.specs.WellFormed.{has_equals}
use Rattle.unit_names.proofs.uses.has_equals.Given as goal

abbrev pub invariant-loop-place : goal.invariant-loop-place
invariant-loop-place l = has_equals (drop l.place l.names) ≡ has_equals l.names
