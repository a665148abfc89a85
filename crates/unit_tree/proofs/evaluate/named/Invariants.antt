use Rattle.std.proofs.Common.{◌≡◌, drop}
use Rattle.unit_tree.specs.Values.{AreTyped, value_of_name}
use Rattle.unit_tree.proofs.evaluate.named.Given as goal

abbrev pub invariant-loop-place : goal.invariant-loop-place
invariant-loop-place l =
    (value_of_name l.variables l.words l.name ≡ value_of_name (drop l.place l.variables) (drop l.place l.words) l.name)
    × AreTyped (drop l.place l.variables)
