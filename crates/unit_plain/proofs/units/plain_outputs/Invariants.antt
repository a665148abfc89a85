use Rattle.std.proofs.Common.{◌≡◌, ◌++◌, map, drop}
use Rattle.unit_tree.specs.Plain.{plain_output}
use Rattle.unit_plain.proofs.units.plain_outputs.Given as goal

abbrev pub invariant-loop-output : goal.invariant-loop-output
invariant-loop-output l =
    map (plain_output l.unit) l.unit.outputs ≡ l.outputs ++ map (plain_output l.unit) (drop l.output-index l.unit.outputs)
