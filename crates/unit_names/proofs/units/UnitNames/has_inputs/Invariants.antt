use Rattle.std.proofs.Common.{◌≡◌, drop}
use Rattle.unit_tree.specs.Names.{are_among, input_names}
use Rattle.unit_names.proofs.units.UnitNames.has_inputs.Given as goal

abbrev pub invariant-loop-name : goal.invariant-loop-name
invariant-loop-name l = are_among (input_names l.self) (drop l.name-index l.names) ≡ are_among (input_names l.self) l.names
