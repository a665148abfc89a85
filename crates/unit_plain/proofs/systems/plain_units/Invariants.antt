use Rattle.std.proofs.Common.{◌≡◌, ◌++◌, map, drop}
use Rattle.unit_tree.specs.Plain.{plain_unit}
use Rattle.unit_plain.proofs.systems.plain_units.Given as goal

abbrev pub invariant-loop-unit : goal.invariant-loop-unit
invariant-loop-unit l = map plain_unit l.units ≡ l.plain ++ map plain_unit (drop l.unit-index l.units)
