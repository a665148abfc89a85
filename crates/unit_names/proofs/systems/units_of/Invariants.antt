use Rattle.std.proofs.Common.{◌≡◌, ◌++◌, drop}
use Rattle.unit_names.proofs.systems.units_of.Given as goal

abbrev pub invariant-loop-unit : goal.invariant-loop-unit
invariant-loop-unit l = l.all.items ++ drop l.unit-index l.units ≡ l.units
