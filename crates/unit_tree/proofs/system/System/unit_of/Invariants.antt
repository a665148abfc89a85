use Rattle.std.proofs.Common.{◌≡◌, drop}
use Rattle.unit_tree.specs.Names.{unit_named}
use Rattle.unit_tree.proofs.system.System.unit_of.Given as goal

abbrev pub invariant-loop-unit : goal.invariant-loop-unit
invariant-loop-unit l = unit_named (drop l.unit-index l.units) l.name ≡ unit_named l.units l.name
