use Rattle.std.proofs.Common.{◌≡◌, drop}
use Rattle.unit_tree.specs.Names.{unit_named}
use Rattle.trace_plan.proofs.fitting.number_of.Given as goal

abbrev pub invariant-loop-number : goal.invariant-loop-number
invariant-loop-number l = unit_named (drop l.number l.units) l.name ≡ unit_named l.units l.name
