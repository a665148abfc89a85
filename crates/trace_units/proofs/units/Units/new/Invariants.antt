use Rattle.trace_units.proofs.FleetLaws.{IsFront}
use Rattle.trace_units.proofs.units.Units.new.Given as goal

abbrev pub invariant-loop-instance : goal.invariant-loop-instance
invariant-loop-instance l = IsFront l.plan.value.run.members l.instance l.list.items
