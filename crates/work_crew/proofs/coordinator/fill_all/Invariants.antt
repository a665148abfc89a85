use Rattle.trace_rows.proofs.Filling.{Filling}
use Rattle.work_crew.proofs.coordinator.fill_all.Given as goal

abbrev pub invariant-loop-instance : goal.invariant-loop-instance
invariant-loop-instance g l = Filling l.initial.run l.run l.instance
