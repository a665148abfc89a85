use Rattle.std.proofs.Common.{◌≡◌}
use Rattle.trace_rows.proofs.Filling.{Filling}
use Rattle.serial_run.proofs.alone.step_all.Given as goal

abbrev pub invariant-loop-instance : goal.invariant-loop-instance
invariant-loop-instance l = Filling l.initial.run l.run l.instance × (l.run.found ≡ l.initial.run.found)
