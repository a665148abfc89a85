use Rattle.std.proofs.Common.{◌≡◌}
use Rattle.trace_core.specs.Seats.{saved}
use Rattle.trace_core.proofs.LoopLaws.{restored_so_far}
use Rattle.trace_core.proofs.steps.restore_all.Given as goal

abbrev pub invariant-loop-instance : goal.invariant-loop-instance
invariant-loop-instance l = l.units ≡ restored_so_far l.fn.units (saved l.snaps l.seats) l.instance
