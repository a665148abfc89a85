use Rattle.std.proofs.Common.{◌≡◌}
use Rattle.step_log.proofs.Beginnings.{LimitedFrom}
use Rattle.step_log.proofs.negotiating.limiter.Given as goal

abbrev pub invariant-loop-instance : goal.invariant-loop-instance
invariant-loop-instance l = (l.run ≡ l.initial.run) × LimitedFrom l.initial.run l.h l.instance
