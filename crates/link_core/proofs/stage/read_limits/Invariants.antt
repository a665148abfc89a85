use Rattle.link_core.proofs.StageBodies.{LimitedSoFar}
use Rattle.link_core.proofs.stage.read_limits.Given as goal

abbrev pub invariant-loop-instance : goal.invariant-loop-instance
invariant-loop-instance l = LimitedSoFar l.plan.run l.limits l.t l.instance l.least
