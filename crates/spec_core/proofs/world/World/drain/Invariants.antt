use Rattle.spec_core.specs.Draining.{AreHandsSoFar}
use Rattle.spec_core.proofs.world.World.drain.Given as goal

abbrev pub invariant-loop-worker : goal.invariant-loop-worker
invariant-loop-worker l = AreHandsSoFar l.fn.self l.worker l.self l.count
