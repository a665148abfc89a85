use Rattle.spec_core.proofs.ActLaws.{NoneWantedBelow}
use Rattle.spec_core.proofs.world.are_steps_there.Given as goal

abbrev pub invariant-loop-instance : goal.invariant-loop-instance
invariant-loop-instance l = NoneWantedBelow l.run l.instance
