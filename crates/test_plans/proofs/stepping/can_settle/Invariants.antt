use Rattle.test_plans.proofs.StepLaws.{NoneWanted}
use Rattle.test_plans.proofs.stepping.can_settle.Given as goal

abbrev pub invariant-loop-instance : goal.invariant-loop-instance
invariant-loop-instance l = NoneWanted l.run.cells l.instance
