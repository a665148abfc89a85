use Rattle.spec_core.proofs.OpeningLaws.{AreFirstLanes}
use Rattle.spec_core.proofs.opening.lanes_of.Given as goal

abbrev pub invariant-loop-instance : goal.invariant-loop-instance
invariant-loop-instance l = AreFirstLanes l.plan.run l.instance l.lanes.items
