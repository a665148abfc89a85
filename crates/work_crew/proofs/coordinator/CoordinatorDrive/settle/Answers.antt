use Rattle.std.proofs.Common.{◌∙◌, arith}
use Rattle.trace_core.proofs.Settles.{settled_number, settled_plan}
use Rattle.work_crew.proofs.coordinator.CoordinatorDrive.settle.Goals as goal

pub invariant_of-self-clause-planned : goal.invariant_of-self-clause-planned
invariant_of-self-clause-planned g c = settled_plan c.args.self.now.run c.settle.new.self c.settle.result c.settle.ensures.settled ∙ c.args.self.now.planned

pub invariant_of-self-clause-not_ahead : goal.invariant_of-self-clause-not_ahead
invariant_of-self-clause-not_ahead g c =
    let no_fewer = settled_number c.args.self.now.run c.settle.new.self c.settle.result c.settle.ensures.settled in
    let before = c.args.self.now.not_ahead in
    omega (arith, no_fewer, before)
