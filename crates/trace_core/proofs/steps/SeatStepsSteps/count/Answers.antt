use Rattle.std.proofs.Common.{◌∙◌, sym}
use Rattle.trace_core.proofs.SeatSteps.{steps_long}
use Rattle.trace_core.proofs.steps.SeatStepsSteps.count.Goals as goal

pub returns : goal.returns
returns c = c.args.self.now.as_many ∙ sym (steps_long c.args.self.now.plan.now.run.members c.args.self.now.seats.now c.args.self.now.as_many)
