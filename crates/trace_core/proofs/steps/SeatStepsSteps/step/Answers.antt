use Rattle.std.proofs.Common.{◌∙◌, Some, ap, arith}
use Rattle.trace_core.specs.declared.seat.Seat.{Seat}
use Rattle.trace_core.proofs.SeatSteps.{steps_long, step_there}
use Rattle.trace_core.proofs.steps.SeatStepsSteps.step.Goals as goal

pub bounds-self-instance : goal.bounds-self-instance
bounds-self-instance c = omega (arith, c.requires.there, steps_long c.args.self.now.plan.now.run.members c.args.self.now.seats.now c.args.self.now.as_many)

pub overflow_cast-instance : goal.overflow_cast-instance
overflow_cast-instance c =
    omega (arith, c.requires.there, steps_long c.args.self.now.plan.now.run.members c.args.self.now.seats.now c.args.self.now.as_many, c.instances.ensures.count, c.instances.type_inv)

pub factor-requires : goal.factor-requires
factor-requires c =
    record { there = omega (arith, c.requires.there, steps_long c.args.self.now.plan.now.run.members c.args.self.now.seats.now c.args.self.now.as_many) }

pub offset_bounds-self-instance : goal.offset_bounds-self-instance
offset_bounds-self-instance c =
    omega (arith, c.requires.there, steps_long c.args.self.now.plan.now.run.members c.args.self.now.seats.now c.args.self.now.as_many, c.instances.ensures.count, c.instances.type_inv)

pub returns-clause-step : goal.returns-clause-step
returns-clause-step c =
    let run = c.args.self.now.plan.now.run in
    let seats = c.args.self.now.seats.now in
    let long = steps_long run.members seats c.args.self.now.as_many in
    step_there run seats c.args.instance c.factor.result c.index-self-instance.result (omega (arith, c.requires.there, long))
    (omega (arith, c.requires.there, long)) c.factor.ensures.factor c.index-self-instance.is
    ∙ ap (λ (seat : Seat). Some (record { factor = c.factor.result; asked = seat.step; slot = seat.slot })) c.index-self-instance.is
