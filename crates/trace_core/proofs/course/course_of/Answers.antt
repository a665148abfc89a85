use Rattle.std.proofs.Common.{◌≤◌, length, arith}
use Rattle.model_rules.specs.Limits.{instance_limit}
use Rattle.trace_core.specs.Seats.{seat_steps}
use Rattle.trace_core.proofs.SeatSteps.{steps_long}
use Rattle.trace_core.proofs.course.course_of.Goals as goal
use Rattle.trace_core.proofs.course.course_of.Goals.{After-instances}

few : (c : After-instances) → length (seat_steps c.args.plan.now.run.members c.args.seats.now) ≤ instance_limit
few c = omega (arith, c.instances.ensures.bounded.members, steps_long c.args.plan.now.run.members c.args.seats.now c.requires.seats)

pub course_of_trial-requires-clause-count : goal.course_of_trial-requires-clause-count
course_of_trial-requires-clause-count c = few (goal.at.course_of_trial-requires-clause-count c).After-instances

pub course_of_redo-requires-clause-count : goal.course_of_redo-requires-clause-count
course_of_redo-requires-clause-count c = few (goal.at.course_of_redo-requires-clause-count c).After-instances
