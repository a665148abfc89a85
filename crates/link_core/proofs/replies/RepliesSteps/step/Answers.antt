use Rattle.std.proofs.Common.{◌<◌, ◌∙◌, length, ap, arith}
use Rattle.step_rule.specs.Limits.{is_held_by}
use Rattle.link_core.proofs.KnownLaws.{known_long, known_there}
use Rattle.link_core.proofs.replies.RepliesSteps.step.Goals as goal
use Rattle.link_core.proofs.replies.RepliesSteps.step.Goals.{After-instances}

inside : (c : After-instances) → c.args.instance < length c.args.self.now.plan.now.run.members
inside c =
    let replies = c.args.self.now in
    omega (arith, c.requires.there, known_long replies.t replies.h replies.plan.now.run.members replies.said.now replies.long)

pub overflow_cast-instance : goal.overflow_cast-instance
overflow_cast-instance c = omega (arith, inside c, c.instances.ensures.count, c.instances.type_inv)

pub factor-factor-requires : goal.factor-factor-requires
factor-factor-requires c = record { there = inside c }

pub offset_bounds-self-instance : goal.offset_bounds-self-instance
offset_bounds-self-instance c =
    omega (arith, inside (goal.at.offset_bounds-self-instance c).After-instances, c.instances.ensures.count, c.instances.type_inv)

pub bounds-self-instance : goal.bounds-self-instance
bounds-self-instance c = omega (arith, inside (goal.at.bounds-self-instance c).After-instances, c.args.self.now.long)

pub returns-clause-step : goal.returns-clause-step
returns-clause-step c =
    let replies = c.args.self.now in
    known_there replies.plan.now.run replies.t replies.h c.args.instance c.factor-factor.result c.local_step-asked.result c.is_held_by.result c.slot.result
    replies.said.now _ (inside (goal.at.returns-clause-step c).After-instances) c.factor-factor.ensures.factor replies.long c.local_step-asked.ensures
    (c.is_held_by.ensures ∙ ap (is_held_by replies.h) c.local_step-asked.ensures) c.slot.ensures
