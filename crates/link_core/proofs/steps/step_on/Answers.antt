use Rattle.std.proofs.Common.{ap, refl}
use Rattle.link_core.proofs.TriedSteps.{is_stepped, stays_held, stays_not_own, steps_plan}
use Rattle.link_core.proofs.steps.step_on.Goals as goal
use Rattle.super_time.specs.LocalTime.{local_step, local_time}
use Rattle.trace_plan.specs.Plans.{Planned}

pub returns-then-not-own-clause-stepped : goal.returns-then-not-own-clause-stepped
returns-then-not-own-clause-stepped c = λ ports member state fed m s.
    stays_not_own c.args.units.now c.args.plan.now.run (ap (λ (p : Planned). p.run) c.requires.tied) c.args.instance c.args.t c.args.h member.factor
    (local_time member.factor c.args.t) (local_step member.factor c.args.t c.args.h)
    ports member state fed m s refl refl refl c.args.own c.if-not-own.true

pub returns-then-is_held-clause-stepped : goal.returns-then-is_held-clause-stepped
returns-then-is_held-clause-stepped c = λ ports member state fed m s.
    stays_held c.args.units.now c.args.plan.now.run (ap (λ (p : Planned). p.run) c.requires.tied) c.args.instance c.args.t c.args.h c.factor-factor.result
    (local_time c.factor-factor.result c.args.t) (local_step c.factor-factor.result c.args.t c.args.h)
    ports member state fed m s
    (c.factor-factor.ensures.factor member m) refl refl c.args.own c.is_held.result c.if-not-own.false c.is_held.ensures c.if-is_held.true

pub returns-clause-stepped : goal.returns-clause-stepped
returns-clause-stepped c = λ ports member state fed m s.
    is_stepped c.args.units.now c.args.plan.now.run (ap
    (λ (p : Planned). p.run) c.requires.tied) c.args.instance c.args.t c.args.h c.factor-factor.result c.local_time-time.result c.local_step-step.result
    ports member state fed m s
    (c.factor-factor.ensures.factor member m) c.local_time-time.ensures c.local_step-step.ensures c.do_step.new.self c.do_step.result c.args.own
    c.is_held.result c.do_step.ensures c.if-not-own.false c.is_held.ensures c.if-is_held.false

pub returns-clause-plan : goal.returns-clause-plan
returns-clause-plan c =
    steps_plan c.args.units.now c.do_step.new.self c.args.instance c.local_time-time.result c.local_step-step.result c.do_step.result c.do_step.ensures
