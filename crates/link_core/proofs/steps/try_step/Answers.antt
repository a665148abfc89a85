use Rattle.std.proofs.Common.{◌∙◌, ap, length, subst}
use Rattle.link_core.proofs.TriedSteps.{put_back, shaped_same, steps_plan, tried}
use Rattle.link_core.proofs.steps.try_step.Goals as goal
use Rattle.port_solve.specs.Solved.{HaveStates}
use Rattle.trace_plan.specs.Plans.{Planned}
use Rattle.trace_units.specs.Fleets.{with_state}

pub restore-requires-clause-same_length : goal.restore-requires-clause-same_length
restore-requires-clause-same_length c =
    let run = c.args.plan.now.run in
    let new = c.do_step-made.new.self in
    let plan = steps_plan c.args.units.now new c.args.instance c.local_time-time.result c.local_step-step.result c.do_step-made.result c.do_step-made.ensures
    ∙ c.requires.tied in
    let have = subst (λ (p : Planned). HaveStates p.run c.args.units.now.states) c.requires.tied c.count.ensures.states in
    let had = subst (λ (p : Planned). HaveStates p.run new.states) plan c.count-2.ensures.states in
    ap length c.copy_words.ensures
    ∙ shaped_same run c.args.units.now.states new.states c.args.instance c.state.result.now c.requires.there have had c.state.ensures

pub returns-clause-kept : goal.returns-clause-kept
returns-clause-kept c =
    c.restore.ensures
    ∙ ap (with_state c.do_step-made.new.self c.args.instance) c.copy_words.ensures
    ∙ put_back c.args.units.now c.do_step-made.new.self c.args.instance c.local_time-time.result c.local_step-step.result c.do_step-made.result
    c.state.result.now c.do_step-made.ensures c.state.ensures

pub returns-clause-said : goal.returns-clause-said
returns-clause-said c = λ ports member state fed m s.
    tried c.args.units.now c.args.plan.now.run (ap (λ (p : Planned).
    p.run) c.requires.tied) c.args.instance c.args.t c.args.h c.factor-factor.result c.local_time-time.result c.local_step-step.result
    ports member state fed m s
    (c.factor-factor.ensures.factor member m) c.local_time-time.ensures c.local_step-step.ensures c.do_step-made.new.self c.do_step-made.result c.said.result
    c.is_held.result c.do_step-made.ensures c.said.ensures c.is_held.ensures c.if-is_held.false
