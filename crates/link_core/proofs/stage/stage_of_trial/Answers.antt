use Rattle.std.proofs.Common.{◌≡◌, ◌∙◌, length, zip, ap, sym, arith}
use Rattle.std.specs.List.{list_all}
use Rattle.link_core.specs.KnownSteps.{steps_known}
use Rattle.link_core.specs.Noted.{place_of}
use Rattle.link_core.proofs.KnownLaws.{known_asked, known_long, redo_less, stage_led, trial_missing, trial_read}
use Rattle.link_core.proofs.stage.stage_of_trial.Goals as goal
use Rattle.link_core.proofs.stage.stage_of_trial.Goals.{After-course_of_trial}
use Rattle.link_laws.specs.Stages.{stage_of_redo, stage_of_trial}
use Rattle.step_rule.specs.Courses.{course_of_trial}
use Rattle.step_rule.specs.Steps.{is_made, trial_result}

pub returns-then-not-are_made-clause-stage : goal.returns-then-not-are_made-clause-stage
returns-then-not-are_made-clause-stage c =
    let run = c.args.plan.now.run in
    trial_missing run (place_of c.args.point) c.args.notes.now.replies.items c.args.h c.args.notes.now.redos.items c.are_made.result
    (c.are_made.ensures ∙ ap (λ said. list_all is_made (steps_known c.args.point.t c.args.h run.members said)) c.deref.ensures.value)
    c.if-not-are_made.true

pub course_of_trial-requires-clause-asked : goal.course_of_trial-requires-clause-asked
course_of_trial-requires-clause-asked c = known_asked c.args.point.t c.args.h (zip c.args.plan.now.run.members c.deref.result.now)

pub course_of_trial-requires-clause-count : goal.course_of_trial-requires-clause-count
course_of_trial-requires-clause-count c =
    omega (
      arith,
      known_long c.args.point.t c.args.h c.args.plan.now.run.members c.deref.result.now (ap length c.deref.ensures.value ∙ c.requires.notes.replies),
      c.instances.ensures.bounded.members,
    )

-- The course decides the stage.
decided : (c : After-course_of_trial) → stage_led c.args.plan.now.run (place_of c.args.point) c.args.notes.now.redos.items c.args.h c.course_of_trial.result
    ≡ stage_of_trial c.args.plan.now.run (place_of c.args.point) c.args.notes.now.replies.items c.args.notes.now.redos.items c.args.h
decided c =
    let run = c.args.plan.now.run in
    trial_read run (place_of c.args.point) c.args.notes.now.replies.items c.args.h c.args.notes.now.redos.items c.are_made.result c.course_of_trial.result
    c.requires.notes.replies
    (c.are_made.ensures ∙ ap (λ said. list_all is_made (steps_known c.args.point.t c.args.h run.members said)) c.deref.ensures.value)
    c.if-not-are_made.false
    (c.course_of_trial.ensures
    ∙ ap (λ zero. course_of_trial zero c.args.point c.args.h (steps_known c.args.point.t c.args.h run.members c.deref.result.now)) c.zero_budget.ensures.value
    ∙ ap (λ said. course_of_trial run.zero_budget c.args.point c.args.h (steps_known c.args.point.t c.args.h run.members said)) c.deref.ensures.value)

pub stage_of_redo-requires-clause-end : goal.stage_of_redo-requires-clause-end
stage_of_redo-requires-clause-end c =
    let less = redo_less c.zero_budget.result c.args.point c.args.h c.in-Redo.least
    (trial_result c.args.point.t c.args.h (steps_known c.args.point.t c.args.h c.args.plan.now.run.members c.deref.result.now))
    (sym c.in-Redo.is ∙ c.course_of_trial.ensures) in
    omega (arith, less, c.requires.end)

pub returns-in-Redo-clause-stage : goal.returns-in-Redo-clause-stage
returns-in-Redo-clause-stage c =
    let led = stage_led c.args.plan.now.run (place_of c.args.point) c.args.notes.now.redos.items c.args.h in
    c.stage_of_redo.ensures.stage
    ∙ ap (λ said. stage_of_redo c.args.plan.now.run (place_of c.args.point) said c.in-Redo.least) c.deref-in-Redo.ensures.value
    ∙ ap led (sym c.in-Redo.is) ∙ decided (goal.at.returns-in-Redo-clause-stage c).After-course_of_trial

pub returns-in-On-clause-stage : goal.returns-in-On-clause-stage
returns-in-On-clause-stage c =
    let led = stage_led c.args.plan.now.run (place_of c.args.point) c.args.notes.now.redos.items c.args.h in
    ap led (sym c.in-On.is) ∙ decided (goal.at.returns-in-On-clause-stage c).After-course_of_trial

pub returns-in-End-clause-stage : goal.returns-in-End-clause-stage
returns-in-End-clause-stage c =
    let led = stage_led c.args.plan.now.run (place_of c.args.point) c.args.notes.now.redos.items c.args.h in
    ap led (sym c.in-End.is) ∙ decided (goal.at.returns-in-End-clause-stage c).After-course_of_trial
