use Rattle.std.proofs.Common.{◌≡◌, ◌∙◌, ap, arith, sym}
use Rattle.link_core.specs.Noted.{place_of}
use Rattle.link_core.proofs.KnownLaws.{known_long, no_redo, redo_missing, redo_read, stage_after}
use Rattle.link_core.specs.KnownSteps.{steps_known}
use Rattle.link_core.proofs.stage.stage_of_redo.Goals as goal
use Rattle.link_core.proofs.stage.stage_of_redo.Goals.{After-course_of_redo}
use Rattle.link_laws.specs.Stages.{stage_of_redo}
use Rattle.step_rule.specs.Courses.{course_of_redo}
use Rattle.step_rule.specs.Steps.{redo_result}

pub returns-then-not-are_made-clause-stage : goal.returns-then-not-are_made-clause-stage
returns-then-not-are_made-clause-stage c =
    redo_missing c.args.plan.now.run (place_of c.args.point) c.args.redos.now c.args.h c.are_made.result c.are_made.ensures c.if-not-are_made.true

pub course_of_redo-requires-clause-count : goal.course_of_redo-requires-clause-count
course_of_redo-requires-clause-count c = omega (
  arith,
  known_long c.args.point.t c.args.h c.args.plan.now.run.members c.args.redos.now c.requires.redos,
  c.instances.ensures.bounded.members,
)

-- The course decides the stage.
decided : (c : After-course_of_redo) → stage_after c.args.h c.course_of_redo.result
    ≡ stage_of_redo c.args.plan.now.run (place_of c.args.point) c.args.redos.now c.args.h
decided c =
    let run = c.args.plan.now.run in
    redo_read run (place_of c.args.point) c.args.redos.now c.args.h c.are_made.result c.course_of_redo.result c.are_made.ensures c.if-not-are_made.false
    (c.course_of_redo.ensures
    ∙ ap (λ zero. course_of_redo zero c.args.point c.args.h (steps_known c.args.point.t c.args.h run.members c.args.redos.now)) c.zero_budget.ensures.value)

pub returns-in-Redo-clause-stage : goal.returns-in-Redo-clause-stage
returns-in-Redo-clause-stage c =
    ap (stage_after c.args.h) (sym c.in-Redo.is) ∙ decided (goal.at.returns-in-Redo-clause-stage c).After-course_of_redo

pub returns-in-Redo-clause-step : goal.returns-in-Redo-clause-step
returns-in-Redo-clause-step c =
    absurd (no_redo c.zero_budget.result c.args.point c.args.h c.in-Redo.h
    (redo_result (steps_known c.args.point.t c.args.h c.args.plan.now.run.members c.args.redos.now)) (sym c.in-Redo.is ∙ c.course_of_redo.ensures))

pub returns-in-On-clause-stage : goal.returns-in-On-clause-stage
returns-in-On-clause-stage c =
    ap (stage_after c.args.h) (sym c.in-On.is) ∙ decided (goal.at.returns-in-On-clause-stage c).After-course_of_redo

pub returns-in-End-clause-stage : goal.returns-in-End-clause-stage
returns-in-End-clause-stage c =
    ap (stage_after c.args.h) (sym c.in-End.is) ∙ decided (goal.at.returns-in-End-clause-stage c).After-course_of_redo
