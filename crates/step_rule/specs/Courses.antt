-- Where a run goes from the steps of a phase.
use Rattle.std.specs.Prelude.{ℕ, nat_lt, List, if◌then◌else◌, Option, Some, None, Result, Ok, Err}
use Rattle.super_time.specs.declared.point.Point.{Point}
use Rattle.step_rule.specs.AfterStep.{after_step}
use Rattle.step_rule.specs.Steps.{redo_result, trial_result}
use Rattle.step_rule.specs.declared.courses.Course.{Course}
use Rattle.step_rule.specs.declared.courses.Course.TheVariants.{Redo, On, End}
use Rattle.step_rule.specs.declared.rules.NextPoint.{NextPoint}
use Rattle.step_rule.specs.declared.rules.NextPoint.TheVariants as next
use Rattle.step_rule.specs.declared.steps.Step.{Step}
use Rattle.unit_tree.specs.declared.ending.Ending.{Ending}
use Rattle.unit_tree.specs.declared.ending.Ending.TheVariants.{ZeroBudget}

-- To the next point, or to the end by the zero budget.
abbrev pub course_after : NextPoint → Course
course_after (next.Next point) = On point
course_after next.ZeroBudget = End ZeroBudget

-- After a step of h, with this zero budget.
abbrev pub course_on : ℕ → Point → ℕ → Course
course_on zero_budget point h = course_after (after_step zero_budget point h)

-- To this ending, where there is one, and otherwise another course.
abbrev pub end_or : Option Ending → Course → Course
end_or (Some ending) course = End ending
end_or None course = course

-- By the result of a trial of h: to its ending, to a redo by the least reply where this is shorter, and otherwise on.
abbrev pub course_by : ℕ → Point → ℕ → Result ℕ Ending → Course
course_by zero_budget point h (Err ending) = End ending
course_by zero_budget point h (Ok least) = if nat_lt least h then Redo least else course_on zero_budget point h

-- From a trial of h.
abbrev pub course_of_trial : ℕ → Point → ℕ → List Step → Course
course_of_trial zero_budget point h steps = course_by zero_budget point h (trial_result point.t h steps)

-- From a redo by h: to its ending, where it has one, and otherwise on.
abbrev pub course_of_redo : ℕ → Point → ℕ → List Step → Course
course_of_redo zero_budget point h steps = end_or (redo_result steps) (course_on zero_budget point h)
