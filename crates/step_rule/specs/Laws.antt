-- Laws of the steps of a phase.
use Rattle.std.specs.Prelude.{◌≡◌, ℕ, [], ◌∷◌, List, length, map, zip, Option, Result, Ok, None}
use Rattle.fixed_words.specs.declared.types.Fault.{Fault}
use Rattle.super_time.specs.declared.point.Point.{Point}
use Rattle.step_rule.specs.Courses.{course_of_redo, course_of_trial}
use Rattle.step_rule.specs.Steps.{ending_or, member_steps, redo_result, trial_result}
use Rattle.step_rule.specs.declared.courses.Course.TheVariants.{On, Redo}
use Rattle.step_rule.specs.declared.steps.Slot.TheVariants.{Held, Took}
use Rattle.step_rule.specs.declared.steps.Step.{Step}
use Rattle.unit_tree.specs.Components.{Moved}
use Rattle.unit_tree.specs.Compositions.{Member}
use Rattle.unit_tree.specs.Negotiation.{least_of, reply_at}
use Rattle.unit_tree.specs.Successor.{first_told, redo_end_of, step_end_of}

-- The result of a trial is the ending of the first member that has one, or the least of h and of the members' replies.
abbrev pub TrialsAreRead : Type 0
TrialsAreRead =
    (t h : ℕ) (members : List Member) (results : List (Option (Result Moved Fault))) → length results ≡ length members
    → trial_result t h (member_steps t h members results)
    ≡ ending_or (first_told step_end_of results) (least_of h (map (reply_at t h) (zip members results)))

-- The result of a redo is the ending of the first member that has one.
abbrev pub RedosAreRead : Type 0
RedosAreRead =
    (t h : ℕ) (members : List Member) (results : List (Option (Result Moved Fault)))
    → redo_result (member_steps t h members results) ≡ first_told (redo_end_of t h) (zip members results)

-- ---- A worked case

-- A step of 20 from 15, by components whose local ticks are 1, 10 and 100 ticks: they are asked for 20, for 2 and for no local ticks.
-- The first accepts 20. The second accepts 1, which ends at 20, so its reply is 5. The third is held.
abbrev pub worked_trial : List Step
worked_trial =
    record { factor = 1; asked = 20; slot = Took 20 } ∷ record { factor = 10; asked = 2; slot = Took 1 }
    ∷ record { factor = 100; asked = 0; slot = Held }
    ∷ []

-- The redo of 5 asks for 5, for 1 and for no local ticks, which are accepted.
abbrev pub worked_redo : List Step
worked_redo =
    record { factor = 1; asked = 5; slot = Took 5 } ∷ record { factor = 10; asked = 1; slot = Took 1 }
    ∷ record { factor = 100; asked = 0; slot = Held }
    ∷ []

abbrev worked_point : Point
worked_point = record { t = 15; n = 0 }

pub record TrialIsWorked : Type 0 where
  pub agreed : trial_result 15 20 worked_trial ≡ Ok 5
  pub shorter : course_of_trial 3 worked_point 20 worked_trial ≡ Redo 5
  pub redone : redo_result worked_redo ≡ None
  pub goes_on : course_of_redo 3 worked_point 5 worked_redo ≡ On (record { t = 20; n = 0 })
