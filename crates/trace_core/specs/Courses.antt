-- Where a run goes from the full seats of a phase.
use Rattle.std.specs.Prelude.{⊤, ℕ, ◌+◌, ◌≤◌, ◌^◌, List}
use Rattle.super_time.specs.declared.point.Point.{Point}
use Rattle.step_rule.specs.Courses.{course_of_redo, course_of_trial}
use Rattle.step_rule.specs.Steps.{AreAsked}
use Rattle.step_rule.specs.declared.courses.Course.{Course}
use Rattle.step_rule.specs.declared.courses.Course.TheVariants.{End}
use Rattle.trace_core.specs.Seats.{seat_steps}
use Rattle.trace_core.specs.declared.phase.Phase.{Phase}
use Rattle.trace_core.specs.declared.phase.Phase.TheVariants as phase
use Rattle.trace_core.specs.declared.seat.Seat.{Seat}
use Rattle.unit_tree.specs.Compositions.{Composition}

-- By the phase. Nothing follows the end.
abbrev pub course_in : Composition → Point → Phase → List Seat → Course
course_in run point (phase.Trial h) seats = course_of_trial run.zero_budget point h (seat_steps run.members seats)
course_in run point (phase.Redo h) seats = course_of_redo run.zero_budget point h (seat_steps run.members seats)
course_in run point (phase.Ended ending) seats = End ending

-- The members are asked for their local steps of a trial, which ends within the range of times.
pub record IsTriedBy (run : Composition) (t h : ℕ) (seats : List Seat) : Type 0 where
  pub asked : AreAsked t h (seat_steps run.members seats)
  pub in_time : t + h ≤ 10 ^ 15

-- What is known of the seats of a phase that can be read.
abbrev pub IsReady : Composition → ℕ → Phase → List Seat → Type 0
IsReady run t (phase.Trial h) seats = IsTriedBy run t h seats
IsReady run t (phase.Redo h) seats = t + h ≤ 10 ^ 15
IsReady run t (phase.Ended ending) seats = ⊤
