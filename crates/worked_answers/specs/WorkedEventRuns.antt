-- The trace of a system as it is written, worked out by hand. A pulse occurs at every other step, and a tally has the sum of the
-- pulses before.
use Rattle.std.specs.Prelude.{◌≡◌, ℕ, pos, List, [], ◌∷◌, ◌++◌, Some}
use Rattle.super_time.specs.declared.point.Point.{Point}
use Rattle.unit_tree.specs.declared.ending.Ending.TheVariants.{Completed}
use Rattle.event_runs.specs.EventRuns.{IsEventTraceOf, event_run_of}
use Rattle.event_runs.specs.EventTrace.{EventRow, EventStand, IsEventTrace, event_rows_of}
use Rattle.event_runs.specs.Events.{Signal, Occurs, Absent}
use Rattle.worked_answers.specs.WorkedEventTexts.{event_row, first_rows}
use Rattle.worked_facts.specs.WorkedTrace.{pulses}

-- At a tick the pulse has counted the steps, and the tally has this sum. These are the signals of both.
abbrev pub event_stand : ℕ → Signal → ℕ → EventStand
event_stand time pulse tally = record {
  at = record { point = record { t = time; n = 0 }; states = (pos time ∷ []) ∷ (pos tally ∷ []) ∷ []; number = time };
  signals = Some pulse ∷ Some (Occurs (pos tally)) ∷ [];
}

abbrev pub all_stands : List EventStand
all_stands =
    event_stand 0 Absent 0
    ∷ event_stand 1 (Occurs (pos 10)) 0
    ∷ event_stand 2 Absent 10
    ∷ event_stand 3 (Occurs (pos 30)) 10
    ∷ event_stand 4 Absent 40
    ∷ []

-- The rows at which the text of the trace begins, and two more.
abbrev pub all_rows : List EventRow
all_rows = first_rows ++ (event_row 3 (Occurs (pos 30)) 10 ∷ event_row 4 Absent 40 ∷ [])

abbrev pub last_point : Point
last_point = record { t = 4; n = 0 }

pub record EventRunsAreWorked : Type 0 where
  pub trace : IsEventTrace (event_run_of pulses) all_stands Completed
  pub rows : event_rows_of (event_run_of pulses) all_stands ≡ all_rows
  pub outcome : IsEventTraceOf pulses all_rows last_point Completed
