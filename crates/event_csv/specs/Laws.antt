-- Laws of the text of a trace: the text that is written for the plain form is that of the system.
use Rattle.std.specs.Prelude.{◌≡◌, List}
use Rattle.super_time.specs.declared.point.Point.{Point}
use Rattle.trace_csv.specs.Columns.{columns_of}
use Rattle.trace_csv.specs.TraceText.{header_line, row_line, trace_text}
use Rattle.unit_tree.specs.Orders.{HasNoCycle}
use Rattle.unit_tree.specs.Printable.{IsRanged}
use Rattle.unit_tree.specs.Trace.{Row, IsTraceOf}
use Rattle.unit_tree.specs.WellFormed.{IsWellFormed, resolution_of}
use Rattle.unit_tree.specs.declared.ending.Ending.{Ending}
use Rattle.unit_tree.specs.declared.system.System.{System}
use Rattle.event_runs.specs.EventRuns.{event_members_of}
use Rattle.event_runs.specs.Readings.{HasShape, read_row, read_rows, system_shape}
use Rattle.event_csv.specs.EventText.{event_header, event_line, event_text}

-- The header of the plain form is that of the system.
abbrev pub HeadersAreRead : Type 0
HeadersAreRead = (system : System) → IsRanged system → IsWellFormed system → header_line system (columns_of system) ≡ event_header system

-- The line of a row of the plain form is that of the row which it means.
abbrev pub LinesAreRead : Type 0
LinesAreRead =
    (system : System) → IsRanged system → IsWellFormed system → (row : Row) → HasShape (system_shape system) row.words
    → row_line (resolution_of system) (columns_of system) row.point row.words ≡ event_line system (read_row (event_members_of system) row)

-- So the text of the trace of the plain form is that of the system's own trace.
abbrev pub TextsAreRead : Type 0
TextsAreRead =
    (system : System) → IsRanged system → IsWellFormed system → HasNoCycle system
    → (rows : List Row) (last : Point) (ending : Ending) → IsTraceOf system rows last ending
    → trace_text system rows ≡ event_text system (read_rows system rows)
