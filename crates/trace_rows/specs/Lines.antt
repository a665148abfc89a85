-- What a run writes and counts for its header and rows.
use Rattle.std.specs.Prelude.{◌≡◌, ℕ, ◌+◌, ◌+ℤ◌, List, [], ◌∷◌, length, Option, Result, OnOk, OnErr}
use Rattle.std.specs.List.{flat_map}
use Rattle.std.specs.Io.KnownBytes.{Appends}
use Rattle.cosim_io.specs.Pieces.{AppendsPrefix}
use Rattle.trace_csv.specs.Columns.{columns_of}
use Rattle.trace_csv.specs.TraceText.{header_line, row_line}
use Rattle.trace_plan.specs.Plans.{Planned}
use Rattle.unit_tree.specs.Trace.{Stand, Row, rows_of}
use Rattle.unit_tree.specs.WellFormed.{resolution_of}
use Rattle.unit_tree.specs.declared.system.System.{System}
use Rattle.trace_rows.specs.Faults.{TellsFault}
use Rattle.trace_rows.specs.Sums.{sum_shown}
use Rattle.trace_rows.specs.declared.fault.CrewFault.{CrewFault}
use Rattle.trace_rows.specs.declared.tally.Tally.{Tally}

-- The header of the trace of a system.
unfoldable pub header_of : System → List ℕ
header_of system = header_line system (columns_of system)

-- The lines of rows in the trace of a system.
unfoldable pub lines_of : System → List Row → List ℕ
lines_of system rows = flat_map (λ row. row_line (resolution_of system) (columns_of system) row.point row.words) rows

-- The row of a stand, where it has one.
abbrev pub rows_here : Planned → Stand → List Row
rows_here plan stand = rows_of plan.run (stand ∷ [])

-- The row of a stand was written, where it has one, and counted.
pub record IsPut (plan : Planned) (stand : Stand) (old new : Option (List ℕ)) (before after : Tally) : Type 0 where
  pub out : Appends old new (lines_of plan.system (rows_here plan stand))
  pub rows : after.rows ≡ before.rows + length (rows_here plan stand)
  pub sum : after.sum ≡ before.sum +ℤ sum_shown (columns_of plan.system) (rows_here plan stand)

-- The same, or a prefix of the row was written.
pub record PutsRow (plan : Planned) (stand : Stand) (old new : Option (List ℕ)) (faults faults' : ℕ) (before after : Tally)
    (result : Result (Unit {0}) CrewFault) : Type 0 where
  pub whole : OnOk result (IsPut plan stand old new before after)
  pub front : OnErr result (AppendsPrefix old new (lines_of plan.system (rows_here plan stand)))
  pub cause : TellsFault faults faults' result
