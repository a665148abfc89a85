-- What a run writes and reports.
use Rattle.std.specs.Prelude.{◌≡◌, ℕ, ◌+◌, List, length, Option}
use Rattle.std.specs.Io.KnownBytes.{Appends}
use Rattle.cosim_io.specs.Pieces.{AppendsPrefix}
use Rattle.super_time.specs.declared.point.Point.{Point}
use Rattle.trace_core.specs.Runs.{RunState}
use Rattle.trace_core.specs.declared.phase.Phase.TheVariants.{Ended}
use Rattle.trace_csv.specs.Columns.{columns_of}
use Rattle.trace_csv.specs.TraceText.{trace_text}
use Rattle.trace_plan.specs.Plans.{Planned}
use Rattle.unit_tree.specs.Successor.{Position}
use Rattle.unit_tree.specs.Trace.{Stand, GoesOnFrom, Row, rows_of, last_point, cells_of, IsTraceOf, HasCells}
use Rattle.unit_tree.specs.declared.ending.Ending.{Ending}
use Rattle.unit_tree.specs.declared.system.System.{System}
use Rattle.trace_rows.specs.Lines.{lines_of}
use Rattle.trace_rows.specs.Sums.{sum_shown}
use Rattle.trace_rows.specs.declared.report.Report.{Report}
use Rattle.trace_rows.specs.declared.tally.Tally.{Tally}

-- The report of a run that ended at its present stand, without tickets.
abbrev pub report_of : RunState → Ending → Tally → Report
report_of r ending tally = record {
  outcome = ending;
  last = r.stand.at.point;
  rows = tally.rows;
  sum = tally.sum;
  found = r.found;
  own = r.own;
  tickets = 0;
  posted = 0;
  back = 0;
  lapsed = 0;
}

-- A report says how and where a run ended, and how its steps were made. It says nothing of tickets.
pub record TellsRun (r : RunState) (report : Report) : Type 0 where
  pub ended : r.phase ≡ Ended report.outcome
  pub last : report.last ≡ r.stand.at.point
  pub found : report.found ≡ r.found
  pub own : report.own ≡ r.own
  pub tickets : report.tickets ≡ 0
  pub posted : report.posted ≡ 0
  pub back : report.back ≡ 0
  pub lapsed : report.lapsed ≡ 0

-- Each ticket of a report was posted, given back, or lapsed.
abbrev pub AreTicketsTold : Report → Type 0
AreTicketsTold report = report.tickets ≡ report.posted + report.back + report.lapsed

-- ---- From the position at which a run was opened

-- The lines of the rows of the position's rest were written. The report is that of this rest: its end, its last point, its
-- number of rows, the sum of their words, and its cells, which were filled from answers or by the run's own steps.
pub record ReportsRest (plan : Planned) (at : Position) (old new : Option (List ℕ)) (report : Report) : Type 0 where
  pub stands : List Stand
  pub goes_on : GoesOnFrom plan.run at stands report.outcome
  pub last : report.last ≡ last_point stands
  pub out : Appends old new (lines_of plan.system (rows_of plan.run stands))
  pub rows_counted : report.rows ≡ length (rows_of plan.run stands)
  pub summed : report.sum ≡ sum_shown (columns_of plan.system) (rows_of plan.run stands)
  pub cells : report.found + report.own ≡ cells_of plan.run stands
  pub tickets : AreTicketsTold report

-- The written bytes are a prefix of the lines of the position's rest, for each rest that it has.
pub record AppendsRestPrefix (plan : Planned) (at : Position) (old new : Option (List ℕ)) : Type 0 where
  pub begins : (stands : List Stand) (ending : Ending) → GoesOnFrom plan.run at stands ending
      → AppendsPrefix old new (lines_of plan.system (rows_of plan.run stands))

-- ---- The whole trace: the header, and then the rest of the first position

-- The text of the system's trace was written. The report is that of this trace: its end, its last point, its number of rows,
-- the sum of their words, and its cells, which were filled from answers or by the run's own steps.
pub record ReportsTrace (system : System) (old new : Option (List ℕ)) (report : Report) : Type 0 where
  pub rows : List Row
  pub trace : IsTraceOf system rows report.last report.outcome
  pub out : Appends old new (trace_text system rows)
  pub rows_counted : report.rows ≡ length rows
  pub summed : report.sum ≡ sum_shown (columns_of system) rows
  pub cells : HasCells system (report.found + report.own)
  pub tickets : AreTicketsTold report

-- The written bytes are a prefix of the text of the system's trace, for each trace that it has.
pub record AppendsTracePrefix (system : System) (old new : Option (List ℕ)) : Type 0 where
  pub begins : (rows : List Row) (last : Point) (ending : Ending) → IsTraceOf system rows last ending → AppendsPrefix old new (trace_text system rows)
