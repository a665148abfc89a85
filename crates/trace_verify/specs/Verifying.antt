-- The verdict on a table that should be the trace of a system.
use Rattle.std.specs.Prelude.{◌≡◌, ℕ, List}
use Rattle.super_time.specs.declared.point.Point.{Point}
use Rattle.trace_csv.specs.TraceText.{trace_text}
use Rattle.trace_verify.specs.Verdicts.{verdict_of}
use Rattle.stimulus_tables.specs.Records.{records_of}
use Rattle.trace_verify.specs.declared.verdict.Verdict.{Verdict}
use Rattle.unit_tree.specs.Trace.{IsTraceOf, Row}
use Rattle.unit_tree.specs.declared.ending.Ending.{Ending}
use Rattle.unit_tree.specs.declared.system.System.{System}

-- The verdict compares the records of the table with those of the text of the system's trace. How the trace ends doesn't matter.
pub record IsVerdictOn (system : System) (table : List ℕ) (verdict : Verdict) : Type 0 where
  pub is : (rows : List Row) (last : Point) (ending : Ending) → IsTraceOf system rows last ending
      → verdict ≡ verdict_of (records_of (trace_text system rows)) (records_of table)
