use Rattle.event_runs.proofs.OnlyTraces.{one_event_trace}
use Rattle.event_runs.proofs.RowLaws.{rows_read}
use Rattle.event_runs.proofs.TraceLaws.{trace_read}
use Rattle.event_runs.proofs.laws.traces_are_read.Goals as goal

pub returns : goal.returns
returns c = record {
  read = λ members run order stands ending plain are ordered trace. trace_read members run order plain are ordered stands ending trace;
  rows = λ members run order stands ending plain are ordered trace. rows_read members run order plain are ordered stands ending trace;
  one = one_event_trace;
}
