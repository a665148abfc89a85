use Rattle.trace_plan.proofs.ColumnLaws.{rows_can_be_printed_lem}
use Rattle.trace_plan.proofs.laws.rows_can_be_printed.Goals as goal

pub returns : goal.returns
returns c = rows_can_be_printed_lem
