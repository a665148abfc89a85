use Rattle.trace_plan.proofs.ColumnLaws.{headers_can_be_printed_lem}
use Rattle.trace_plan.proofs.laws.headers_can_be_printed.Goals as goal

pub returns : goal.returns
returns c = headers_can_be_printed_lem
