use Rattle.std.proofs.Common.{ℕ, List, Some, take, []}
use Rattle.csv.specs.declared.writer.QuoteStyle.TheVariants as style
use Rattle.trace_csv.specs.TraceText.{row_fields}
use Rattle.trace_csv.specs.Writers.{HasFields}
use Rattle.trace_csv.proofs.row.put_fields.Given as goal

abbrev pub invariant-loop-column : goal.invariant-loop-column
invariant-loop-column l =
    (before : List ℕ) → HasFields (λ v. Some v.items) style.Necessary before l.fn.line []
    → HasFields (λ v. Some v.items) style.Necessary before l.line (row_fields l.fn.resolution (take l.column-index l.columns) l.fn.point l.ports)
