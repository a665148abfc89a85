use Rattle.std.proofs.Common.{[], Some, arith}
use Rattle.csv.specs.Writing.{writer_under}
use Rattle.csv.specs.declared.writer.QuoteStyle.TheVariants as style
use Rattle.trace_csv.specs.TraceText.{row_fields}
use Rattle.trace_csv.specs.Writers.{HasFields}
use Rattle.trace_csv.proofs.LineLaws.{first_on, second_on}
use Rattle.trace_csv.proofs.row.put_row.Goals as goal

pub returns-clause-row : goal.returns-clause-row
returns-clause-row c =
    let before = (writer_under c.args.line.now).items in
    first_on _ _ c.end_line.result
    (c.end_line.ensures style.Necessary before (row_fields c.args.resolution c.args.columns.now c.args.point c.args.ports.now)
    (c.in_ok-put_fields.ensures before c.requires.ready) (omega arith))

pub returns-clause-ready : goal.returns-clause-ready
returns-clause-ready c =
    let before = (writer_under c.args.line.now).items in
    second_on (λ text. HasFields (λ v. Some v.items) style.Necessary text c.end_line.new.line []) _ _ c.end_line.result
    (c.end_line.ensures style.Necessary before (row_fields c.args.resolution c.args.columns.now c.args.point c.args.ports.now)
    (c.in_ok-put_fields.ensures before c.requires.ready) (omega arith))
