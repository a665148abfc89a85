use Rattle.std.proofs.Common.{◌≡◌, ◌<◌, false, length, take}
use Rattle.std.proofs.lemmas.List.{take_all}
use Rattle.fixed_words.specs.declared.types.Ty.TheVariants as types
use Rattle.trace_csv.specs.TraceText.{field_of, row_fields}
use Rattle.trace_csv.proofs.LineLaws.{fields_more}
use Rattle.trace_csv.proofs.row.put_fields.Goals as goal
use Rattle.unit_tree.specs.declared.system.Column.{Column}

pub loop-column-init : goal.loop-column-init
loop-column-init c = c.in_ok-put_point.ensures

pub loop-column-preserved : goal.loop-column-preserved
loop-column-preserved c =
    λ before has.
    let columns = c.args.columns.now in
    let place = c.loop-column.column-index in
    let within : place < length columns = c.loop-column-test.true in
    let default : Column = record { instance = 0; output = 0; place = 0; ty = types.Int8; event = false } in
    let more = fields_more (field_of c.args.ports.now) columns place default within in
    rw more at
    (c.in_ok-put_column.ensures before (row_fields c.args.resolution (take place columns) c.args.point c.args.ports.now) (c.loop-column.invariant before has))

pub returns : goal.returns
returns c =
    λ before has.
    let columns = c.args.columns.now in
    let place = c.loop-column.column-index in
    let all : take place columns ≡ columns = take_all _ _ c.loop-column-test.false in
    rw all at (c.loop-column.invariant before has)
