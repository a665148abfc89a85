use Rattle.std.proofs.Common.{◌≡◌, ◌∙◌, ◌<◌, ◌∷◌, [], List, length, take, refl, ap, arith, sym}
use Rattle.std.proofs.lemmas.List.{take_all}
use Rattle.std.specs.Prelude.{codes}
use Rattle.std.specs.List.{filter_map}
use Rattle.csv.specs.declared.writer.QuoteStyle.TheVariants as style
use Rattle.trace_csv.specs.Columns.{title_of}
use Rattle.trace_csv.specs.Lines.{line_of}
use Rattle.unit_tree.specs.declared.system.Column.{Column}
use Rattle.trace_csv.proofs.LineLaws.{titles_more, all_put}
use Rattle.trace_csv.proofs.header.header_text.Goals as goal

pub loop-column-init : goal.loop-column-init
loop-column-init c =
    let one = c.in_ok-put_field.ensures style.Never [] [] c.new_line-line.ensures.fresh refl in
    c.in_ok-put_field-2.ensures style.Never [] (codes "time" ∷ []) one refl

pub loop-column-preserved : goal.loop-column-preserved
loop-column-preserved c =
    let columns = c.args.columns.now in
    let place = c.loop-column.column-index in
    let titles = filter_map (title_of c.args.checked.now) (take place columns) in
    let written = rw (c.system-system.ensures.plain, sym c.as_slice.ensures.value) at c.in_ok-write_title.ensures in
    let within : place < length columns = c.loop-column-test.true in
    let more = titles_more (title_of c.args.checked.now) columns place _ _ within written in
    rw more at (c.in_ok-put_field-3.ensures style.Never [] (codes "time" ∷ codes "index" ∷ titles) c.loop-column.invariant refl)

pub returns-clause-ok : goal.returns-clause-ok
returns-clause-ok c =
    let columns = c.args.columns.now in
    let place = c.loop-column.column-index in
    let all : take place columns ≡ columns = take_all _ _ c.loop-column-test.false in
    let titles = λ (some : List Column). codes "time" ∷ codes "index" ∷ filter_map (title_of c.args.checked.now) some in
    let whole = c.in_ok-end_line.ensures style.Never [] (titles (take place columns)) c.loop-column.invariant (omega arith) in
    let text = c.as_slice-2.ensures.value ∙ ap (λ v. v.items) c.get_ref.ensures ∙ whole.0 ∙ ap (λ some. line_of (titles some)) all in
    all_put c.extend_from_slice.result _ _ _ _ c.extend_from_slice.ensures.items c.clear.ensures.items text
