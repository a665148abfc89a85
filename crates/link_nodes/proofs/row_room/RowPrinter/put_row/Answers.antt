use Rattle.std.proofs.Common.{◌≡◌, ◌∙◌, ◌∷◌, [], subst}
use Rattle.std.specs.Io.KnownBytes.{Appends}
use Rattle.cosim_io.specs.Pieces.{AppendsPrefix}
use Rattle.link_nodes.specs.ShownRows.{row_told}
use Rattle.link_nodes.proofs.RowWords.{one_line, row_words}
use Rattle.link_nodes.proofs.row_room.RowPrinter.put_row.Goals as goal
use Rattle.list_laws.proofs.Options.{on_err}
use Rattle.trace_rows.specs.Lines.{lines_of}

pub row_text-requires-clause-words : goal.row_text-requires-clause-words
row_text-requires-clause-words g c = row_words c.args.plan.now c.judged.ensures
    (row_told c.args.row) c.requires.row c.columns.result.now c.columns.ensures.columns

pub returns-in_err-put-clause-front : goal.returns-in_err-put-clause-front
returns-in_err-put-clause-front g c =
    let text : c.deref.result.now ≡ lines_of c.args.plan.now.system (row_told c.args.row ∷ []) =
    c.deref.ensures.value ∙ c.in_ok-row_text.ensures.ok
    ∙ one_line c.args.plan.now.system c.resolution.result c.columns.result.now (row_told c.args.row) c.resolution.ensures.value c.columns.ensures.columns in
    on_err c.from_residual-in_err-put.result (subst (AppendsPrefix (g.O.Sink.held c.args.out.now)
    (g.O.Sink.held c.put.new.self)) text c.in_err-put.ensures.front)

pub returns-clause-whole : goal.returns-clause-whole
returns-clause-whole g c =
    let text : c.deref.result.now ≡ lines_of c.args.plan.now.system (row_told c.args.row ∷ []) =
    c.deref.ensures.value ∙ c.in_ok-row_text.ensures.ok
    ∙ one_line c.args.plan.now.system c.resolution.result c.columns.result.now (row_told c.args.row) c.resolution.ensures.value c.columns.ensures.columns in
    subst (Appends (g.O.Sink.held c.args.out.now) (g.O.Sink.held c.put.new.self)) text c.in_ok-put.ensures.whole
