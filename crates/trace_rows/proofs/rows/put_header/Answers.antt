use Rattle.std.proofs.Common.{◌≡◌, subst}
use Rattle.std.specs.Io.KnownBytes.{Appends}
use Rattle.cosim_io.specs.Pieces.{AppendsPrefix}
use Rattle.cosim_io.proofs.PieceLemmas.{AppendsPrefix-nil}
use Rattle.list_laws.proofs.Options.{on_err}
use Rattle.trace_rows.specs.Lines.{header_of}
use Rattle.trace_rows.proofs.RowLaws.{header_is}
use Rattle.trace_rows.proofs.rows.put_header.Goals as goal

pub returns-in_err-header_text-clause-front : goal.returns-in_err-header_text-clause-front
returns-in_err-header_text-clause-front g c =
    on_err c.from_residual.result (AppendsPrefix-nil (g.O.Sink.held c.args.out.now) (header_of c.args.plan.now.system))

pub returns-in_err-put-clause-front : goal.returns-in_err-put-clause-front
returns-in_err-put-clause-front g c =
    let header : c.deref.result.now ≡ header_of c.args.plan.now.system =
    header_is c.args.plan.now c.checked.result.now c.columns.result.now c.header_text.new.out.items c.deref.result.now c.checked.ensures.system
    c.columns.ensures.columns c.in_ok-header_text.ensures.ok c.deref.ensures.value in
    on_err c.from_residual-in_err-put.result
    (subst (AppendsPrefix (g.O.Sink.held c.args.out.now) (g.O.Sink.held c.put.new.self)) header c.in_err-put.ensures.front)

pub returns-clause-whole : goal.returns-clause-whole
returns-clause-whole g c =
    let header : c.deref.result.now ≡ header_of c.args.plan.now.system =
    header_is c.args.plan.now c.checked.result.now c.columns.result.now c.header_text.new.out.items c.deref.result.now c.checked.ensures.system
    c.columns.ensures.columns c.in_ok-header_text.ensures.ok c.deref.ensures.value in
    subst (Appends (g.O.Sink.held c.args.out.now) (g.O.Sink.held c.put.new.self)) header c.in_ok-put.ensures.whole
