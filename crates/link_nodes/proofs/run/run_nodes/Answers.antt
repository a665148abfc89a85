use Rattle.std.proofs.Common.{◌≡◌, ◌∙◌, Err, subst, sym}
use Rattle.std.specs.Io.KnownBytes.{Appends}
use Rattle.cosim_io.specs.Pieces.{AppendsPrefix}
use Rattle.link_nodes.specs.ShownRows.{IsJudged}
use Rattle.link_nodes.specs.declared.run.Nodes.{Nodes}
use Rattle.link_nodes.proofs.RunLaws.{begins_header, begins_none, begins_rounds, shows_rounds}
use Rattle.link_nodes.proofs.ShownRowLaws.{tells_as}
use Rattle.link_nodes.proofs.run.run_nodes.Goals as goal
use Rattle.list_laws.proofs.Options.{on_err}
use Rattle.trace_plan.specs.Plans.{Planned}
use Rattle.trace_rows.specs.Faults.{TellsFault}
use Rattle.trace_rows.specs.Lines.{header_of}
use Rattle.trace_rows.proofs.RowLaws.{err_is, tells_after}

pub returns-in_err-exchange-clause-front : goal.returns-in_err-exchange-clause-front
returns-in_err-exchange-clause-front g c = on_err c.from_residual.result (begins_none c.args.plan.value c.args.seed c.args.rounds (g.O.Sink.held c.args.out.now))

pub returns-in_err-put_header-clause-front : goal.returns-in_err-put_header-clause-front
returns-in_err-put_header-clause-front g c =
    let plan = c.args.plan.value in
    let own = c.deref-2.ensures ∙ c.in_ok-exchange.ensures.plan' in
    let front = subst (λ (p : Planned). AppendsPrefix (g.O.Sink.held c.args.out.now) (g.O.Sink.held c.put_header.new.out)
    (header_of p.system)) own c.in_err-put_header.ensures.front in
    on_err c.from_residual-in_err-put_header.result (begins_header plan c.args.seed c.args.rounds (g.O.Sink.held c.args.out.now)
    (g.O.Sink.held c.put_header.new.out) front)

pub returns-in_err-put_header-clause-cause : goal.returns-in_err-put_header-clause-cause
returns-in_err-put_header-clause-cause g c =
    let fault = c.in_err-put_header.field-0.0 in
    subst (TellsFault {T = Nodes} (g.O.Sink.faults c.args.out.now) (g.O.Sink.faults c.put_header.new.out))
    (sym (err_is c.from_residual-in_err-put_header.result fault c.from_residual-in_err-put_header.ensures.1))
    (tells_as (Unit {0}) Nodes (g.O.Sink.faults c.args.out.now) (g.O.Sink.faults c.put_header.new.out) fault c.in_err-put_header.ensures.cause)

pub returns-in_err-go_rounds-clause-front : goal.returns-in_err-go_rounds-clause-front
returns-in_err-go_rounds-clause-front g c =
    let plan = c.args.plan.value in
    let own = c.deref-2.ensures ∙ c.in_ok-exchange.ensures.plan' in
    let header = subst (λ (p : Planned). Appends (g.O.Sink.held c.args.out.now) (g.O.Sink.held c.put_header.new.out)
    (header_of p.system)) own c.in_ok-put_header.ensures.whole in
    on_err c.from_residual-in_err-go_rounds.result
    (begins_rounds plan c.args.seed c.args.rounds c.in_ok-exchange.exchange c.in_ok-exchange.ensures (g.O.Sink.held c.args.out.now) (g.O.Sink.held c.put_header.new.out)
    (g.O.Sink.held c.go_rounds.new.out) header c.go_rounds.new.exchange (g.O.Sink.faults c.put_header.new.out) (g.O.Sink.faults c.go_rounds.new.out)
    c.in_err-go_rounds.field-0.0 c.in_err-go_rounds.ensures)

pub returns-in_err-go_rounds-clause-cause : goal.returns-in_err-go_rounds-clause-cause
returns-in_err-go_rounds-clause-cause g c =
    let fault = c.in_err-go_rounds.field-0.0 in
    let same : g.O.Sink.faults c.put_header.new.out ≡ g.O.Sink.faults c.args.out.now = c.in_ok-put_header.ensures.cause.same (λ e. absurd (cc)) in
    subst (TellsFault {T = Nodes} (g.O.Sink.faults c.args.out.now) (g.O.Sink.faults c.go_rounds.new.out))
    (sym (err_is c.from_residual-in_err-go_rounds.result fault c.from_residual-in_err-go_rounds.ensures.1))
    (tells_after (g.O.Sink.faults c.args.out.now) (g.O.Sink.faults c.put_header.new.out) (g.O.Sink.faults c.go_rounds.new.out) (Err fault) same
    (tells_as (Unit {0}) Nodes (g.O.Sink.faults c.put_header.new.out) (g.O.Sink.faults c.go_rounds.new.out) fault c.in_err-go_rounds.ensures.comes.cause))

pub returns-clause-whole : goal.returns-clause-whole
returns-clause-whole g c =
    let plan = c.args.plan.value in
    let own = c.deref-2.ensures ∙ c.in_ok-exchange.ensures.plan' in
    let header = subst (λ (p : Planned). Appends (g.O.Sink.held c.args.out.now) (g.O.Sink.held c.put_header.new.out)
    (header_of p.system)) own c.in_ok-put_header.ensures.whole in
    let judged = subst IsJudged (c.deref.ensures ∙ c.in_ok-exchange.ensures.plan') c.judged.ensures in
    shows_rounds plan c.args.seed c.args.rounds c.in_ok-exchange.exchange c.in_ok-exchange.ensures (g.O.Sink.held c.args.out.now) (g.O.Sink.held c.put_header.new.out)
    (g.O.Sink.held c.go_rounds.new.out) header c.go_rounds.new.exchange (g.O.Sink.faults c.put_header.new.out) (g.O.Sink.faults c.go_rounds.new.out)
    judged c.told.result c.in_ok-go_rounds.ensures c.told.ensures
