use Rattle.link_nodes.proofs.ExchangeLaws.{firsts_short, round_comes, seconds_short, works_short}
use Rattle.link_nodes.proofs.exchange.Exchange.round.Goals as goal
use Rattle.trace_rows.proofs.RowLaws.{err_is}

pub keep-requires : goal.keep-requires
keep-requires g c = (c.in_ok-tell_second.ensures (g.O.Sink.held c.tell_first.new.out) (g.O.Sink.faults c.tell_first.new.out)).is_exchange

pub returns-in_err-work : goal.returns-in_err-work
returns-in_err-work g c =
    let fault = c.in_err-work.field-0.0 in
    works_short c.args.self.now c.work.new.self c.work.new.self c.work.new.self c.args.round.seed c.args.round.number (g.O.Sink.held c.args.out.now)
    (g.O.Sink.held c.work.new.out) (g.O.Sink.held c.work.new.out) (g.O.Sink.held c.work.new.out)
    (g.O.Sink.faults c.args.out.now) (g.O.Sink.faults c.work.new.out) (g.O.Sink.faults c.work.new.out) (g.O.Sink.faults c.work.new.out)
    fault c.from_residual.result c.in_err-work.ensures (err_is c.from_residual.result fault c.from_residual.ensures.1)

pub returns-in_err-tell_first : goal.returns-in_err-tell_first
returns-in_err-tell_first g c =
    let fault = c.in_err-tell_first.field-0.0 in
    firsts_short c.args.self.now c.work.new.self c.tell_first.new.self c.tell_first.new.self c.args.round.seed c.args.round.number
    (g.O.Sink.held c.args.out.now) (g.O.Sink.held c.work.new.out) (g.O.Sink.held c.tell_first.new.out) (g.O.Sink.held c.tell_first.new.out)
    (g.O.Sink.faults c.args.out.now) (g.O.Sink.faults c.work.new.out) (g.O.Sink.faults c.tell_first.new.out) (g.O.Sink.faults c.tell_first.new.out)
    c.in_ok-work.ensures fault c.from_residual-in_err-tell_first.result c.in_err-tell_first.ensures
    (err_is c.from_residual-in_err-tell_first.result fault c.from_residual-in_err-tell_first.ensures.1)

pub returns-in_err-tell_second : goal.returns-in_err-tell_second
returns-in_err-tell_second g c =
    let fault = c.in_err-tell_second.field-0.0 in
    seconds_short c.args.self.now c.work.new.self c.tell_first.new.self c.tell_second.new.self c.args.round.seed c.args.round.number
    (g.O.Sink.held c.args.out.now) (g.O.Sink.held c.work.new.out) (g.O.Sink.held c.tell_first.new.out) (g.O.Sink.held c.tell_first.new.out)
    (g.O.Sink.faults c.args.out.now) (g.O.Sink.faults c.work.new.out) (g.O.Sink.faults c.tell_first.new.out) (g.O.Sink.faults c.tell_first.new.out)
    c.in_ok-work.ensures c.in_ok-tell_first.ensures fault c.from_residual-in_err-tell_second.result
    (c.in_err-tell_second.ensures (g.O.Sink.held c.tell_first.new.out) (g.O.Sink.faults c.tell_first.new.out))
    (err_is c.from_residual-in_err-tell_second.result fault c.from_residual-in_err-tell_second.ensures.1)

pub returns : goal.returns
returns g c =
    round_comes c.args.self.now c.work.new.self c.tell_first.new.self c.tell_second.new.self c.args.round.seed c.args.round.number
    (g.O.Sink.held c.args.out.now) (g.O.Sink.held c.work.new.out) (g.O.Sink.held c.tell_first.new.out) (g.O.Sink.held c.tell_first.new.out)
    (g.O.Sink.faults c.args.out.now) (g.O.Sink.faults c.work.new.out) (g.O.Sink.faults c.tell_first.new.out) (g.O.Sink.faults c.tell_first.new.out)
    c.in_ok-work.ensures c.in_ok-tell_first.ensures c.keep.new.self
    (c.in_ok-tell_second.ensures (g.O.Sink.held c.tell_first.new.out)
    (g.O.Sink.faults c.tell_first.new.out)) c.keep.ensures.exchange c.keep.ensures.plan c.keep.ensures.pair
