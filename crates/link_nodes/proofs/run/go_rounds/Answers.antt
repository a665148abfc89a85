use Rattle.std.proofs.Common.{◌+◌, ◌%◌, ◌∙◌, Ok, Err, ap, subst, sym, arith}
use Rattle.std.proofs.lemmas.Bool.{eq-eqb}
use Rattle.link_nodes.specs.Exchanges.{ExchangeComes, exchange_rule, pair_of}
use Rattle.link_nodes.specs.Rounds.{after_round, after_rounds}
use Rattle.link_nodes.proofs.ExchangeLaws.{none_gone, rounds_on, rounds_short}
use Rattle.link_nodes.proofs.SettledLaws.{rounds_come, rounds_end}
use Rattle.link_nodes.proofs.run.go_rounds.Goals as goal
use Rattle.trace_rows.proofs.RowLaws.{err_is}

pub loop-number-init : goal.loop-number-init
loop-number-init g c = record {
  bound = omega arith;
  gone = none_gone c.args.exchange.now (g.O.Sink.held c.args.out.now)
      (g.O.Sink.faults c.args.out.now) c.requires;
}

pub returns-in_err-round : goal.returns-in_err-round
returns-in_err-round g c =
    let mid = c.loop-number.exchange in
    let fault = c.in_err-round.field-0.0 in
    let told = subst (λ n. ExchangeComes {T = Unit {0}} mid (after_round (exchange_rule mid) c.args.seed (n + 1) (pair_of mid)) c.round.new.self
    (g.O.Sink.held c.loop-number.out) (g.O.Sink.held c.round.new.out) (g.O.Sink.faults c.loop-number.out) (g.O.Sink.faults c.round.new.out)
    (Err fault)) c.from.ensures c.in_err-round.ensures in
    rounds_come c.args.exchange.now (after_rounds (exchange_rule c.args.exchange.now) c.args.seed c.args.rounds (pair_of c.args.exchange.now)) c.round.new.self
    (g.O.Sink.held c.args.out.now) (g.O.Sink.held c.round.new.out) (g.O.Sink.faults c.args.out.now) (g.O.Sink.faults c.round.new.out) c.from_residual.result
    (rounds_short c.args.exchange.now mid c.round.new.self c.args.seed c.loop-number.number (g.O.Sink.held c.args.out.now) (g.O.Sink.held c.loop-number.out)
    (g.O.Sink.held c.round.new.out) (g.O.Sink.faults c.args.out.now) (g.O.Sink.faults c.loop-number.out) (g.O.Sink.faults c.round.new.out)
    c.loop-number.invariant.gone c.args.rounds fault c.from_residual.result (omega (arith, c.loop-number-test.true)) told
    (err_is c.from_residual.result fault c.from_residual.ensures.1))

pub loop-number-preserved : goal.loop-number-preserved
loop-number-preserved g c =
    let mid = c.loop-number.exchange in
    let told = subst (λ n. ExchangeComes {T = Unit {0}} mid (after_round (exchange_rule mid) c.args.seed (n + 1) (pair_of mid)) c.round.new.self
    (g.O.Sink.held c.loop-number.out) (g.O.Sink.held c.round.new.out) (g.O.Sink.faults c.loop-number.out) (g.O.Sink.faults c.round.new.out)
    (Ok tt)) c.from.ensures c.in_ok-round.ensures in
    record {
      bound = omega (arith, c.loop-number-test.true);
      gone =
          rounds_on c.args.exchange.now mid c.round.new.self c.args.seed c.loop-number.number (g.O.Sink.held c.args.out.now) (g.O.Sink.held c.loop-number.out)
          (g.O.Sink.held c.round.new.out) (g.O.Sink.faults c.args.out.now) (g.O.Sink.faults c.loop-number.out) (g.O.Sink.faults c.round.new.out)
          c.loop-number.invariant.gone told;
    }

pub returns-then-is_at_end : goal.returns-then-is_at_end
returns-then-is_at_end g c =
    let mid = c.loop-number.exchange in
    let told = subst (λ n. ExchangeComes {T = Unit {0}} mid (after_round (exchange_rule mid) c.args.seed (n + 1) (pair_of mid)) c.round.new.self
    (g.O.Sink.held c.loop-number.out) (g.O.Sink.held c.round.new.out) (g.O.Sink.faults c.loop-number.out) (g.O.Sink.faults c.round.new.out)
    (Ok tt)) c.from.ensures c.in_ok-round.ensures in
    rounds_end c.args.exchange.now c.round.new.self c.args.seed c.loop-number.number c.args.rounds (g.O.Sink.held c.args.out.now)
    (g.O.Sink.held c.round.new.out) (g.O.Sink.faults c.args.out.now) (g.O.Sink.faults c.round.new.out) (omega (arith, c.loop-number-test.true))
    (rounds_on c.args.exchange.now mid c.round.new.self c.args.seed c.loop-number.number (g.O.Sink.held c.args.out.now) (g.O.Sink.held c.loop-number.out)
    (g.O.Sink.held c.round.new.out) (g.O.Sink.faults c.args.out.now) (g.O.Sink.faults c.loop-number.out) (g.O.Sink.faults c.round.new.out)
    c.loop-number.invariant.gone told)
    (eq-eqb ((c.loop-number.number + 1) % 5) 0 (ap (λ n. (n + 1) % 5) (sym c.from.ensures) ∙ c.if-round-eq0.true))
    (sym c.is_at_end.ensures.at_end ∙ c.if-is_at_end.true) c.is_at_end.ensures.keeps c.is_at_end.ensures.judged
