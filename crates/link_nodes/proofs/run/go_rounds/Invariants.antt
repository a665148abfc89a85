use Rattle.std.proofs.Common.{◌≤◌, Ok}
use Rattle.link_nodes.specs.Exchanges.{ExchangeComes, exchange_rule, pair_of}
use Rattle.link_nodes.specs.Rounds.{after_rounds}
use Rattle.link_nodes.proofs.run.go_rounds.Given as goal

abbrev pub invariant-loop-number : goal.invariant-loop-number
invariant-loop-number g l = record {
  bound : l.number ≤ l.rounds;
  gone : ExchangeComes {T = Unit {0}} l.fn.exchange (after_rounds (exchange_rule l.fn.exchange) l.seed l.number (pair_of l.fn.exchange)) l.exchange (g.O.Sink.held l.fn.out)
      (g.O.Sink.held l.out) (g.O.Sink.faults l.fn.out) (g.O.Sink.faults l.out) (Ok tt);
}
