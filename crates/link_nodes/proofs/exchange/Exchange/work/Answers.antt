use Rattle.std.proofs.Common.{◌≡◌, ◌∙◌, Ok, Err, length, refl, ap, subst, sym}
use Rattle.link_laws.specs.Making.{rule_of}
use Rattle.link_laws.specs.Nodes.{Progress, worked}
use Rattle.link_laws.specs.Pairs.{Pair}
use Rattle.link_laws.specs.declared.taken.Taken.{Taken}
use Rattle.link_nodes.specs.Exchanges.{exchange_rule}
use Rattle.link_nodes.specs.ShownRows.{ComesTo, IsNoted}
use Rattle.link_nodes.proofs.ExchangeLaws.{exchange_up, first_owned, first_worked, same_exchange, second_worked}
use Rattle.link_nodes.proofs.GrowLaws.{still_noted, worked_more}
use Rattle.link_nodes.proofs.LaterLaws.{same_later}
use Rattle.link_nodes.proofs.ShownRowLaws.{comes_dry, comes_short}
use Rattle.link_nodes.proofs.exchange.Exchange.work.Goals as goal
use Rattle.trace_plan.specs.Plans.{Planned}
use Rattle.trace_rows.specs.declared.fault.CrewFault.TheVariants.{NoMemory}
use Rattle.trace_rows.proofs.RowLaws.{err_is}

pub work_shown-requires-clause-owners : goal.work_shown-requires-clause-owners
work_shown-requires-clause-owners g c = subst (λ (p : Planned). length c.args.self.now.first.owners ≡ length p.run.members) (sym c.deref.ensures)
    (first_owned c.args.self.now c.requires)

pub returns-in_err-work_shown : goal.returns-in_err-work_shown
returns-in_err-work_shown g c =
    let exchange = c.args.self.now in
    let target : Pair = record { first = (worked (exchange_rule exchange) 0 exchange.first.progress).0; second = (worked (exchange_rule exchange) 1 exchange.second.progress).0 } in
    let fault = c.in_err-work_shown.field-0.0 in
    let comes = subst (λ (did : Progress × Taken). ComesTo {T = Unit {0}} exchange.plan.value exchange.first.progress did.0 c.work_shown.new.node.progress
    (g.O.Sink.held c.args.out.now) (g.O.Sink.held c.work_shown.new.out) (g.O.Sink.faults c.args.out.now) (g.O.Sink.faults c.work_shown.new.out)
    (Err fault)) (first_worked exchange c.requires exchange.first.progress)
    (subst (λ (p : Planned). ComesTo {T = Unit {0}} p exchange.first.progress
    (worked (rule_of p.run exchange.first.owners) 0 exchange.first.progress).0 c.work_shown.new.node.progress (g.O.Sink.held c.args.out.now)
    (g.O.Sink.held c.work_shown.new.out) (g.O.Sink.faults c.args.out.now) (g.O.Sink.faults c.work_shown.new.out)
    (Err fault)) c.deref.ensures c.in_err-work_shown.ensures.comes) in
    let is = err_is c.from_residual.result fault c.from_residual.ensures.1 in
    exchange_up exchange target _ (g.O.Sink.held c.args.out.now) (g.O.Sink.held c.work_shown.new.out) (g.O.Sink.faults c.args.out.now)
    (g.O.Sink.faults c.work_shown.new.out) fault c.from_residual.result refl
    (comes_short exchange.plan.value exchange.first.progress target.first target.first c.work_shown.new.node.progress c.work_shown.new.node.progress
    (g.O.Sink.held c.args.out.now) (g.O.Sink.held c.work_shown.new.out) (g.O.Sink.faults c.args.out.now)
    (g.O.Sink.faults c.work_shown.new.out) fault c.from_residual.result
    comes (same_later target.first) is) is

pub returns-in_err-work : goal.returns-in_err-work
returns-in_err-work g c =
    let exchange = c.args.self.now in
    let target : Pair = record { first = (worked (exchange_rule exchange) 0 exchange.first.progress).0; second = (worked (exchange_rule exchange) 1 exchange.second.progress).0 } in
    let comes = subst (λ (did : Progress × Taken). ComesTo {T = Unit {0}} exchange.plan.value exchange.first.progress did.0 c.work_shown.new.node.progress
    (g.O.Sink.held c.args.out.now) (g.O.Sink.held c.work_shown.new.out) (g.O.Sink.faults c.args.out.now) (g.O.Sink.faults c.work_shown.new.out) (Ok tt))
    (first_worked exchange c.requires exchange.first.progress)
    (subst (λ (p : Planned). ComesTo {T = Unit {0}} p exchange.first.progress
    (worked (rule_of p.run exchange.first.owners) 0 exchange.first.progress).0 c.work_shown.new.node.progress (g.O.Sink.held c.args.out.now)
    (g.O.Sink.held c.work_shown.new.out) (g.O.Sink.faults c.args.out.now) (g.O.Sink.faults c.work_shown.new.out)
    (Ok tt)) c.deref.ensures c.in_ok-work_shown.ensures.comes) in
    let is = err_is c.from_residual-in_err-work.result NoMemory c.from_residual-in_err-work.ensures.1 in
    exchange_up exchange target _ (g.O.Sink.held c.args.out.now) (g.O.Sink.held c.work_shown.new.out) (g.O.Sink.faults c.args.out.now)
    (g.O.Sink.faults c.work_shown.new.out) NoMemory c.from_residual-in_err-work.result refl
    (comes_dry exchange.plan.value exchange.first.progress target.first c.work_shown.new.node.progress target.first c.work_shown.new.node.progress
    (g.O.Sink.held c.args.out.now) (g.O.Sink.held c.work_shown.new.out) (g.O.Sink.faults c.args.out.now)
    (g.O.Sink.faults c.work_shown.new.out) c.from_residual-in_err-work.result
    comes (same_later target.first) is) is

pub returns : goal.returns
returns g c =
    let exchange = c.args.self.now in
    let comes = subst (λ (did : Progress × Taken). ComesTo {T = Unit {0}} exchange.plan.value exchange.first.progress did.0 c.work_shown.new.node.progress
    (g.O.Sink.held c.args.out.now) (g.O.Sink.held c.work_shown.new.out) (g.O.Sink.faults c.args.out.now) (g.O.Sink.faults c.work_shown.new.out) (Ok tt))
    (first_worked exchange c.requires exchange.first.progress)
    (subst (λ (p : Planned). ComesTo {T = Unit {0}} p exchange.first.progress
    (worked (rule_of p.run exchange.first.owners) 0 exchange.first.progress).0 c.work_shown.new.node.progress (g.O.Sink.held c.args.out.now)
    (g.O.Sink.held c.work_shown.new.out) (g.O.Sink.faults c.args.out.now) (g.O.Sink.faults c.work_shown.new.out)
    (Ok tt)) c.deref.ensures c.in_ok-work_shown.ensures.comes) in
    let second = ap (λ (did : Progress × Taken). did.0) (c.in_ok-work.ensures.worked ∙ second_worked exchange c.requires exchange.second.progress) in
    record {
      plan = refl;
      is_exchange =
          same_exchange exchange _ c.requires refl c.work_shown.ensures.same c.work.ensures.same
          (subst (λ (p : Progress). IsNoted exchange.first_spans p.facts) (sym comes.there)
          (still_noted exchange.first_spans exchange.first.progress (worked (exchange_rule exchange) 0 exchange.first.progress).0
          (worked_more (exchange_rule exchange) 0 exchange.first.progress) c.requires.first_noted))
          (subst (λ (p : Progress). IsNoted exchange.second_spans p.facts) (sym second)
          (still_noted exchange.second_spans exchange.second.progress (worked (exchange_rule exchange) 1 exchange.second.progress).0
          (worked_more (exchange_rule exchange) 1 exchange.second.progress) c.requires.second_noted))
          c.requires.empty;
      second = second;
      comes = comes;
    }
