use Rattle.std.proofs.Common.{◌≡◌, ◌∙◌, ◌≤◌, take, length, map, refl, ap, ap₂, subst, sym}
use Rattle.std.specs.Prelude.{is_some, reverse}
use Rattle.std.specs.List.{AllByRecursion}
use Rattle.link_laws.specs.Keeping.{IsHonest}
use Rattle.link_laws.specs.Making.{rule_of}
use Rattle.link_nodes.specs.Rounds.{numbered_sent}
use Rattle.link_nodes.specs.ShownRows.{AreNoted, ComesTo, IsNoted, taken_all}
use Rattle.link_nodes.proofs.ArrivalLaws.{fact_of, sent_each}
use Rattle.link_nodes.proofs.ExchangeLaws.{first_dry, first_owned, first_part, first_stays}
use Rattle.link_nodes.proofs.GrowLaws.{all_noted}
use Rattle.link_nodes.proofs.exchange.Exchange.tell_first.Goals as goal
use Rattle.trace_plan.specs.Plans.{Planned}
use Rattle.trace_rows.specs.declared.fault.CrewFault.TheVariants.{NoMemory}
use Rattle.trace_rows.proofs.RowLaws.{err_is}

pub returns-then-is_some : goal.returns-then-is_some
returns-then-is_some g c =
    first_stays c.args.self.now c.args.round.seed c.args.round.number (g.O.Sink.held c.args.out.now) (g.O.Sink.faults c.args.out.now) c.requires
    (ap is_some (sym c.ended.ensures) ∙ sym c.is_some.ensures ∙ c.if-is_some.true)

pub note-requires-clause-noted : goal.note-requires-clause-noted
note-requires-clause-noted g c =
    subst (λ facts. AreNoted c.args.self.now.second_spans.rows.items (take c.args.self.now.second_spans.noted facts)) (sym c.facts-facts.ensures.facts)
    c.requires.second_noted.noted

pub note-requires-clause-within : goal.note-requires-clause-within
note-requires-clause-within g c = subst (λ facts. c.args.self.now.second_spans.noted ≤ length facts)
    (sym c.facts-facts.ensures.facts) c.requires.second_noted.within

pub returns-in_err-note : goal.returns-in_err-note
returns-in_err-note g c =
    first_dry c.args.self.now _ c.args.round.seed c.args.round.number (g.O.Sink.held c.args.out.now)
    (g.O.Sink.faults c.args.out.now) c.from_residual.result refl
    (err_is c.from_residual.result NoMemory c.from_residual.ensures.1)

pub send-requires-clause-end : goal.send-requires-clause-end
send-requires-clause-end g c = c.span-span.ensures.end c.facts-facts.result.now c.in_ok-note.ensures.noted

pub send-requires-clause-others : goal.send-requires-clause-others
send-requires-clause-others g c = c.span-span.ensures.others c.facts-facts.result.now c.in_ok-note.ensures.noted

pub returns-in_err-send : goal.returns-in_err-send
returns-in_err-send g c =
    first_dry c.args.self.now _ c.args.round.seed c.args.round.number (g.O.Sink.held c.args.out.now)
    (g.O.Sink.faults c.args.out.now) c.from_residual-in_err-send.result refl
    (err_is c.from_residual-in_err-send.result NoMemory c.from_residual-in_err-send.ensures.1)

pub take_all_shown-requires-clause-owners : goal.take_all_shown-requires-clause-owners
take_all_shown-requires-clause-owners g c = subst (λ (p : Planned). length c.args.self.now.first.owners ≡ length p.run.members) (sym c.deref.ensures)
    (first_owned c.args.self.now c.requires)

pub take_all_shown-requires-clause-honest : goal.take_all_shown-requires-clause-honest
take_all_shown-requires-clause-honest g c =
    let facts = c.facts-facts.result.now in
    let own = c.requires.second_plan ∙ sym c.deref.ensures in
    let honest = subst (λ (p : Planned). AllByRecursion (IsHonest p.run) facts) own c.facts-facts.ensures.honest in
    subst (AllByRecursion (IsHonest c.deref.result.now.run)) (sym c.in_ok-send.ensures)
    (sent_each (IsHonest c.deref.result.now.run) c.args.round.seed c.args.round.number c.number-row.result facts honest)

pub returns : goal.returns
returns g c =
    let exchange = c.args.self.now in
    let seed = c.args.round.seed in
    let k = c.args.round.number in
    let transit = c.send.new.transit.items in
    let transit_is : transit ≡ map fact_of (numbered_sent seed k exchange.first.progress.at.number exchange.second.progress.facts) =
    c.in_ok-send.ensures ∙ ap₂ (λ row facts. map fact_of (numbered_sent seed k row facts)) c.number-row.ensures.number c.facts-facts.ensures.facts in
    let comes = subst (λ os. ComesTo exchange.plan.value exchange.first.progress
    (taken_all (rule_of exchange.plan.value.run os) 0 exchange.first.progress (reverse transit)) c.take_all_shown.new.node.progress (g.O.Sink.held c.args.out.now)
    (g.O.Sink.held c.take_all_shown.new.out) (g.O.Sink.faults c.args.out.now)
    (g.O.Sink.faults c.take_all_shown.new.out) c.take_all_shown.result) c.requires.first_owners
    (subst (λ (p : Planned). ComesTo p exchange.first.progress
    (taken_all (rule_of p.run exchange.first.owners) 0 exchange.first.progress (reverse transit)) c.take_all_shown.new.node.progress (g.O.Sink.held c.args.out.now)
    (g.O.Sink.held c.take_all_shown.new.out) (g.O.Sink.faults c.args.out.now)
    (g.O.Sink.faults c.take_all_shown.new.out) c.take_all_shown.result) c.deref.ensures c.take_all_shown.ensures.comes) in
    first_part exchange _ seed k transit (g.O.Sink.held c.args.out.now) (g.O.Sink.held c.take_all_shown.new.out) (g.O.Sink.faults c.args.out.now)
    (g.O.Sink.faults c.take_all_shown.new.out) c.take_all_shown.result c.requires refl transit_is comes
    c.take_all_shown.ensures.same refl refl
    (subst (IsNoted c.note.new.self) c.facts-facts.ensures.facts
    (all_noted c.note.new.self c.facts-facts.result.now c.in_ok-note.ensures.all c.in_ok-note.ensures.noted))
    c.take_all_shown.ensures.empty
