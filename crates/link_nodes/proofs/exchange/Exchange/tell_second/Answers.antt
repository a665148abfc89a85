use Rattle.std.proofs.Common.{◌≡◌, ◌∙◌, ◌≤◌, take, length, map, refl, ap, ap₂, subst, sym}
use Rattle.std.specs.Prelude.{is_some, reverse}
use Rattle.std.specs.List.{AllByRecursion}
use Rattle.link_laws.specs.Keeping.{IsHonest}
use Rattle.link_laws.specs.Making.{rule_of}
use Rattle.link_nodes.specs.Rounds.{numbered_sent}
use Rattle.link_nodes.specs.ShownRows.{AreNoted, IsNoted, taken_all}
use Rattle.link_nodes.proofs.ArrivalLaws.{fact_of, sent_each}
use Rattle.link_nodes.proofs.ExchangeLaws.{second_dry, second_part, second_stays}
use Rattle.link_nodes.proofs.GrowLaws.{all_noted}
use Rattle.link_nodes.proofs.exchange.Exchange.tell_second.Goals as goal
use Rattle.trace_plan.specs.Plans.{Planned}
use Rattle.trace_rows.specs.declared.fault.CrewFault.TheVariants.{NoMemory}
use Rattle.trace_rows.proofs.RowLaws.{err_is}

pub returns-then-is_some : goal.returns-then-is_some
returns-then-is_some c held faults =
    second_stays c.args.self.now c.args.round.seed c.args.round.number held faults c.requires
    (ap is_some (sym c.ended.ensures) ∙ sym c.is_some.ensures ∙ c.if-is_some.true)

pub note-requires-clause-noted : goal.note-requires-clause-noted
note-requires-clause-noted c =
    subst (λ facts. AreNoted c.args.self.now.first_spans.rows.items (take c.args.self.now.first_spans.noted facts)) (sym c.facts-facts.ensures.facts)
    c.requires.first_noted.noted

pub note-requires-clause-within : goal.note-requires-clause-within
note-requires-clause-within c = subst (λ facts. c.args.self.now.first_spans.noted ≤ length facts)
    (sym c.facts-facts.ensures.facts) c.requires.first_noted.within

pub returns-in_err-note : goal.returns-in_err-note
returns-in_err-note c = λ held faults.
    second_dry c.args.self.now _ c.args.round.seed c.args.round.number held faults c.from_residual.result refl
    (err_is c.from_residual.result NoMemory c.from_residual.ensures.1)

pub send-requires-clause-end : goal.send-requires-clause-end
send-requires-clause-end c = c.span-span.ensures.end c.facts-facts.result.now c.in_ok-note.ensures.noted

pub send-requires-clause-others : goal.send-requires-clause-others
send-requires-clause-others c = c.span-span.ensures.others c.facts-facts.result.now c.in_ok-note.ensures.noted

pub returns-in_err-send : goal.returns-in_err-send
returns-in_err-send c = λ held faults.
    second_dry c.args.self.now _ c.args.round.seed c.args.round.number held
    faults c.from_residual-in_err-send.result refl
    (err_is c.from_residual-in_err-send.result NoMemory c.from_residual-in_err-send.ensures.1)

pub take_all-requires-clause-honest : goal.take_all-requires-clause-honest
take_all-requires-clause-honest c =
    let facts = c.facts-facts.result.now in
    let own = c.requires.first_plan ∙ sym c.deref.ensures in
    let honest = subst (λ (p : Planned). AllByRecursion (IsHonest p.run) facts) own c.facts-facts.ensures.honest in
    subst (AllByRecursion (IsHonest c.deref.result.now.run)) (sym c.in_ok-send.ensures)
    (sent_each (IsHonest c.deref.result.now.run) c.args.round.seed c.args.round.number c.number-row.result facts honest)

pub returns-in_err-take_all : goal.returns-in_err-take_all
returns-in_err-take_all c = λ held faults.
    second_dry c.args.self.now _ c.args.round.seed c.args.round.number held
    faults c.from_residual-in_err-take_all.result refl
    (err_is c.from_residual-in_err-take_all.result NoMemory c.from_residual-in_err-take_all.ensures.1)

pub returns : goal.returns
returns c = λ held faults.
    let exchange = c.args.self.now in
    let seed = c.args.round.seed in
    let k = c.args.round.number in
    let transit = c.send.new.transit.items in
    let transit_is : transit ≡ map fact_of (numbered_sent seed k exchange.second.progress.at.number exchange.first.progress.facts) =
    c.in_ok-send.ensures ∙ ap₂ (λ row facts. map fact_of (numbered_sent seed k row facts)) c.number-row.ensures.number c.facts-facts.ensures.facts in
    let came = c.in_ok-take_all.ensures.taken
    ∙ ap₂ (λ (p : Planned) os. taken_all (rule_of p.run os) 1 exchange.second.progress (reverse transit)) c.deref.ensures c.requires.second_owners in
    second_part exchange _ seed k transit held
    faults c.requires refl transit_is came c.take_all.ensures.same refl refl
    (subst (IsNoted c.note.new.self) c.facts-facts.ensures.facts
    (all_noted c.note.new.self c.facts-facts.result.now c.in_ok-note.ensures.all c.in_ok-note.ensures.noted))
    c.in_ok-take_all.ensures.empty
