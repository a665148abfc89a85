use Rattle.std.proofs.Common.{◌≡◌, ◌∙◌, ap₂, subst, sym}
use Rattle.link_laws.specs.Keeping.{IsHonest, KeepsTo}
use Rattle.link_laws.specs.Making.{rule_of}
use Rattle.link_laws.specs.Nodes.{taken}
use Rattle.link_nodes.proofs.LaterLaws.{taken_later}
use Rattle.link_nodes.proofs.ShownRowLaws.{comes_not, going_told, take_comes}
use Rattle.link_nodes.proofs.arriving.take_shown.Goals as goal
use Rattle.trace_plan.specs.Plans.{Planned}
use Rattle.trace_rows.specs.declared.fault.CrewFault.TheVariants.{NoMemory}
use Rattle.trace_rows.proofs.RowLaws.{err_is}

pub take-requires : goal.take-requires
take-requires g c = record { honest = subst (λ (p : Planned). IsHonest p.run c.args.fact.now) (sym c.requires.own) c.requires.honest }

pub returns-in_err-came-clause-comes : goal.returns-in_err-came-clause-comes
returns-in_err-came-clause-comes g c =
    let node = c.args.node.now in
    let plan = c.args.plan.now in
    let fact = c.args.fact.now in
    comes_not plan node.progress (taken (rule_of plan.run node.owners) 0 node.progress fact).0 c.take.new.self.progress (g.O.Sink.held c.args.out.now)
    (g.O.Sink.faults c.args.out.now) c.from_residual.result
    (taken_later plan.run node.owners 0 node.progress fact) (err_is c.from_residual.result NoMemory c.from_residual.ensures.1)

pub returns-clause-comes : goal.returns-clause-comes
returns-clause-comes g c =
    let node = c.args.node.now in
    let plan = c.args.plan.now in
    let fact = c.args.fact.now in
    let going = c.is_none-going.result in
    let going_is = going_told c.ended.result c.args.node.now.progress.ended going c.is_none-going.ensures c.ended.ensures in
    let keeps = subst (λ m. KeepsTo plan.run (rule_of plan.run node.owners) m node.progress) c.requires.me
    (subst (λ (p : Planned). KeepsTo p.run (rule_of p.run node.owners) node.me node.progress) c.requires.own c.number.ensures.keeps) in
    let did : (c.take.new.self.progress, c.in_ok-came.came) ≡ taken (rule_of plan.run node.owners) 0 node.progress fact =
    c.in_ok-came.ensures.taken ∙ ap₂ (λ (p : Planned) m. taken (rule_of p.run node.owners) m node.progress fact) c.requires.own c.requires.me in
    take_comes plan c.judged.ensures node.owners c.requires.owners node.progress keeps fact c.requires.honest c.take.new.self.progress c.in_ok-came.came going
    (g.O.Sink.held c.args.out.now) (g.O.Sink.held c.show.new.out) (g.O.Sink.faults c.args.out.now) (g.O.Sink.faults c.show.new.out) c.show.result
    did going_is c.show.ensures.whole c.show.ensures.front c.show.ensures.cause
