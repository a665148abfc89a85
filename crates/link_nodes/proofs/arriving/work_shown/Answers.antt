use Rattle.std.proofs.Common.{◌≡◌, ◌∙◌, ap₂, subst}
use Rattle.link_laws.specs.Keeping.{KeepsTo}
use Rattle.link_laws.specs.Making.{rule_of}
use Rattle.link_laws.specs.Nodes.{worked}
use Rattle.link_nodes.proofs.LaterLaws.{worked_later}
use Rattle.link_nodes.proofs.ShownRowLaws.{comes_not, going_told, work_comes}
use Rattle.link_nodes.proofs.arriving.work_shown.Goals as goal
use Rattle.trace_plan.specs.Plans.{Planned}
use Rattle.trace_rows.specs.declared.fault.CrewFault.TheVariants.{NoMemory}
use Rattle.trace_rows.proofs.RowLaws.{err_is}

pub returns-in_err-came-clause-comes : goal.returns-in_err-came-clause-comes
returns-in_err-came-clause-comes g c =
    let node = c.args.node.now in
    let plan = c.args.plan.now in
    comes_not plan node.progress (worked (rule_of plan.run node.owners) 0 node.progress).0 c.work.new.self.progress (g.O.Sink.held c.args.out.now)
    (g.O.Sink.faults c.args.out.now) c.from_residual.result
    (worked_later plan.run node.owners 0 node.progress) (err_is c.from_residual.result NoMemory c.from_residual.ensures.1)

pub returns-clause-comes : goal.returns-clause-comes
returns-clause-comes g c =
    let node = c.args.node.now in
    let plan = c.args.plan.now in
    let going = c.is_none-going.result in
    let going_is = going_told c.ended.result c.args.node.now.progress.ended going c.is_none-going.ensures c.ended.ensures in
    let keeps = subst (λ m. KeepsTo plan.run (rule_of plan.run node.owners) m node.progress) c.requires.me
    (subst (λ (p : Planned). KeepsTo p.run (rule_of p.run node.owners) node.me node.progress) c.requires.own c.number.ensures.keeps) in
    let did : (c.work.new.self.progress, c.in_ok-came.came) ≡ worked (rule_of plan.run node.owners) 0 node.progress =
    c.in_ok-came.ensures.worked ∙ ap₂ (λ (p : Planned) m. worked (rule_of p.run node.owners) m node.progress) c.requires.own c.requires.me in
    work_comes plan c.judged.ensures node.owners c.requires.owners node.progress keeps c.work.new.self.progress c.in_ok-came.came going
    (g.O.Sink.held c.args.out.now) (g.O.Sink.held c.show.new.out) (g.O.Sink.faults c.args.out.now) (g.O.Sink.faults c.show.new.out) c.show.result
    did going_is c.show.ensures.whole c.show.ensures.front c.show.ensures.cause
