use Rattle.std.proofs.Common.{◌≡◌, true, subst, sym}
use Rattle.std.specs.List.{AllByRecursion}
use Rattle.link_laws.specs.Keeping.{IsHonest, IsTrueFact}
use Rattle.link_laws.specs.Lengths.{is_short}
use Rattle.link_core.specs.NodeStates.{NodeState}
use Rattle.link_core.specs.Ready.{IsJudged, progress_in}
use Rattle.link_laws.proofs.ShortFacts.{fact_is_short}
use Rattle.link_core.proofs.TakeLaws.{facts_honest}
use Rattle.link_core.proofs.node.Node.facts.Goals as goal
use Rattle.list_laws.proofs.Lists.{each_so}
use Rattle.trace_plan.specs.Plans.{Planned}

pub returns-clause-honest : goal.returns-clause-honest
returns-clause-honest c =
    let n = c.self.inside in
    let judged = subst (λ (p : Planned). IsJudged p.run) c.deref.ensures c.judged.ensures in
    let own = facts_honest n.plan.value.run judged n.owners n.me
    (progress_in n.owners n.me n.units.states n.notes n.course n.kept) c.self.invariant.is_set.owned c.self.invariant.keeps in
    subst (AllByRecursion (IsHonest c.args.self.now.plan.run)) (sym c.deref-2.ensures.value)
    (subst (λ (s : NodeState). AllByRecursion (IsHonest s.plan.run) n.notes.facts.items) c.self.view_is own)

pub returns-clause-short : goal.returns-clause-short
returns-clause-short c =
    let n = c.self.inside in
    let judged = subst (λ (p : Planned). IsJudged p.run) c.deref.ensures c.judged.ensures in
    subst (AllByRecursion (λ fact. is_short fact ≡ true)) (sym c.deref-2.ensures.value)
    (each_so (IsTrueFact n.plan.value.run) (λ fact. is_short fact ≡ true)
    (fact_is_short n.plan.value.run judged.order judged.is_order judged.members judged.sound judged.bounded c.self.invariant.of_words)
    n.notes.facts.items c.self.invariant.keeps.facts)
