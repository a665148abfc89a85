use Rattle.std.proofs.Common.{◌≡◌, ◌∙◌, ap, subst, sym}
use Rattle.std.proofs.lemmas.Option.{slice_get_past}
use Rattle.std.specs.Prelude.{IfOk, None, Some, slice_get}
use Rattle.link_laws.specs.Keeping.{IsHonest}
use Rattle.link_laws.specs.Making.{rule_of}
use Rattle.link_laws.specs.Pairs.{delivered}
use Rattle.link_laws.proofs.PairLaws.{found_is}
use Rattle.link_core.proofs.pair.deliver.Goals as goal
use Rattle.list_laws.proofs.Members.{read_at}
use Rattle.trace_plan.specs.Plans.{Planned}

pub take-requires : goal.take-requires
take-requires c =
    let there = read_at c.facts.result.now c.args.place c.in-Some.fact.now c.in-Some.ensures.lookup.3.0 c.in-Some.ensures.lookup.1 in
    let honest = found_is (IsHonest c.args.other.now.plan.run) c.facts.result.now c.args.place c.in-Some.fact.now c.facts.ensures.honest there in
    record { honest = subst (λ (p : Planned). IsHonest p.run c.in-Some.fact.now) c.requires.plan honest }

pub returns-in-Some-clause-delivered : goal.returns-in-Some-clause-delivered
returns-in-Some-clause-delivered c =
    let there = read_at c.facts.result.now c.args.place c.in-Some.fact.now c.in-Some.ensures.lookup.3.0 c.in-Some.ensures.lookup.1 in
    let found : slice_get c.args.other.now.progress.facts c.args.place ≡ Some c.in-Some.fact.now =
    ap (λ all. slice_get all c.args.place) (sym c.facts.ensures.facts) ∙ there in
    let node = c.args.node.now in
    subst (λ one. IfOk c.take.result (λ answer. (c.take.new.self.progress, answer) ≡ delivered (rule_of node.plan.run node.owners) node.me node.progress one))
    (sym found) c.take.ensures.taken

pub returns-in-None-clause-delivered : goal.returns-in-None-clause-delivered
returns-in-None-clause-delivered c =
    let past = slice_get_past c.facts.result.now c.args.place c.in-None.ensures.lookup.3 in
    let found : slice_get c.args.other.now.progress.facts c.args.place ≡ None = ap (λ all. slice_get all c.args.place) (sym c.facts.ensures.facts) ∙ past in
    let node = c.args.node.now in
    ap (delivered (rule_of node.plan.run node.owners) node.me node.progress) (sym found)
