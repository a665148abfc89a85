use Rattle.std.proofs.Common.{◌∙◌, ap, subst, sym}
use Rattle.std.specs.Prelude.{reverse}
use Rattle.link_laws.specs.Keeping.{IsHonest}
use Rattle.link_laws.specs.Making.{rule_of}
use Rattle.link_laws.specs.Nodes.{Progress, taken}
use Rattle.link_nodes.specs.ShownRows.{taken_all}
use Rattle.link_nodes.proofs.TakenLaws.{front_each, last_taken, second_taken}
use Rattle.link_nodes.proofs.arriving.take_all.Goals as goal
use Rattle.trace_plan.specs.Plans.{Planned}

pub take-requires : goal.take-requires
take-requires c =
    let own = c.loop-fact.invariant.same.plan ∙ c.requires.own in
    let each = front_each
    (IsHonest c.args.plan.now.run) c.loop-fact.transit.items c.pop.new.self.items c.in-Some.fact c.in-Some.ensures.items c.loop-fact.invariant.honest in
    record { honest = subst (λ (p : Planned). IsHonest p.run c.in-Some.fact) (sym own) each.1 }

pub take-requires-in-Some : goal.take-requires-in-Some
take-requires-in-Some c =
    let own = c.take.ensures.same.plan ∙ c.loop-fact.invariant.same.plan ∙ c.requires.own in
    let each = front_each
    (IsHonest c.args.plan.now.run) c.loop-fact.transit.items c.pop.new.self.items c.in-Some.fact c.in-Some.ensures.items c.loop-fact.invariant.honest in
    record { honest = subst (λ (p : Planned). IsHonest p.run c.in-Some.fact) (sym own) each.1 }

pub loop-fact-preserved : goal.loop-fact-preserved
loop-fact-preserved c =
    let plan = c.args.plan.now in
    let owners = c.args.node.now.owners in
    let fact = c.in-Some.fact in
    let each = front_each (IsHonest plan.run) c.loop-fact.transit.items c.pop.new.self.items fact c.in-Some.ensures.items c.loop-fact.invariant.honest in
    let was = c.loop-fact.invariant.same in
    let once = second_taken plan owners 1 c.loop-fact.node fact (was.plan ∙ c.requires.own) was.owners
    (was.me ∙ c.requires.me) c.take.new.self.progress c.in_ok-take.field-0 c.in_ok-take.ensures.taken in
    let then = c.take.ensures.same in
    let twice = second_taken plan owners 1 c.take.new.self fact (then.plan ∙ was.plan ∙ c.requires.own) (then.owners ∙ was.owners)
    (then.me ∙ was.me ∙ c.requires.me) c.take-in-Some.new.self.progress c.in_ok-take-2.field-0 c.in_ok-take-2.ensures.taken in
    let last = c.take-in-Some.ensures.same in
    record {
      rest =
          ap (λ (p : Progress). taken_all (rule_of plan.run owners) 1 p (reverse c.pop.new.self.items))
          (twice ∙ ap (λ (p : Progress). (taken (rule_of plan.run owners) 1 p fact).0) once)
          ∙ sym (last_taken (rule_of plan.run owners) 1 c.loop-fact.node.progress c.loop-fact.transit.items c.pop.new.self.items fact c.in-Some.ensures.items)
          ∙ c.loop-fact.invariant.rest;
      same = record { plan = last.plan ∙ then.plan ∙ was.plan; owners = last.owners ∙ then.owners ∙ was.owners; me = last.me ∙ then.me ∙ was.me };
      honest = each.0;
    }
