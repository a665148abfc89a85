use Rattle.std.proofs.Common.{◌≡◌, ◌∙◌, Ok, Err, refl, ap, subst, sym}
use Rattle.std.specs.Prelude.{reverse}
use Rattle.link_laws.specs.Keeping.{IsHonest}
use Rattle.link_laws.specs.Making.{rule_of}
use Rattle.link_laws.specs.Nodes.{Progress, taken}
use Rattle.link_nodes.specs.ShownRows.{ComesTo, taken_all, taken_twice}
use Rattle.link_nodes.proofs.LaterLaws.{IsLater, all_later, later_still, taken_later}
use Rattle.link_nodes.proofs.ShownRowLaws.{comes_on, comes_there, part_up}
use Rattle.link_nodes.proofs.TakenLaws.{front_each, last_taken}
use Rattle.link_nodes.proofs.arriving.take_all_shown.Goals as goal
use Rattle.trace_rows.proofs.RowLaws.{err_is}

pub take_shown-requires-clause-honest : goal.take_shown-requires-clause-honest
take_shown-requires-clause-honest g c = (front_each
    (IsHonest c.args.plan.now.run) c.loop-fact.transit.items c.pop.new.self.items c.in-Some.fact c.in-Some.ensures.items c.loop-fact.invariant.honest).1

pub take_shown-requires-in-Some-clause-honest : goal.take_shown-requires-in-Some-clause-honest
take_shown-requires-in-Some-clause-honest g c = (front_each
    (IsHonest c.args.plan.now.run) c.loop-fact.transit.items c.pop.new.self.items c.in-Some.fact c.in-Some.ensures.items c.loop-fact.invariant.honest).1

pub returns-in_err-take_shown-clause-comes : goal.returns-in_err-take_shown-clause-comes
returns-in_err-take_shown-clause-comes g c =
    let plan = c.args.plan.now in
    let owners = c.args.node.now.owners in
    let rule = rule_of plan.run owners in
    let fact = c.in-Some.fact in
    let now = c.loop-fact.node.progress in
    let one = (taken rule 0 now fact).0 in
    let two = taken_twice rule 0 now fact in
    let front = c.pop.new.self.items in
    let target = taken_all rule 0 c.args.node.now.progress (reverse c.args.transit.now.items) in
    let end_is : taken_all rule 0 two (reverse front) ≡ target = sym (last_taken rule 0 now c.loop-fact.transit.items front fact c.in-Some.ensures.items)
    ∙ c.loop-fact.invariant.rest in
    let later = subst (IsLater one) end_is (later_still one two (taken_all rule 0 two (reverse front)) (taken_later plan.run owners 0 one fact)
    (all_later plan.run owners 0 two (reverse front))) in
    let call = subst (λ os. ComesTo {T = Unit {0}} plan now (taken (rule_of plan.run os) 0 now fact).0 c.take_shown.new.node.progress
    (g.O.Sink.held c.loop-fact.out) (g.O.Sink.held c.take_shown.new.out) (g.O.Sink.faults c.loop-fact.out) (g.O.Sink.faults c.take_shown.new.out)
    (Err c.in_err-take_shown.field-0.0))
    c.loop-fact.invariant.same.owners c.in_err-take_shown.ensures.comes in
    part_up plan c.args.node.now.progress now one target c.take_shown.new.node.progress (g.O.Sink.held c.args.out.now) (g.O.Sink.held c.loop-fact.out)
    (g.O.Sink.held c.take_shown.new.out) (g.O.Sink.faults c.args.out.now) (g.O.Sink.faults c.loop-fact.out) (g.O.Sink.faults c.take_shown.new.out)
    c.in_err-take_shown.field-0.0 c.from_residual.result c.loop-fact.invariant.comes call later
    (err_is c.from_residual.result c.in_err-take_shown.field-0.0 c.from_residual.ensures.1)

pub returns-in_err-take_shown-2-clause-comes : goal.returns-in_err-take_shown-2-clause-comes
returns-in_err-take_shown-2-clause-comes g c =
    let plan = c.args.plan.now in
    let owners = c.args.node.now.owners in
    let rule = rule_of plan.run owners in
    let fact = c.in-Some.fact in
    let start = c.args.node.now.progress in
    let now = c.loop-fact.node.progress in
    let one = (taken rule 0 now fact).0 in
    let was = c.loop-fact.invariant.same in
    let first = subst (λ os. ComesTo {T = Unit {0}} plan now (taken (rule_of plan.run os) 0 now fact).0 c.take_shown.new.node.progress
    (g.O.Sink.held c.loop-fact.out) (g.O.Sink.held c.take_shown.new.out) (g.O.Sink.faults c.loop-fact.out) (g.O.Sink.faults c.take_shown.new.out)
    (Ok tt)) was.owners c.in_ok-take_shown.ensures.comes in
    let mid = c.take_shown.new.node.progress in
    let then = c.take_shown.ensures.same in
    let both = comes_there plan start mid one (g.O.Sink.held c.args.out.now) (g.O.Sink.held c.take_shown.new.out) (g.O.Sink.faults c.args.out.now)
    (g.O.Sink.faults c.take_shown.new.out)
    (comes_on plan start now now one one mid (g.O.Sink.held c.args.out.now) (g.O.Sink.held c.loop-fact.out) (g.O.Sink.held c.take_shown.new.out)
    (g.O.Sink.faults c.args.out.now) (g.O.Sink.faults c.loop-fact.out) (g.O.Sink.faults c.take_shown.new.out) (Ok tt) c.loop-fact.invariant.comes first refl) in
    let fault = c.in_err-take_shown-2.field-0.0 in
    let second = subst (λ os. ComesTo {T = Unit {0}} plan mid (taken (rule_of plan.run os) 0 mid fact).0 c.take_shown-in-Some.new.node.progress
    (g.O.Sink.held c.take_shown.new.out) (g.O.Sink.held c.take_shown-in-Some.new.out) (g.O.Sink.faults c.take_shown.new.out)
    (g.O.Sink.faults c.take_shown-in-Some.new.out) (Err fault)) (then.owners ∙ was.owners) c.in_err-take_shown-2.ensures.comes in
    let two = (taken rule 0 mid fact).0 in
    let front = c.pop.new.self.items in
    let target = taken_all rule 0 start (reverse c.args.transit.now.items) in
    let two_is : taken_twice rule 0 now fact ≡ two = ap (λ (p : Progress). (taken rule 0 p fact).0) (sym first.there) in
    let end_is : taken_all rule 0 two (reverse front) ≡ target = ap (λ (p : Progress). taken_all rule 0 p (reverse front)) (sym two_is)
    ∙ sym (last_taken rule 0 now c.loop-fact.transit.items front fact c.in-Some.ensures.items) ∙ c.loop-fact.invariant.rest in
    let later = subst (IsLater two) end_is (all_later plan.run owners 0 two (reverse front)) in
    part_up plan start mid two target c.take_shown-in-Some.new.node.progress (g.O.Sink.held c.args.out.now) (g.O.Sink.held c.take_shown.new.out)
    (g.O.Sink.held c.take_shown-in-Some.new.out) (g.O.Sink.faults c.args.out.now) (g.O.Sink.faults c.take_shown.new.out)
    (g.O.Sink.faults c.take_shown-in-Some.new.out)
    fault c.from_residual-in_err-take_shown-2.result both second later
    (err_is c.from_residual-in_err-take_shown-2.result fault c.from_residual-in_err-take_shown-2.ensures.1)

pub loop-fact-preserved : goal.loop-fact-preserved
loop-fact-preserved g c =
    let plan = c.args.plan.now in
    let owners = c.args.node.now.owners in
    let rule = rule_of plan.run owners in
    let fact = c.in-Some.fact in
    let start = c.args.node.now.progress in
    let now = c.loop-fact.node.progress in
    let one = (taken rule 0 now fact).0 in
    let was = c.loop-fact.invariant.same in
    let first = subst (λ os. ComesTo {T = Unit {0}} plan now (taken (rule_of plan.run os) 0 now fact).0 c.take_shown.new.node.progress
    (g.O.Sink.held c.loop-fact.out) (g.O.Sink.held c.take_shown.new.out) (g.O.Sink.faults c.loop-fact.out) (g.O.Sink.faults c.take_shown.new.out)
    (Ok tt)) was.owners c.in_ok-take_shown.ensures.comes in
    let mid = c.take_shown.new.node.progress in
    let then = c.take_shown.ensures.same in
    let both = comes_there plan start mid one (g.O.Sink.held c.args.out.now) (g.O.Sink.held c.take_shown.new.out) (g.O.Sink.faults c.args.out.now)
    (g.O.Sink.faults c.take_shown.new.out)
    (comes_on plan start now now one one mid (g.O.Sink.held c.args.out.now) (g.O.Sink.held c.loop-fact.out) (g.O.Sink.held c.take_shown.new.out)
    (g.O.Sink.faults c.args.out.now) (g.O.Sink.faults c.loop-fact.out) (g.O.Sink.faults c.take_shown.new.out) (Ok tt) c.loop-fact.invariant.comes first refl) in
    let second = subst (λ os. ComesTo {T = Unit {0}} plan mid (taken (rule_of plan.run os) 0 mid fact).0 c.take_shown-in-Some.new.node.progress
    (g.O.Sink.held c.take_shown.new.out) (g.O.Sink.held c.take_shown-in-Some.new.out) (g.O.Sink.faults c.take_shown.new.out)
    (g.O.Sink.faults c.take_shown-in-Some.new.out) (Ok tt)) (then.owners ∙ was.owners) c.in_ok-take_shown-2.ensures.comes in
    let two = (taken rule 0 mid fact).0 in
    let end = c.take_shown-in-Some.new.node.progress in
    let front = c.pop.new.self.items in
    let two_is : taken_twice rule 0 now fact ≡ two = ap (λ (p : Progress). (taken rule 0 p fact).0) (sym first.there) in
    let last = c.take_shown-in-Some.ensures.same in
    let each = front_each (IsHonest plan.run) c.loop-fact.transit.items front fact c.in-Some.ensures.items c.loop-fact.invariant.honest in
    record {
      rest =
          ap (λ (p : Progress). taken_all rule 0 p (reverse front)) (second.there ∙ sym two_is)
          ∙ sym (last_taken rule 0 now c.loop-fact.transit.items front fact c.in-Some.ensures.items) ∙ c.loop-fact.invariant.rest;
      same = record { plan = last.plan ∙ then.plan ∙ was.plan; owners = last.owners ∙ then.owners ∙ was.owners; me = last.me ∙ then.me ∙ was.me };
      honest = each.0;
      comes =
          comes_there plan start end two (g.O.Sink.held c.args.out.now) (g.O.Sink.held c.take_shown-in-Some.new.out) (g.O.Sink.faults c.args.out.now)
          (g.O.Sink.faults c.take_shown-in-Some.new.out)
          (comes_on plan start mid mid two two end (g.O.Sink.held c.args.out.now) (g.O.Sink.held c.take_shown.new.out)
          (g.O.Sink.held c.take_shown-in-Some.new.out) (g.O.Sink.faults c.args.out.now) (g.O.Sink.faults c.take_shown.new.out)
          (g.O.Sink.faults c.take_shown-in-Some.new.out) (Ok tt) both second refl);
    }
