use Rattle.std.proofs.Common.{subst, sym}
use Rattle.nest_ways.specs.Reaching.{AreKnown, AreSteps, lines_of}
use Rattle.nest_ways.specs.declared.steps.Known.{Known}
use Rattle.nest_ways.proofs.WayLaws.{known_more}
use Rattle.nest_ways.proofs.known.add_known.Goals as goal

pub steps_of-requires : goal.steps_of-requires
steps_of-requires c = subst (AreKnown c.args.names.now c.args.scopes.now) (sym c.as_slice.ensures.value) c.requires

pub returns : goal.returns
returns c place known there =
    let nest = c.args.names.now in
    let scopes = c.args.scopes.now in
    let all = c.args.known.now.items in
    let group = c.args.group in
    let made = c.in-Some.made in
    let lines = lines_of nest group c.args.port.now in
    let one : Known = record {
      group = group;
      port = c.args.port;
      height = made.height;
      steps = made.steps;
      ends = c.in_ok-ends.ends;
    } in
    let steps : AreSteps nest scopes all group made.height made.steps.items lines =
    subst (λ those. AreSteps nest scopes those group made.height made.steps.items lines) c.as_slice.ensures.value (c.in_ok-made.ensures made c.in-Some.is) in
    known_more nest scopes all c.push.new.self.items one c.requires steps
    (λ kept is.
    c.in_ok-ends.ensures kept is nest made.height lines (subst (AreKnown nest scopes) (sym c.as_slice-2.ensures.value) c.requires)
    (subst (λ those. AreSteps nest scopes those group made.height c.as_slice-steps.result.now lines) (sym c.as_slice-2.ensures.value)
    (subst (λ those. AreSteps nest scopes all group made.height those lines) (sym c.as_slice-steps.ensures) steps)))
    c.in_ok-push.ensures.items place known there
