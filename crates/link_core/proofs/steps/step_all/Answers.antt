use Rattle.std.proofs.Common.{◌∙◌, ◌<◌, length, refl, subst, sym, arith}
use Rattle.std.proofs.lemmas.Slice.Zip.{AllZip-long}
use Rattle.link_core.specs.Noted.{stepped}
use Rattle.link_core.proofs.LoopLaws.{all_made, none_made}
use Rattle.link_core.proofs.TriedSteps.{fleet_is, stepped_long, stepping_next}
use Rattle.link_core.proofs.steps.step_all.Goals as goal
use Rattle.port_solve.specs.Solved.{HaveStates}
use Rattle.trace_plan.specs.Plans.{Planned}

pub loop-instance-init : goal.loop-instance-init
loop-instance-init c =
    let run = c.args.plan.now.run in
    let states = c.args.units.now.states in
    let have = subst (λ (plan : Planned). HaveStates plan.run states) c.requires.tied c.count.ensures.states in
    let long = AllZip-long _ run.members states have in
    record {
      so = λ ports fed. record {
        made = none_made states (stepped run c.args.owners.now c.args.me c.args.t c.args.h ports states)
            (long ∙ sym (stepped_long run c.args.owners.now c.args.me c.args.t c.args.h ports states c.requires.owners long));
        left = refl;
        inputs = refl;
      };
      plan = refl;
    }

pub loop-instance-preserved : goal.loop-instance-preserved
loop-instance-preserved c =
    let run = c.args.plan.now.run in
    let states = c.args.units.now.states in
    let have = subst (λ (plan : Planned). HaveStates plan.run states) c.requires.tied c.count.ensures.states in
    let long = AllZip-long _ run.members states have in
    let within : c.loop-instance.instance < length run.members = omega (arith, c.loop-instance-test.true, c.instances-instance-end.ensures.count) in
    record {
      so = λ ports fed.
          stepping_next run c.args.owners.now c.args.me c.args.t c.args.h c.loop-instance.instance _ c.args.units.now c.loop-instance.units c.step_on.new.units
          ports c.requires.owners long within fed
          (c.step_on.ensures.stepped ports) (c.loop-instance.invariant.so ports fed);
      plan = c.step_on.ensures.plan ∙ c.loop-instance.invariant.plan;
    }

pub returns-clause-stepped : goal.returns-clause-stepped
returns-clause-stepped c = λ ports fed.
    let run = c.args.plan.now.run in
    let states = c.args.units.now.states in
    let have = subst (λ (plan : Planned). HaveStates plan.run states) c.requires.tied c.count.ensures.states in
    let long = AllZip-long _ run.members states have in
    let whole = stepped run c.args.owners.now c.args.me c.args.t c.args.h ports states in
    let so = c.loop-instance.invariant.so ports fed in
    fleet_is c.loop-instance.units c.args.units.now whole c.loop-instance.invariant.plan
    (all_made c.loop-instance.units.states whole c.loop-instance.instance
    (omega (
      arith,
      stepped_long run c.args.owners.now c.args.me c.args.t c.args.h ports states c.requires.owners long,
      c.loop-instance-test.false,
      c.instances-instance-end.ensures.count,
    )) so.made)
    so.inputs
