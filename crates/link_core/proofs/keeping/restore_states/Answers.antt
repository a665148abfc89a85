use Rattle.std.proofs.Common.{◌<◌, ◌∙◌, length, map, refl, arith}
use Rattle.std.proofs.lemmas.Slice.Zip.{AllZip-long}
use Rattle.std.proofs.lemmas.List.{length-map}
use Rattle.link_core.proofs.KeepLaws.{fits, none_kept, restored_next}
use Rattle.link_core.proofs.LoopLaws.{all_made}
use Rattle.link_core.proofs.TriedSteps.{fleet_is}
use Rattle.link_core.proofs.keeping.restore_states.Goals as goal

pub loop-instance-init : goal.loop-instance-init
loop-instance-init c = record {
  made = none_kept c.args.units.now.plan.run c.args.units.now.states
      (map (λ one. one.items) c.args.states.now) c.count-instance-end.ensures.states c.requires.long;
  have = c.count-instance-end.ensures.states;
  plan = refl;
  inputs = refl;
}

pub bounds-states-instance : goal.bounds-states-instance
bounds-states-instance c =
    let long = AllZip-long _ c.args.units.now.plan.run.members _ c.requires.long in
    omega (arith, c.loop-instance-test.true, c.count-instance-end.ensures.count, long, length-map c.args.states.now (λ one. one.items))

pub restore-requires-clause-same_length : goal.restore-requires-clause-same_length
restore-requires-clause-same_length c =
    let run = c.args.units.now.plan.run in
    let within : c.loop-instance.instance < length run.members = omega (arith, c.loop-instance-test.true, c.count-instance-end.ensures.count) in
    fits run c.args.states.now c.loop-instance.instance c.index-states-instance.result within c.requires.long c.index-states-instance.is c.loop-instance.units
    c.loop-instance.invariant.have c.deref.result.now c.deref.ensures.value

pub loop-instance-preserved : goal.loop-instance-preserved
loop-instance-preserved c =
    let run = c.args.units.now.plan.run in
    let within : c.loop-instance.instance < length run.members = omega (arith, c.loop-instance-test.true, c.count-instance-end.ensures.count) in
    let next = restored_next run c.args.states.now c.loop-instance.instance c.index-states-instance.result within c.requires.long c.index-states-instance.is
    c.loop-instance.units c.loop-instance.invariant.have c.deref.result.now c.deref.ensures.value c.restore.new.self c.restore.ensures
    c.loop-instance.invariant.made in
    record { made = next.made; have = next.long; plan = next.plan ∙ c.loop-instance.invariant.plan; inputs = next.inputs ∙ c.loop-instance.invariant.inputs }

pub returns : goal.returns
returns c =
    let whole = map (λ one. one.items) c.args.states.now in
    let long = AllZip-long _ c.args.units.now.plan.run.members whole c.requires.long in
    record {
      units = fleet_is c.loop-instance.units c.args.units.now whole c.loop-instance.invariant.plan
          (all_made c.loop-instance.units.states whole c.loop-instance.instance
          (omega (arith, c.loop-instance-test.false, c.count-instance-end.ensures.count, long)) c.loop-instance.invariant.made)
          c.loop-instance.invariant.inputs;
    }
