use Rattle.std.proofs.Common.{◌<◌, ◌∙◌, length, map, ap, arith}
use Rattle.std.proofs.lemmas.Slice.Zip.{AllZip-long}
use Rattle.std.proofs.lemmas.List.{length-map}
use Rattle.link_core.proofs.KeepLaws.{as_long, kept_next, none_kept}
use Rattle.link_core.proofs.LoopLaws.{all_made}
use Rattle.link_core.proofs.keeping.keep_states.Goals as goal

pub loop-instance-init : goal.loop-instance-init
loop-instance-init c = record {
  long = c.requires.long;
  made = none_kept c.args.units.now.plan.run (map (λ one.
      one.items) c.args.states.now.items) c.args.units.now.states c.requires.long c.count-instance-end.ensures.states;
}

pub index_mut-requires : goal.index_mut-requires
index_mut-requires c =
    let long = AllZip-long _ c.args.units.now.plan.run.members _ c.loop-instance.invariant.long in
    omega (arith, c.loop-instance-test.true, c.count-instance-end.ensures.count, long, length-map c.loop-instance.states.items (λ one. one.items))

pub copy_words-requires : goal.copy_words-requires
copy_words-requires c =
    let run = c.args.units.now.plan.run in
    let k = c.loop-instance.instance in
    let room = c.loop-instance.states.items in
    let within : k < length run.members = omega (arith, c.loop-instance-test.true, c.count-instance-end.ensures.count) in
    let long = AllZip-long _ run.members _ c.loop-instance.invariant.long in
    let many : k < length room = omega (arith, within, long, length-map room (λ one. one.items)) in
    ap length c.deref_mut.ensures.value
    ∙ as_long run room k c.index_mut.result.now within many c.loop-instance.invariant.long c.index_mut.ensures.value c.args.units.now.states
    c.count-instance-end.ensures.states c.state.result.now c.state.ensures

pub loop-instance-preserved : goal.loop-instance-preserved
loop-instance-preserved c =
    let run = c.args.units.now.plan.run in
    let k = c.loop-instance.instance in
    let room = c.loop-instance.states.items in
    let within : k < length run.members = omega (arith, c.loop-instance-test.true, c.count-instance-end.ensures.count) in
    let long = AllZip-long _ run.members _ c.loop-instance.invariant.long in
    let many : k < length room = omega (arith, within, long, length-map room (λ one. one.items)) in
    let next = kept_next run room k c.index_mut.result.now within many c.loop-instance.invariant.long c.index_mut.ensures.value c.args.units.now.states
    c.count-instance-end.ensures.states c.state.result.now c.state.ensures c.copy_words.new.into c.copy_words.ensures c.loop-instance.invariant.made in
    record { long = next.long; made = next.made }

pub returns : goal.returns
returns c =
    let states = c.args.units.now.states in
    let long = AllZip-long _ c.args.units.now.plan.run.members states c.count-instance-end.ensures.states in
    record {
      states = all_made (map (λ one. one.items) c.loop-instance.states.items) states c.loop-instance.instance
          (omega (arith, c.loop-instance-test.false, c.count-instance-end.ensures.count, long)) c.loop-instance.invariant.made;
    }
