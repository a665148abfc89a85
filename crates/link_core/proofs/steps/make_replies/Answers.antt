use Rattle.std.proofs.Common.{◌∙◌, ◌<◌, length, zip, ap, subst, sym, arith}
use Rattle.std.proofs.lemmas.Slice.Zip.{AllZip-long}
use Rattle.link_laws.specs.Making.{with_said}
use Rattle.std.proofs.lemmas.List.{length-map}
use Rattle.link_core.specs.Noted.{making_in, part_at}
use Rattle.link_core.proofs.PassBodies.{gone}
use Rattle.link_core.proofs.RoomLaws.{room_for, room_set}
use Rattle.link_core.proofs.StepBodies.{items_long, reply_step}
use Rattle.link_core.proofs.steps.make_replies.Goals as goal
use Rattle.port_solve.specs.Solved.{HaveStates}
use Rattle.trace_plan.specs.Plans.{Planned}
use Rattle.trace_units.specs.Fleets.{Fleet}
use Rattle.unit_tree.specs.Successor.{standings}

pub index_mut-before-requires : goal.index_mut-before-requires
index_mut-before-requires c =
    let long = AllZip-long _ c.args.plan.now.run.members _ c.loop-instance.invariant.before in
    omega (arith, c.loop-instance-test.true, c.instances-instance-end.ensures.count, long, length-map c.loop-instance.before.items (λ one. one.items))

pub make_reply-requires-clause-before : goal.make_reply-requires-clause-before
make_reply-requires-clause-before c =
    let run = c.args.plan.now.run in
    let within : c.loop-instance.instance < length run.members = omega (arith, c.loop-instance-test.true, c.instances-instance-end.ensures.count) in
    let long = AllZip-long _ run.members _ c.loop-instance.invariant.before in
    let many : c.loop-instance.instance < length c.loop-instance.before.items =
    omega (arith, within, long, length-map c.loop-instance.before.items (λ one. one.items)) in
    let have = subst (λ (plan : Planned). HaveStates plan.run c.args.units.now.states) c.requires.tied c.count.ensures.states in
    let had = subst (HaveStates run) (sym (ap (λ (f : Fleet). f.states) c.loop-instance.invariant.kept)) have in
    ap length c.deref_mut.ensures.value
    ∙ room_for run c.loop-instance.before.items c.loop-instance.instance c.index_mut-before.result.now within many c.loop-instance.invariant.before
    c.index_mut-before.ensures.value c.loop-instance.units.states had

pub loop-instance-preserved : goal.loop-instance-preserved
loop-instance-preserved c =
    let run = c.args.plan.now.run in
    let states = c.args.units.now.states in
    let have = subst (λ (plan : Planned). HaveStates plan.run states) c.requires.tied c.count.ensures.states in
    let long = AllZip-long _ run.members states have in
    let within : c.loop-instance.instance < length run.members = omega (arith, c.loop-instance-test.true, c.instances-instance-end.ensures.count) in
    let room_long = AllZip-long _ run.members _ c.loop-instance.invariant.before in
    let many : c.loop-instance.instance < length c.loop-instance.before.items =
    omega (arith, within, room_long, length-map c.loop-instance.before.items (λ one. one.items)) in
    record {
      going = λ ports fed.
          reply_step run c.args.owners.now c.args.me states c.loop-instance.units.states c.requires.owners long
          (ap (λ (f : Fleet). f.states) c.loop-instance.invariant.kept) c.loop-instance.instance within _ c.args.trial.redo c.args.trial.point c.args.trial.row
          c.args.trial.h ports
          (making_in c.args.notes.now) (making_in c.loop-instance.notes) (making_in c.make_reply.new.notes)
          (λ member state. c.make_reply.ensures.made ports member state (ap (λ (f : Fleet). f.inputs) c.loop-instance.invariant.kept ∙ fed))
          (c.loop-instance.invariant.going ports fed);
      notes = c.make_reply.ensures.notes;
      room = c.make_reply.ensures.room;
      kept = c.make_reply.ensures.kept ∙ c.loop-instance.invariant.kept;
      before = room_set run c.loop-instance.before.items c.loop-instance.instance c.index_mut-before.result.now within many c.loop-instance.invariant.before
          c.index_mut-before.ensures.value c.make_reply.new.before (c.make_reply.ensures.before ∙ ap length c.deref_mut.ensures.value);
    }

pub returns-clause-made : goal.returns-clause-made
returns-clause-made c = λ ports fed.
    let run = c.args.plan.now.run in
    let states = c.args.units.now.states in
    let have = subst (λ (plan : Planned). HaveStates plan.run states) c.requires.tied c.count.ensures.states in
    let long = AllZip-long _ run.members states have in
    let at = part_at c.args.owners.now c.args.me c.args.trial.point c.args.trial.row states in
    gone (with_said c.args.trial.redo c.args.me at ports c.args.trial.h) (zip c.args.owners.now (standings run at)) (making_in c.args.notes.now)
    (making_in c.loop-instance.notes) c.loop-instance.instance
    (omega (
      arith,
      items_long run c.args.owners.now c.args.me c.args.trial.point c.args.trial.row states c.requires.owners long,
      c.loop-instance-test.false,
      c.instances-instance-end.ensures.count,
    )) (c.loop-instance.invariant.going ports fed)
