use Rattle.std.proofs.Common.{◌∙◌, ◌<◌, length, zip, ap, subst, arith}
use Rattle.std.proofs.lemmas.Slice.Zip.{AllZip-long}
use Rattle.link_laws.specs.Making.{with_limit}
use Rattle.link_core.specs.Noted.{making_in, part_at}
use Rattle.link_core.proofs.PassBodies.{gone}
use Rattle.link_core.proofs.StepBodies.{items_long, limit_step}
use Rattle.link_core.proofs.steps.make_limits.Goals as goal
use Rattle.port_solve.specs.Solved.{HaveStates}
use Rattle.trace_plan.specs.Plans.{Planned}
use Rattle.trace_units.specs.Fleets.{Fleet}
use Rattle.unit_tree.specs.Successor.{standings}

pub loop-instance-preserved : goal.loop-instance-preserved
loop-instance-preserved c =
    let run = c.args.plan.now.run in
    let states = c.args.units.now.states in
    let have = subst (λ (plan : Planned). HaveStates plan.run states) c.requires.tied c.count.ensures.states in
    let long = AllZip-long _ run.members states have in
    let within : c.loop-instance.instance < length run.members = omega (arith, c.loop-instance-test.true, c.instances-instance-end.ensures.count) in
    record {
      going = λ ports fed.
          limit_step run c.args.owners.now c.args.me states c.loop-instance.units.states c.requires.owners long
          (ap (λ (f : Fleet). f.states) c.loop-instance.invariant.kept) c.loop-instance.instance within _ c.args.point c.args.row ports
          (making_in c.args.notes.now) (making_in c.loop-instance.notes) (making_in c.make_limit.new.notes)
          (λ member state. c.make_limit.ensures.made ports member state (ap (λ (f : Fleet). f.inputs) c.loop-instance.invariant.kept ∙ fed))
          (c.loop-instance.invariant.going ports fed);
      notes = c.make_limit.ensures.notes;
      room = c.make_limit.ensures.room;
      kept = c.make_limit.ensures.kept ∙ c.loop-instance.invariant.kept;
    }

pub returns-clause-made : goal.returns-clause-made
returns-clause-made c = λ ports fed.
    let run = c.args.plan.now.run in
    let states = c.args.units.now.states in
    let have = subst (λ (plan : Planned). HaveStates plan.run states) c.requires.tied c.count.ensures.states in
    let long = AllZip-long _ run.members states have in
    let at = part_at c.args.owners.now c.args.me c.args.point c.args.row states in
    gone (with_limit c.args.me at ports) (zip c.args.owners.now (standings run at)) (making_in c.args.notes.now)
    (making_in c.loop-instance.notes) c.loop-instance.instance
    (omega (
      arith,
      items_long run c.args.owners.now c.args.me c.args.point c.args.row states c.requires.owners long,
      c.loop-instance-test.false,
      c.instances-instance-end.ensures.count,
    )) (c.loop-instance.invariant.going ports fed)
