use Rattle.std.proofs.Common.{◌≡◌, ◌+◌, length, subst, sym, arith}
use Rattle.trace_core.proofs.OpeningLaws.{SeatedSoFar, none_seated, one_seated, all_seated}
use Rattle.trace_core.proofs.opening.seats_of.Goals as goal

pub loop-instance-init : goal.loop-instance-init
loop-instance-init c = none_seated c.args.snaps.now c.new-seats.result.items c.args.units.now c.new-seats.ensures.items

pub loop-instance-preserved : goal.loop-instance-preserved
loop-instance-preserved c =
    subst (λ seats. SeatedSoFar c.save.new.self seats c.args.units.now (c.loop-instance.instance + 1)) (sym c.in_ok-push.ensures.items)
    (one_seated c.loop-instance.snaps c.save.new.self c.loop-instance.seats.items _ c.args.units.now c.loop-instance.instance c.state.result.now
    c.inputs.result.now c.state.ensures c.inputs.ensures c.in_ok-id.ensures.new_id c.in_ok-id.ensures.saved c.in_ok-id.ensures.others
    c.in_ok-before.ensures.items c.loop-instance.invariant)

pub returns : goal.returns
returns c =
    let count : c.loop-instance.instance ≡ length c.args.units.now.plan.run.members =
    omega (arith, c.loop-instance-test.false, c.loop-instance.auto.instance-end, c.count-instance-end.ensures.count) in
    all_seated c.loop-instance.snaps c.loop-instance.seats.items c.args.units.now c.loop-instance.instance count c.count-instance-end.ensures.states
    c.count-instance-end.ensures.inputs c.loop-instance.invariant
