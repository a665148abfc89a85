use Rattle.std.proofs.Common.{arith, subst, sym}
use Rattle.spec_core.specs.Rounds.{DoesAll, publishes}
use Rattle.spec_core.specs.declared.event.Event.TheVariants as event
use Rattle.spec_core.proofs.DoneLaws.{does_more, does_none, length-publishes, publishes_more}
use Rattle.spec_core.proofs.rounds.publish_all.Goals as goal

pub loop-instance-init : goal.loop-instance-init
loop-instance-init c = does_none c.args.world.now c.args.replies.now c.requires.few

pub happen-requires-clause-few : goal.happen-requires-clause-few
happen-requires-clause-few c = c.loop-instance.invariant.few

pub happen-requires-clause-room : goal.happen-requires-clause-room
happen-requires-clause-room c =
    let number = c.loop-instance.invariant.number in
    let long = length-publishes c.loop-instance.instance in
    let room = c.requires.room in
    omega (arith, number, long, room)

pub loop-instance-preserved : goal.loop-instance-preserved
loop-instance-preserved c =
    subst (λ events. DoesAll events c.args.world.now c.args.replies.now c.happen.new.world c.happen.new.replies) (sym (publishes_more c.loop-instance.instance))
    (does_more (publishes c.loop-instance.instance) (event.Publish c.loop-instance.instance) c.in_ok-happen.field-0 c.args.world.now c.loop-instance.world
    c.happen.new.world c.args.replies.now c.loop-instance.replies c.happen.new.replies c.loop-instance.invariant c.in_ok-happen.ensures.happens
    c.in_ok-happen.ensures.counted c.in_ok-happen.ensures.few)
