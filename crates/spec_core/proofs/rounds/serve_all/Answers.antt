use Rattle.std.proofs.Common.{arith}
use Rattle.spec_core.proofs.DoneLaws.{served_next, served_none}
use Rattle.spec_core.proofs.rounds.serve_all.Goals as goal

pub loop-instance-init : goal.loop-instance-init
loop-instance-init c = served_none c.args.world.now c.args.replies.now c.requires.few

pub serve-requires-clause-few : goal.serve-requires-clause-few
serve-requires-clause-few c = c.loop-instance.invariant.few

pub serve-requires-clause-room : goal.serve-requires-clause-room
serve-requires-clause-room c =
    let most = c.loop-instance.invariant.most in
    let room = c.requires.room in
    omega (arith, most, room)

pub loop-instance-preserved : goal.loop-instance-preserved
loop-instance-preserved c =
    served_next c.loop-instance.instance c.args.world.now c.loop-instance.world c.serve.new.world c.args.replies.now c.loop-instance.replies
    c.serve.new.replies c.loop-instance.invariant c.in_ok-serve.ensures
