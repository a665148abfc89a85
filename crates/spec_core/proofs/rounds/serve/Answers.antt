use Rattle.std.proofs.Common.{subst}
use Rattle.spec_core.proofs.ServeLaws.{serves_found, serves_made}
use Rattle.spec_core.proofs.rounds.serve.Goals as goal
use Rattle.trace_core.specs.Runs.{IsWanted}

pub returns-in_ok-happen-2 : goal.returns-in_ok-happen-2
returns-in_ok-happen-2 c =
    serves_made c.args.instance c.args.world.now c.happen.new.world c.happen-in-Missed.new.world c.args.replies.now c.happen.new.replies
    c.happen-in-Missed.new.replies c.in_ok-happen.field-0 c.in_ok-happen-2.field-0
    (subst (λ r. IsWanted r c.args.instance) c.run.ensures (c.is_wanted.ensures.0 c.if-not-is_wanted.false))
    c.in_ok-happen.ensures.happens c.in-Missed.is c.in_ok-happen.ensures.counted c.in_ok-happen-2.ensures.happens c.in_ok-happen-2.ensures.counted
    c.in_ok-happen-2.ensures.few

pub returns-in_default : goal.returns-in_default
returns-in_default c =
    serves_found c.args.instance c.args.world.now c.happen.new.world c.args.replies.now c.happen.new.replies c.in_ok-happen.field-0
    (subst (λ r. IsWanted r c.args.instance) c.run.ensures (c.is_wanted.ensures.0 c.if-not-is_wanted.false))
    c.in_ok-happen.ensures.happens c.in_default.not-Missed c.in_ok-happen.ensures.counted c.in_ok-happen.ensures.few
