use Rattle.std.proofs.Common.{refl, arith}
use Rattle.spec_core.proofs.ActLaws.{all_full, never, none_below, none_more, not_full}
use Rattle.spec_core.proofs.world.are_steps_there.Goals as goal

pub loop-instance-init : goal.loop-instance-init
loop-instance-init c = none_below c.args.run.now

pub returns-then-is_wanted : goal.returns-then-is_wanted
returns-then-is_wanted c =
    ((λ is. absurd (never is)), (λ full. absurd (not_full c.args.run.now c.loop-instance.instance (c.is_wanted.ensures.0 c.if-is_wanted.true) full)))

pub loop-instance-preserved : goal.loop-instance-preserved
loop-instance-preserved c =
    none_more c.args.run.now c.loop-instance.instance c.loop-instance.invariant (λ wanted. never (c.if-is_wanted.ensures.1 wanted))

pub returns : goal.returns
returns c =
    ((λ _. all_full c.args.run.now c.loop-instance.instance c.loop-instance.invariant (omega (arith, c.requires, c.loop-instance-test.false))), (λ _. refl))
