use Rattle.std.proofs.Common.{◌≡◌, true, false}
use Rattle.step_rule.specs.Steps.{is_made}
use Rattle.step_rule.proofs.AlongLaws.{all_fails, all_next}
use Rattle.step_rule.proofs.steps.are_made.Goals as goal

pub returns-then-not-is_made : goal.returns-then-not-is_made
returns-then-not-is_made g c =
    let steps = g.S.Steps.steps c.args.steps.now in
    let fails : is_made c.step.result ≡ false = cc (c.is_made.ensures, c.if-not-is_made.true) in
    all_fails is_made steps c.loop-instance.instance c.step.result c.step.ensures.step fails c.loop-instance.invariant

pub loop-instance-preserved : goal.loop-instance-preserved
loop-instance-preserved g c =
    let steps = g.S.Steps.steps c.args.steps.now in
    let holds : is_made c.step.result ≡ true = cc (c.is_made.ensures, c.if-not-is_made.false) in
    all_next is_made steps c.loop-instance.instance c.step.result c.step.ensures.step holds c.loop-instance.invariant
