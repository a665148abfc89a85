use Rattle.std.proofs.Common.{◌≡◌, ◌∙◌, true, false, is_some, arith}
use Rattle.step_rule.specs.Steps.{ends_redo}
use Rattle.step_rule.proofs.StepLaws.{end_here, end_next, end_none}
use Rattle.step_rule.proofs.steps.read_redo.Goals as goal

pub returns-then-is_some : goal.returns-then-is_some
returns-then-is_some g c =
    let steps = g.S.Steps.steps c.args.steps.now in
    let some : is_some (ends_redo (c.loop-instance.instance, c.step.result)) ≡ true = cc (c.redo_end-end.ensures, c.is_some.ensures, c.if-is_some.true) in
    c.redo_end-end.ensures ∙ end_here ends_redo steps c.loop-instance.instance c.step.result c.step.ensures.step some c.loop-instance.invariant

pub loop-instance-preserved : goal.loop-instance-preserved
loop-instance-preserved g c =
    let steps = g.S.Steps.steps c.args.steps.now in
    let none : is_some (ends_redo (c.loop-instance.instance, c.step.result)) ≡ false = cc (c.redo_end-end.ensures, c.is_some.ensures, c.if-is_some.false) in
    end_next ends_redo steps c.loop-instance.instance c.step.result c.step.ensures.step none c.loop-instance.invariant

pub returns : goal.returns
returns g c =
    let steps = g.S.Steps.steps c.args.steps.now in
    end_none ends_redo steps c.loop-instance.instance (omega (arith, c.count-instance-end.ensures, c.loop-instance-test.false)) c.loop-instance.invariant
