use Rattle.std.proofs.Common.{◌≡◌, ◌∙◌, ◌+◌, false, is_some, sym, ap, subst, arith}
use Rattle.step_rule.specs.Steps.{ends_trial}
use Rattle.step_rule.proofs.StepLaws.{ReadSoFar, all_read, asked_at, fault_here, read_next}
use Rattle.step_rule.proofs.steps.read_trial.Goals as goal

pub returns-in-Some : goal.returns-in-Some
returns-in-Some g c =
    let steps = g.S.Steps.steps c.args.steps.now in
    fault_here c.args.t c.args.h steps c.loop-instance.instance c.loop-instance.least c.step-step.result c.in-Some.ending c.step-step.ensures.step
    (cc (c.trial_end.ensures, c.in-Some.is)) c.loop-instance.invariant

pub lesser_reply-least-requires : goal.lesser_reply-least-requires
lesser_reply-least-requires g c = record {
  factor = c.step-step.ensures.factor;
  coarsest = c.step-step.ensures.coarsest;
  asked = asked_at c.args.t c.args.h (g.S.Steps.steps c.args.steps.now) c.loop-instance.instance c.step-step.result c.requires.asked c.step-step.ensures.step;
  at_most = c.loop-instance.invariant.at_most;
  end = c.requires.end;
}

pub loop-instance-preserved : goal.loop-instance-preserved
loop-instance-preserved g c =
    let steps = g.S.Steps.steps c.args.steps.now in
    let none : is_some (ends_trial (c.loop-instance.instance, c.step-step.result)) ≡ false = ap is_some (sym c.trial_end.ensures ∙ c.in_default.is) in
    subst (ReadSoFar c.args.t c.args.h steps (c.loop-instance.instance + 1)) (sym c.lesser_reply-least.ensures)
    (read_next c.args.t c.args.h steps c.loop-instance.instance c.loop-instance.least c.step-step.result c.step-step.ensures.step none c.loop-instance.invariant)

pub returns : goal.returns
returns g c =
    let steps = g.S.Steps.steps c.args.steps.now in
    all_read c.args.t c.args.h steps c.loop-instance.instance c.loop-instance.least
    (omega (arith, c.count-instance-end.ensures, c.loop-instance-test.false)) c.loop-instance.invariant
