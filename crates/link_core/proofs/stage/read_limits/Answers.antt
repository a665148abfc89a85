use Rattle.std.proofs.Common.{◌≡◌, ◌∙◌, ◌<◌, ◌-◌, Ok, Err, length, min, zip, ap, ap₂, sym, arith, rules}
use Rattle.std.specs.List.{filter_map}
use Rattle.link_laws.specs.Stages.{limit_in}
use Rattle.link_core.proofs.StageBodies.{all_limited, limited_ends, none_limited, one_limited}
use Rattle.link_core.proofs.stage.read_limits.Goals as goal
use Rattle.step_rule.specs.Limits.{limited}
use Rattle.unit_tree.specs.Negotiation.{proposal_of}

pub loop-instance-init : goal.loop-instance-init
loop-instance-init c =
    none_limited c.args.plan.now.run c.args.limits.now c.args.t c.longest_step-least.result
    (c.longest_step-least.ensures ∙ ap₂ (λ stop longest. min (stop - c.args.t) longest) c.stop.ensures.value c.longest.ensures.value)

pub loop-instance-preserved : goal.loop-instance-preserved
loop-instance-preserved c =
    let run = c.args.plan.now.run in
    let within : c.loop-instance.instance < length run.members = omega (arith, c.loop-instance-test.true, c.instances-instance-end.ensures.count) in
    let goes : c.limited.result ≡ Ok c.in_ok-least.least = search rules in
    one_limited run c.args.limits.now c.args.t c.loop-instance.instance c.loop-instance.least c.factor.result _ c.requires.limits within
    c.factor.ensures.factor c.loop-instance.invariant c.in_ok-least.least
    (ap (limited c.loop-instance.least c.loop-instance.instance c.factor.result c.args.t) (sym c.max_by-told.ensures) ∙ sym c.limited.ensures ∙ goes)

pub returns-in_err-least-clause-read : goal.returns-in_err-least-clause-read
returns-in_err-least-clause-read c =
    let run = c.args.plan.now.run in
    let within : c.loop-instance.instance < length run.members = omega (arith, c.loop-instance-test.true, c.instances-instance-end.ensures.count) in
    let ends : c.limited.result ≡ Err c.in_err-least.field-0.0 = search rules in
    let is : c.from_residual.result ≡ Err c.in_err-least.field-0.0 = search rules in
    is
    ∙ limited_ends run c.args.limits.now c.args.t c.loop-instance.instance c.loop-instance.least c.factor.result _ c.requires.limits within
    c.factor.ensures.factor c.loop-instance.invariant
    (proposal_of run.stop run.longest c.args.t (filter_map (limit_in c.args.t) (zip run.members c.args.limits.now))) c.in_err-least.field-0.0
    (ap (limited c.loop-instance.least c.loop-instance.instance c.factor.result c.args.t) (sym c.max_by-told.ensures) ∙ sym c.limited.ensures ∙ ends)

pub returns-clause-read : goal.returns-clause-read
returns-clause-read c =
    let run = c.args.plan.now.run in
    all_limited run c.args.limits.now c.args.t c.loop-instance.instance c.loop-instance.least c.requires.limits
    (omega (arith, c.loop-instance-test.false, c.instances-instance-end.ensures.count)) c.loop-instance.invariant
