use Rattle.std.proofs.Common.{◌-◌, ◌+◌, sym, ◌∙◌, ap, drop}
use Rattle.unit_tree.specs.Negotiation.{least_of}
use Rattle.step_rule.proofs.AlongLaws.{least_at, least_next}
use Rattle.step_rule.proofs.rules.propose.Goals as goal

pub loop-limit-init : goal.loop-limit-init
loop-limit-init c =
    least_next (c.args.stop - c.args.t) c.args.longest c.args.limits.now
    ∙ ap (λ least. least_of least c.args.limits.now) (sym c.longest_step-least.ensures)

pub loop-limit-preserved : goal.loop-limit-preserved
loop-limit-preserved c =
    c.loop-limit.invariant
    ∙ least_at c.loop-limit.least c.loop-limit.limit-index c.args.limits.now c.loop-limit-test.true
    ∙ ap (λ least. least_of least (drop (c.loop-limit.limit-index + 1) c.args.limits.now)) (sym c.capped-least.ensures)
