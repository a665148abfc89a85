use Rattle.std.proofs.Common.{◌-◌, ◌+◌, sym, ◌∙◌, ap, drop, take, length}
use Rattle.unit_tree.specs.Negotiation.{least_of}
use Rattle.step_rule.proofs.AlongLaws.{least_at}
use Rattle.step_rule.proofs.rules.agree.Goals as goal

pub loop-reply-preserved : goal.loop-reply-preserved
loop-reply-preserved c h =
    let others = take (length c.args.replies.now - 1) (drop 1 c.args.replies.now) in
    c.loop-reply.invariant h
    ∙ least_at c.loop-reply.least c.loop-reply.reply-index others c.loop-reply-test.true
    ∙ ap (λ least. least_of least (drop (c.loop-reply.reply-index + 1) others)) (sym c.min-least.ensures)
