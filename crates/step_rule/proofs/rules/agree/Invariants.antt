use Rattle.std.proofs.Common.{◌≡◌, drop, ℕ}
use Rattle.unit_tree.specs.Negotiation.{least_of, agreed_step}
use Rattle.step_rule.proofs.rules.agree.Given as goal

abbrev pub invariant-loop-reply : goal.invariant-loop-reply
invariant-loop-reply l = (h : ℕ) → agreed_step h l.replies ≡ least_of l.least (drop l.reply-index l.reply-items)
