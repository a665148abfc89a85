use Rattle.std.proofs.Common.{◌≡◌, ◌≤◌, subst, rules}
use Rattle.super_time.specs.LocalTime.{limit_of}
use Rattle.super_time.proofs.LimitLaws.{limit_is_at_most}
use Rattle.step_rule.proofs.rules.reply.Goals as goal

pub returns-clause-at_most : goal.returns-clause-at_most
returns-clause-at_most c =
    let same : limit_of c.args.factor c.args.t c.args.accepted ≡ c.limit.result = search rules in
    subst (λ ticks. ticks ≤ c.args.h) same (limit_is_at_most c.args.factor c.args.t c.args.accepted c.args.h c.requires.factor c.requires.accepted)
