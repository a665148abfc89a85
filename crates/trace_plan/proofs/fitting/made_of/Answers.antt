use Rattle.std.proofs.Common.{◌≡◌, ◌∙◌, ◌<◌, length, sym, rules}
use Rattle.trace_plan.proofs.FittingLaws.{made_at}
use Rattle.trace_plan.proofs.fitting.made_of.Goals as goal

pub returns-then-same_words : goal.returns-then-same_words
returns-then-same_words c = λ checked are.
    let within : c.loop-one.one-index < length c.args.made.now = search rules in
    let same_unit : c.one-item.result.unit ≡ c.args.unit = search rules in
    let same_params : c.one-item.result.params.items ≡ c.args.params.now = sym c.deref.ensures.value ∙ c.same_words.ensures.0 c.if-same_words.true in
    made_at checked c.args.made.now c.loop-one.one-index c.args.unit c.args.params.now c.one-item.result within c.one-item.is same_unit same_params are
