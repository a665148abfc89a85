use Rattle.std.proofs.Common.{◌∙◌, ap, sym}
use Rattle.trace_core.proofs.StateWordLaws.{is_last, some_missing, states_of_plan}
use Rattle.trace_core.specs.StateWords.{states_in, words_behind}
use Rattle.trace_core.proofs.opening_at.are_state_words.Goals as goal

pub returns-in-Some : goal.returns-in-Some
returns-in-Some c =
    let of_plan =
    states_of_plan c.args.plan.now c.checked.result.now c.system.result.now c.checked.ensures.run c.checked.ensures.system c.system.ensures.plain in
    is_last (states_in c.args.plan.now.run.members) c.args.words.now c.in-Some.rest.now c.is_empty.result
    (ap (λ states. words_behind states c.args.words.now) of_plan ∙ sym c.in-Some.ensures) c.is_empty.ensures

pub returns-in-None : goal.returns-in-None
returns-in-None c =
    let of_plan =
    states_of_plan c.args.plan.now c.checked.result.now c.system.result.now c.checked.ensures.run c.checked.ensures.system c.system.ensures.plain in (
      λ so. absurd (cc),
      λ each.
          absurd
          (some_missing (states_in c.args.plan.now.run.members) c.args.words.now
          (ap (λ states. words_behind states c.args.words.now) of_plan ∙ sym c.in-None.ensures) each),
    )
