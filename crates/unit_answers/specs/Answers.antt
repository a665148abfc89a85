-- Answers, and when one is proven.
use Rattle.std.specs.Prelude.{◌≡◌, ℕ, length, Some, Result, Ok, Err, IfOk}
use Rattle.fixed_words.specs.declared.types.Fault.{Fault}
use Rattle.unit_answers.specs.Keys.{StepKey, FitsCode, meaning}
use Rattle.unit_answers.specs.declared.answer.Answer.{Answer}
use Rattle.unit_answers.specs.declared.answer.Answer.TheVariants as answer
use Rattle.unit_tree.specs.Components.{Moved}

-- The result of a step, from its answer.
abbrev pub step_told : Answer → Result Moved Fault
step_told (answer.Moved state accepted) = Ok (record { state = state; accepted = accepted })
step_told (answer.Failed fault) = Err fault

-- What contracts see of an answer with its key: the row for which it was made, the key, and the result of the step.
pub record Answered : Type 0 where
  pub row : ℕ
  pub key : StepKey
  pub answer : Result Moved Fault

-- The answer is the meaning of its key, which fits its code. The row doesn't matter. The new state has as many words as the
-- one before: this follows from the first, and is kept with it.
pub record IsProven (one : Answered) : Type 0 where
  pub fits : FitsCode one.key
  pub is_meaning : meaning one.key ≡ Some one.answer
  pub each_state : IfOk one.answer (λ moved. length moved.state ≡ length one.key.state)
