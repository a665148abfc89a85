-- Laws of the answers.
use Rattle.std.specs.Prelude.{◌≡◌, ℕ, List}
use Rattle.cosim_call.specs.Answers.{Answer}
use Rattle.steps_command.specs.StepAnswers.{IsStepsAnswer}

-- For each list of words and each input there is an answer.
abbrev pub EveryCallIsAnswered : Type 0
EveryCallIsAnswered = (words : List (List ℕ)) (text : List ℕ) → (answer : Answer) × IsStepsAnswer words text answer

-- There is no other.
abbrev pub NoCallIsAnsweredTwice : Type 0
NoCallIsAnsweredTwice =
    (words : List (List ℕ)) (text : List ℕ) (one other : Answer) → IsStepsAnswer words text one → IsStepsAnswer words text other → one ≡ other
