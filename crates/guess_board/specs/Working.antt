-- What answering a ticket leaves where memory is refused.
use Rattle.std.specs.Prelude.{◌≡◌, List, ◌++◌}
use Rattle.guess_board.specs.Chains.{Begins}
use Rattle.unit_answers.specs.Answers.{Answered}

-- A prefix of a list of answers was appended to others.
pub record AppendsPrefixOf (old all new : List Answered) : Type 0 where
  pub prefix : List Answered
  pub begins : Begins prefix all
  pub is : new ≡ old ++ prefix
