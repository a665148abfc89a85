-- Inputs of a command that reads more than one text of the language, up to a limit of its own.
use Rattle.std.specs.Prelude.{◌≡◌, ◌⊎◌, ℕ, ◌<◌, ◌≤◌, List, length}
use Rattle.cosim_call.specs.Answers.{Answer}

-- The input is too long: rule 2, at line 1.
pub record IsLongerThan (limit : ℕ) (text : List ℕ) (line rule : ℕ) : Type 0 where
  pub long : limit < length text
  pub at : line ≡ 1
  pub by : rule ≡ 2

-- It is short enough, and refused by this line and rule.
pub record IsRefusedShort (limit : ℕ) (Refuses : List ℕ → ℕ → ℕ → Type 0) (text : List ℕ) (line rule : ℕ) : Type 0 where
  pub within : length text ≤ limit
  pub refused : Refuses text line rule

-- The lines and rules by which such a command refuses its input.
abbrev pub RefusesWithin : ℕ → (List ℕ → ℕ → ℕ → Type 0) → List ℕ → ℕ → ℕ → Type 0
RefusesWithin limit Refuses text line rule = IsLongerThan limit text line rule ⊎ IsRefusedShort limit Refuses text line rule

-- This is an answer for an input that is short enough.
pub record AnswersWithin (limit : ℕ) (Serves : List ℕ → Answer → Type 0) (text : List ℕ) (answer : Answer) : Type 0 where
  pub within : length text ≤ limit
  pub serves : Serves text answer
