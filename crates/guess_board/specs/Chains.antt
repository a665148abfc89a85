-- Chains of answers: the answers that a state and a line of planned cells determine, and which of them are still needed.
use Rattle.std.specs.Prelude.{◌≡◌, ℕ, ◌==◌, ℤ, List, [], ◌∷◌, ◌++◌, Bool, false, ◌&&◌, length, take, drop, if◌then◌else◌}
use Rattle.std.specs.Prelude.{nat_le, Option, Some, None, Result, Ok, Err}
use Rattle.std.specs.Cmp.Lexicographic.{pointwise}
use Rattle.std.specs.List.{filter}
use Rattle.std.specs.Option.{option_map}
use Rattle.std.specs.Ordering.{int_eq}
use Rattle.fixed_words.specs.declared.types.Fault.{Fault}
use Rattle.guess_board.specs.declared.cell.Cell.{Cell}
use Rattle.unit_answers.specs.Answers.{Answered}
use Rattle.unit_answers.specs.Keys.{StepKey, meaning}
use Rattle.unit_exec.specs.Images.{Compiled}
use Rattle.unit_tree.specs.Components.{Moved}
use Rattle.unit_vm.specs.Programs.{program_words}

-- ---- Keys

-- The code of an image, as keys have it.
unfoldable pub code_of : Compiled → List ℤ
code_of image = program_words image.program

-- The key of the step at a cell, from the state before it.
abbrev pub key_at : List ℤ → List ℤ → Cell → StepKey
key_at code state cell = record { code = code; state = state; inputs = cell.inputs; time = cell.time; step = cell.step }

-- Whether two keys are equal.
abbrev pub same_words : List ℤ → List ℤ → Bool
same_words = pointwise int_eq

abbrev pub is_same_key : StepKey → StepKey → Bool
is_same_key one other =
    (one.time == other.time) && ((one.step == other.step)
    && (same_words one.state other.state && (same_words one.inputs other.inputs && same_words one.code other.code)))

-- ---- Chains

-- The state after an answer that accepted its whole step.
abbrev pub state_of_whole : ℕ → Result Moved Fault → Option (List ℤ)
state_of_whole step (Ok moved) = if moved.accepted == step then Some moved.state else None
state_of_whole step (Err fault) = None

abbrev pub whole_state : Answered → Option (List ℤ)
whole_state one = state_of_whole one.key.step one.answer

-- An answer, where there is one, and then what follows from the state after its whole step.
abbrev pub followed_by : Option Answered → (Option (List ℤ) → List Answered) → List Answered
followed_by None others = []
followed_by (Some one) others = one ∷ others (whole_state one)

-- The answer with a row, a key and a result.
abbrev pub answer_at : ℕ → StepKey → Result Moved Fault → Answered
answer_at row key answer = record { row = row; key = key; answer = answer }

module _ (meaning : StepKey → Option (Result Moved Fault)) where
  -- The answer at a cell from a state, by the meaning of its key.
  abbrev pub link : List ℤ → List ℤ → Cell → Option Answered
  link code state cell = option_map (answer_at cell.row (key_at code state cell)) (meaning (key_at code state cell))

  -- The chain of a line: the answer at the first cell from the state, and then the chain of the other cells from the state after its
  -- whole step. Where there is no such state, the chain ends.
  abbrev pub chain : List ℤ → Option (List ℤ) → List Cell → List Answered
  chain code state [] = []
  chain code None (cell ∷ cells) = []
  chain code (Some state) (cell ∷ cells) = followed_by (link code state cell) (λ after. chain code after cells)

-- The chain by the meanings of keys.
unfoldable pub chain_of : List ℤ → List ℤ → List Cell → List Answered
chain_of code state line = chain meaning code (Some state) line

-- Answers are a prefix of a list of others.
abbrev pub Begins : List Answered → List Answered → Type 0
Begins ones all = take (length ones) all ≡ ones

-- ---- The next needed step

-- The row and the key of a needed step.
pub record Need : Type 0 where
  pub row : ℕ
  pub key : StepKey

-- The state before the next cell: there is one where all answers accepted their whole steps.
abbrev pub ahead : Option (List ℤ) → List Answered → Option (List ℤ)
ahead None ones = None
ahead (Some state) [] = Some state
ahead (Some state) (one ∷ ones) = ahead (whole_state one) ones

abbrev pub need_at : List ℤ → Option (List ℤ) → List Cell → Option Need
need_at code (Some state) (cell ∷ cells) = Some (record { row = cell.row; key = key_at code state cell })
need_at code _ _ = None

-- The next needed step: that of the first planned cell without an answer, from the state before it.
abbrev pub need_of : List ℤ → List ℤ → List Cell → List Answered → Option Need
need_of code state line answers = need_at code (ahead (Some state) answers) (drop (length answers) line)

abbrev pub is_same_need : Need → Need → Bool
is_same_need one other = (one.row == other.row) && is_same_key one.key other.key

-- ---- Which answers are kept, and which are appended

-- Whether an answer has this row and this key.
abbrev pub is_next : ℕ → StepKey → Answered → Bool
is_next row key one = (row == one.row) && is_same_key key one.key

-- The longest prefix of some answers that has the rows and the keys of others, in sequence.
abbrev pub common : List Answered → List Answered → List Answered
common [] others = []
common (one ∷ ones) [] = []
common (one ∷ ones) (other ∷ others) = if is_next other.row other.key one then one ∷ common ones others else []

-- The answers at or above the first planned row.
abbrev pub left_of : List Cell → List Answered → List Answered
left_of [] ones = []
left_of (first ∷ cells) ones = filter (λ one. nat_le first.row one.row) ones

abbrev pub asks_for : Option Need → Answered → Bool
asks_for None one = false
asks_for (Some need) one = is_next need.row need.key one

-- The answers with one more at the end, where it answers the next needed step.
abbrev pub with_next : List ℤ → List ℤ → List Cell → List Answered → Answered → List Answered
with_next code state line answers one = if asks_for (need_of code state line answers) one then answers ++ one ∷ [] else answers

-- The same of several answers, one after the other.
abbrev pub with_posted : List ℤ → List ℤ → List Cell → List Answered → List Answered → List Answered
with_posted code state line answers [] = answers
with_posted code state line answers (one ∷ ones) = with_posted code state line (with_next code state line answers one) ones
