-- How answers are matched with planned cells, without the meaning of keys.
use Rattle.std.specs.Prelude.{ℕ, suc, ℤ, ◌==◌, Bool, ◌&&◌, List, [], ◌∷◌, Option, Some, None, nat_lt, if◌then◌else◌}
use Rattle.guess_board.specs.Chains.{Need, is_next, key_at, same_words, whole_state}
use Rattle.guess_board.specs.declared.cell.Cell.{Cell}
use Rattle.guess_board.specs.declared.needs.Needed.{Needed}
use Rattle.unit_answers.specs.Answers.{Answered}

-- The longest prefix of answers that has the rows and the keys of a line's chain. Each answer determines the state before the next.
abbrev pub matching : List ℤ → Option (List ℤ) → List Cell → List Answered → List Answered
matching code None line ones = []
matching code (Some state) [] ones = []
matching code (Some state) (cell ∷ cells) [] = []
matching code (Some state) (cell ∷ cells) (one ∷ ones) =
    if is_next cell.row (key_at code state cell) one then one ∷ matching code (whole_state one) cells ones else []

-- How many answers at the beginning have smaller rows.
abbrev pub below : ℕ → List Answered → ℕ
below row [] = 0
below row (one ∷ ones) = if nat_lt one.row row then suc (below row ones) else 0

-- The same for rows below the first planned one.
abbrev pub passed : List Cell → List Answered → ℕ
passed [] ones = 0
passed (first ∷ cells) ones = below first.row ones

-- The need of a lane, by the code of its image.
abbrev pub need_told : List ℤ → Needed → Need
need_told code needed = record { row = needed.cell.now.row; key = key_at code needed.state.now needed.cell.now }

-- Whether two cells are equal.
abbrev pub is_same_cell : Cell → Cell → Bool
is_same_cell one other =
    ((one.row == other.row) && ((one.time == other.time) && (one.step == other.step))) && same_words one.inputs other.inputs
