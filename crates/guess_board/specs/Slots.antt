-- How the code keeps the answers of a lane: a slot for each planned cell, under its row.
use Rattle.std.specs.Prelude.{◌≡◌, ℕ, List, [], ◌∷◌, map, Option, Some, None}
use Rattle.guess_board.specs.declared.cell.Cell.{Cell}
use Rattle.unit_answers.specs.Answers.{Answered}

-- The slots of a line: the first are filled with answers, in their order, and the others are empty.
abbrev pub entries_of : List Cell → List Answered → List (ℕ × Option Answered)
entries_of [] ones = []
entries_of (cell ∷ cells) [] = (cell.row, None) ∷ entries_of cells []
entries_of (cell ∷ cells) (one ∷ ones) = (cell.row, Some one) ∷ entries_of cells ones

-- The answers in slots, up to the first empty slot.
abbrev pub filled : List (Option Answered) → List Answered
filled [] = []
filled (None ∷ slots) = []
filled (Some one ∷ slots) = one ∷ filled slots

-- The contents of slots, without the rows.
abbrev pub slots_in : List (ℕ × Option Answered) → List (Option Answered)
slots_in entries = map (λ entry. entry.1) entries

-- Slots of which the first are overwritten.
abbrev pub fill_first : List (ℕ × Option Answered) → List (Option Answered) → List (ℕ × Option Answered)
fill_first [] slots = []
fill_first (entry ∷ entries) [] = entry ∷ entries
fill_first (entry ∷ entries) (slot ∷ slots) = (entry.0, slot) ∷ fill_first entries slots

-- The slots are those of the line, filled with their answers: no filled slot follows an empty one.
pub record AreSlotsOf (line : List Cell) (entries : List (ℕ × Option Answered)) : Type 0 where
  pub are : entries ≡ entries_of line (filled (slots_in entries))
