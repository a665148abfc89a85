-- Planned cells, and lines of them.
use Rattle.std.specs.Prelude.{◌≡◌, ◌≤◌, ⊤, ℕ, suc, ◌+◌, ◌^◌, ℤ, List, [], ◌∷◌, length}
use Rattle.std.specs.List.{AllByRecursion}
use Rattle.guess_board.specs.declared.cell.Cell.{Cell}
use Rattle.unit_exec.specs.Images.{Compiled}

-- The rows of a line rise, and are at least this row.
abbrev pub RisesFrom : ℕ → List Cell → Type 0
RisesFrom row [] = ⊤
RisesFrom row (cell ∷ cells) = (row ≤ cell.row) × RisesFrom (suc cell.row) cells

-- A cell has so many words of inputs, and its step ends within the range of times.
pub record FitsCell (inputs : ℕ) (cell : Cell) : Type 0 where
  pub each_input : length cell.inputs ≡ inputs
  pub in_time : cell.time + cell.step ≤ 10 ^ 15

-- A line may be planned for an image from a row and a state on: its rows rise, it has at most 16 cells, and there is one word
-- for each state and for each input.
pub record FitsLine (image : Compiled) (row : ℕ) (state : List ℤ) (line : List Cell) : Type 0 where
  pub each_state : length state ≡ image.program.sizes.states
  pub rises : RisesFrom row line
  pub few : length line ≤ 16
  pub cells : AllByRecursion (FitsCell image.program.sizes.inputs) line
