-- The rule of a cell: how its contents relate to the views of its writer and its readers.
use Rattle.std.specs.Prelude.{◌≡◌, ℕ, List, ◌∷◌, All}
use Rattle.front_cell.specs.Front.{IsBehind}
use Rattle.front_cell.specs.declared.front.Front.{Front}
use Rattle.front_cell.specs.declared.view.View.{View}
use Rattle.front_cell.specs.declared.view.View.TheVariants.{Wrote, Saw, Spent}

-- It is a reader's view, which is not newer than the cell, or that of a spent end, for which nothing is required.
abbrev pub Follows : Front → View → Type 0
Follows cell (Wrote front stores joined) = ⊥
Follows cell (Saw seen loads) = IsBehind seen cell
Follows cell Spent = Unit {0}

-- The cell has what its one writer stored last, and all other views follow it.
pub record IsInStep (cell : Front) (views : List View) : Type 0 where
  pub stores : ℕ
  pub joined : ℕ
  pub others : List View
  pub writer : views ≡ Wrote cell stores joined ∷ others
  pub readers : All (Follows cell) others
