-- Opening a run at any position, which is given by its row, its point, and the words of its states one after the other.
use Rattle.std.specs.Prelude.{◌≡◌, ℕ, ℤ, List}
use Rattle.super_time.specs.declared.point.Point.{Point}
use Rattle.trace_core.specs.Runs.{RunState, IsOpened}
use Rattle.trace_plan.specs.Plans.{Planned}
use Rattle.unit_tree.specs.Compositions.{Composition}
use Rattle.unit_tree.specs.Parts.{joined}
use Rattle.unit_tree.specs.Successor.{Position}
use Rattle.unit_tree.specs.Trace.{HasWords, IsInBounds, IsInRows}

-- The position is that of the row, the point and the words, and a run may have it: it has a word for each state, each of its
-- type, and is within the stop and both budgets.
pub record FitsPosition (run : Composition) (row : ℕ) (point : Point) (words : List ℤ) (at : Position) : Type 0 where
  pub number : at.number ≡ row
  pub there : at.point ≡ point
  pub states : joined at.states ≡ words
  pub has_words : HasWords run at
  pub in_bounds : IsInBounds run at
  pub in_rows : IsInRows run at

-- There is no such position at which a run may be.
abbrev pub FitsNone : Composition → ℕ → Point → List ℤ → Type 0
FitsNone run row point words = (at : Position) → FitsPosition run row point words at → ⊥

-- The run was opened at the position of this row, this point and these words, and has made no step yet.
pub record IsOpenedAt (plan : Planned) (row : ℕ) (point : Point) (words : List ℤ) (r : RunState) : Type 0 where
  pub fits : FitsPosition plan.run row point words r.opened
  pub opened : IsOpened plan r.opened r

-- A row, a point and words give at most one position.
abbrev pub PositionsFitOnce : Type 0
PositionsFitOnce =
    (run : Composition) (row : ℕ) (point : Point) (words : List ℤ) (one other : Position) → FitsPosition run row point words one
    → FitsPosition run row point words other → one ≡ other
