-- Laws of the rest of a position: the stands that follow it until the run ends.
use Rattle.std.specs.Prelude.{◌≡◌, ℕ, List, ◌∷◌, ◌++◌, length}
use Rattle.unit_tree.specs.Compositions.{Composition, AreMembers}
use Rattle.unit_tree.specs.Ports.{IsPlaceOrder}
use Rattle.unit_tree.specs.Successor.{Position}
use Rattle.unit_tree.specs.Trace.{Stand, GoesOnFrom, IsTrace, Row, rows_of, last_point, IsRest, IsPositionOf, HasWords, IsInBounds}
use Rattle.unit_tree.specs.declared.ending.Ending.{Ending}
use Rattle.super_time.specs.declared.point.Point.{Point}

-- From each stand of a trace the later stands go on, and the number of its row is its place in the trace.
pub record IsTail (run : Composition) (before : List Stand) (here : Stand) (later : List Stand) (ending : Ending) : Type 0 where
  pub goes_on : GoesOnFrom run here.at (here ∷ later) ending
  pub number : here.at.number ≡ length before

abbrev pub TailsGoOn : Type 0
TailsGoOn = (run : Composition) (before : List Stand) (here : Stand) (later : List Stand) (ending : Ending) → IsTrace run (before ++ (here ∷ later)) ending
    → IsTail run before here later ending

-- A position with words, within the stop and the zero budget, has exactly one rest, if the places have an order.
pub record HasOneRest (run : Composition) (at : Position) : Type 0 where
  pub stands : List Stand
  pub ending : Ending
  pub goes_on : GoesOnFrom run at stands ending
  pub is_only : (other : List Stand) (end : Ending) → GoesOnFrom run at other end → (other ≡ stands) × (end ≡ ending)

abbrev pub PositionsHaveOneRest : Type 0
PositionsHaveOneRest = (run : Composition) (order : List ℕ) (at : Position) → AreMembers run → IsPlaceOrder run order → HasWords run at → IsInBounds run at
    → HasOneRest run at

-- A trace ends with the rest of each of its positions. Its rows are those of the stands before the position, followed
-- by the rows of the rest. Its last point and its ending are those of the rest.
pub record EndsWithRest (run : Composition) (before : List Stand) (stands : List Stand) (ending : Ending) (rows : List Row) (last : Point) (end : Ending)
    : Type 0 where
  pub rows_are : rows_of run stands ≡ rows_of run before ++ rows
  pub last_is : last_point stands ≡ last
  pub ending_is : ending ≡ end

abbrev pub RestsEndTraces : Type 0
RestsEndTraces =
    (run : Composition) (order : List ℕ) (number : ℕ) (at : Position) (rows : List Row) (last : Point) (end : Ending) → AreMembers run
    → IsPlaceOrder run order → (of : IsPositionOf run number at) → IsRest run at rows last end
    → EndsWithRest run of.before (of.before ++ (of.here ∷ of.later)) of.ending rows last end
