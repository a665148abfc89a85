-- Positions in the trace of a system as it is written, and the rest of the trace from a position on.
use Rattle.std.specs.Prelude.{◌≡◌, ◌↔◌, ℕ, List, [], ◌∷◌, ◌++◌, length, map, take}
use Rattle.std.specs.List.{AllByRecursion}
use Rattle.super_time.specs.declared.point.Point.{Point}
use Rattle.unit_tree.specs.Compositions.{run_of}
use Rattle.unit_tree.specs.Orders.{HasNoCycle}
use Rattle.unit_tree.specs.Printable.{IsRanged}
use Rattle.unit_tree.specs.Successor.{Position}
use Rattle.unit_tree.specs.Trace.{HasWords, IsPositionOf, IsRest, IsTrace, Row, Stand, rows_of}
use Rattle.unit_tree.specs.WellFormed.{IsWellFormed}
use Rattle.unit_tree.specs.declared.ending.Ending.{Ending}
use Rattle.unit_tree.specs.declared.system.System.{System}
use Rattle.event_runs.specs.EventRuns.{event_members_of, event_run_of, last_event_point}
use Rattle.event_runs.specs.EventTrace.{EventFollows, EventRow, EventRun, EventStand, IsEventStand, IsEventTrace, event_rows_of}
use Rattle.event_runs.specs.Readings.{HasShape, read_end, read_rows, read_stand, system_shape}

-- The stands go on from the position, the first of them at it, until the run ends with the ending.
abbrev pub EventGoesOnFrom : EventRun → Position → List EventStand → Ending → Type 0
EventGoesOnFrom run at [] ending = ⊥
EventGoesOnFrom run at (first ∷ others) ending = (first.at ≡ at) × IsEventStand run first × EventFollows run first others ending

-- The rest of a position: the rows from there, the point at which the run ends, and how it ends.
pub record IsEventRest (system : System) (at : Position) (rows : List EventRow) (last : Point) (ending : Ending) : Type 0 where
  pub stands : List EventStand
  pub goes_on : EventGoesOnFrom (event_run_of system) at stands ending
  pub rows_are : rows ≡ event_rows_of (event_run_of system) stands
  pub last_is : last ≡ last_event_point stands

-- The position of a number in the trace of a system: that of the stand at this place.
pub record IsEventPositionOf (system : System) (number : ℕ) (at : Position) : Type 0 where
  pub before : List EventStand
  pub here : EventStand
  pub later : List EventStand
  pub ending : Ending
  pub trace : IsEventTrace (event_run_of system) (before ++ (here ∷ later)) ending
  pub place : number ≡ length before
  pub is : at ≡ here.at

-- ---- Laws

-- The positions of a system are those of its plain form.
abbrev pub PositionsAreRead : Type 0
PositionsAreRead =
    (system : System) → IsRanged system → IsWellFormed system → HasNoCycle system
    → (number : ℕ) (at : Position) → IsPositionOf (run_of system) number at ↔ IsEventPositionOf system number at

-- The rest of a position of the plain form, read as signals, is the rest of the position of the system.
abbrev pub RestsAreRead : Type 0
RestsAreRead =
    (system : System) → IsRanged system → IsWellFormed system → HasNoCycle system
    → (at : Position) (rows : List Row) (last : Point) (ending : Ending) → HasWords (run_of system) at → IsRest (run_of system) at rows last ending
    → IsEventRest system at (read_rows system rows) last (read_end system ending)

-- The system has no other rest of the position.
abbrev pub RestsAreOnce : Type 0
RestsAreOnce =
    (system : System) → IsRanged system → IsWellFormed system → HasNoCycle system
    → (at : Position) (rows : List Row) (last : Point) (ending : Ending) → HasWords (run_of system) at → IsRest (run_of system) at rows last ending
    → (others : List EventRow) (point : Point) (end : Ending) → IsEventRest system at others point end
    → (others ≡ read_rows system rows) × (point ≡ last) × (end ≡ read_end system ending)

-- Each row of the rest has one word for each plain output, and for each event output 1 and its word, or 0 and 0.
abbrev pub RestsHaveShape : Type 0
RestsHaveShape =
    (system : System) → IsRanged system → IsWellFormed system → HasNoCycle system
    → (at : Position) (rows : List Row) (last : Point) (ending : Ending) → HasWords (run_of system) at → IsRest (run_of system) at rows last ending
    → AllByRecursion (λ row. HasShape (system_shape system) row.words) rows

-- The trace of the plain form, read as signals, is the trace of the system, stand by stand. So are the rows of its first stands.
pub record IsReadFrom (system : System) (stands : List Stand) (ending : Ending) : Type 0 where
  pub trace : IsEventTrace (event_run_of system) (map (read_stand (event_members_of system)) stands) (read_end system ending)
  pub is_only : (others : List EventStand) (end : Ending) → IsEventTrace (event_run_of system) others end
      → (others ≡ map (read_stand (event_members_of system)) stands) × (end ≡ read_end system ending)
  pub rows : (count : ℕ) → event_rows_of (event_run_of system) (map (read_stand (event_members_of system)) (take count stands))
      ≡ read_rows system (rows_of (run_of system) (take count stands))
  pub shape : (count : ℕ) → AllByRecursion (λ row. HasShape (system_shape system) row.words) (rows_of (run_of system) (take count stands))

abbrev pub StandsAreRead : Type 0
StandsAreRead =
    (system : System) → IsRanged system → IsWellFormed system → HasNoCycle system
    → (stands : List Stand) (ending : Ending) → IsTrace (run_of system) stands ending → IsReadFrom system stands ending
