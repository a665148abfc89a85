-- The trace of a system: the one list of positions from the start, each the successor of the one before.
use Rattle.std.specs.Prelude.{◌≡◌, ℕ, zero, suc, ◌<◌, ◌≤◌, ◌+◌, true, ◌&&◌, is_some, is_none, ℤ, List, [], ◌∷◌, ◌++◌, length, if◌then◌else◌, Option, Some, None}
use Rattle.std.specs.Prelude.{Result}
use Rattle.std.specs.List.{AllZip, count_by, filter_map, sum_by}
use Rattle.fixed_words.specs.Types.{is_word_of}
use Rattle.fixed_words.specs.declared.types.Fault.{Fault}
use Rattle.super_time.specs.declared.point.Point.{Point}
use Rattle.unit_tree.specs.Components.{Moved}
use Rattle.unit_tree.specs.Compositions.{Composition, run_of}
use Rattle.unit_tree.specs.Ports.{Ports, IsAssignment, first_some, port_fault}
use Rattle.unit_tree.specs.Successor.{Position, goes, ends, first_position, agreed, is_redone, trial, steps_by, stop_end, row_end, max_end, trial_end}
use Rattle.unit_tree.specs.Successor.{successor}
use Rattle.unit_tree.specs.declared.ending.Ending.{Ending}
use Rattle.unit_tree.specs.declared.system.System.{System}
use Rattle.unit_tree.specs.declared.unit.State.{State}

-- A position with its ports.
pub record Stand : Type 0 where
  pub at : Position
  pub ports : Ports

-- The ports are the port assignment for the states.
abbrev pub IsStand : Composition → Stand → Type 0
IsStand run stand = IsAssignment run stand.at.states stand.ports

-- The second stand is at the successor of the first.
abbrev pub Goes : Composition → Stand → Stand → Type 0
Goes run one next = (successor run one.at one.ports ≡ goes next.at) × IsStand run next

-- The later stands follow a stand, each at the successor of the one before, until the run ends with the ending.
abbrev pub Follows : Composition → Stand → List Stand → Ending → Type 0
Follows run one [] ending = successor run one.at one.ports ≡ ends ending
Follows run one (next ∷ others) ending = Goes run one next × Follows run next others ending

-- The stands go on from the position, the first of them at it, until the run ends with the ending.
abbrev pub GoesOnFrom : Composition → Position → List Stand → Ending → Type 0
GoesOnFrom run at [] ending = ⊥
GoesOnFrom run at (first ∷ others) ending = (first.at ≡ at) × IsStand run first × Follows run first others ending

-- The stands are the trace, and the ending is its end: they go on from the first position.
abbrev pub IsTrace : Composition → List Stand → Ending → Type 0
IsTrace run = GoesOnFrom run (first_position run)

-- At the stand the run begins a trial: no output has a fault, it is not the stop, there may be more rows, and no `max`
-- has a fault.
pub record IsGoing (run : Composition) (stand : Stand) : Type 0 where
  pub ports_known : port_fault run stand.at.states stand.ports ≡ None
  pub before_stop : stop_end run stand.at ≡ None
  pub rows_left : row_end run stand.at ≡ None
  pub limits_told : max_end run stand.at stand.ports ≡ None

-- A stand is reached from another by this many successors. `last` is the stand before the last of them, or the stand
-- itself where there are none.
abbrev pub Reaches : Composition → ℕ → Stand → Stand → Stand → Type 0
Reaches run zero last from to = (from ≡ to) × (last ≡ to)
Reaches run (suc count) last from to = (earlier : Stand) × Reaches run count earlier from last × Goes run last to

-- ---- Rows

-- A row of the trace: a point, and the words of all outputs there, by instance and by declaration.
pub record Row : Type 0 where
  pub point : Point
  pub words : List ℤ

abbrev pub row_unless : Option Ending → Point → Ports → Option Row
row_unless (Some fault) point ports = None
row_unless None point ports = Some (record { point = point; words = filter_map (λ word. word) ports })

-- The row of a stand. A stand with a port fault has none; it can only be the last of a trace.
abbrev pub row_at : Composition → Stand → Option Row
row_at run stand = row_unless (port_fault run stand.at.states stand.ports) stand.at.point stand.ports

-- The rows of stands, in their order.
abbrev pub rows_of : Composition → List Stand → List Row
rows_of run stands = filter_map (row_at run) stands

-- The point at which a trace ends: that of its last stand. Without stands it is the first point.
abbrev pub last_point : List Stand → Point
last_point [] = record { t = 0; n = 0 }
last_point (stand ∷ []) = stand.at.point
last_point (stand ∷ later ∷ others) = last_point (later ∷ others)

-- ---- The rest of a position

-- The rest of a position: the rows from there, the point at which the run ends, and how it ends.
pub record IsRest (run : Composition) (at : Position) (rows : List Row) (last : Point) (ending : Ending) : Type 0 where
  pub stands : List Stand
  pub goes_on : GoesOnFrom run at stands ending
  pub rows_are : rows ≡ rows_of run stands
  pub last_is : last ≡ last_point stands

-- The position of a number in a trace: that of the stand at this place.
pub record IsPositionOf (run : Composition) (number : ℕ) (at : Position) : Type 0 where
  pub before : List Stand
  pub here : Stand
  pub later : List Stand
  pub ending : Ending
  pub trace : IsTrace run (before ++ (here ∷ later)) ending
  pub place : number ≡ length before
  pub is : at ≡ here.at

-- ---- The trace of a system

-- The rows are those of a trace of the system's composition, `last` is the point at which it ends, and `ending` is its
-- end. A system in range that is well-formed and has no cycle has exactly one.
pub record IsTraceOf (system : System) (rows : List Row) (last : Point) (ending : Ending) : Type 0 where
  pub stands : List Stand
  pub trace : IsTrace (run_of system) stands ending
  pub rows_are : rows ≡ rows_of (run_of system) stands
  pub last_is : last ≡ last_point stands

-- ---- Cells: the steps of members

-- How many members make a step, and are not held.
abbrev pub steps_there : List (Option (Result Moved Fault)) → ℕ
steps_there steps = count_by is_some steps

-- The cells of the trial, and of the redo.
abbrev pub cells_of_trial : Composition → Stand → ℕ
cells_of_trial run stand = steps_there (trial run stand.at stand.ports)

abbrev pub cells_of_redo : Composition → Stand → ℕ
cells_of_redo run stand = steps_there (steps_by run stand.at stand.ports (agreed run stand.at stand.ports))

-- The cells at a stand: none where the run ends before a trial, else those of the trial, and those of a redo where
-- there is one.
abbrev pub cells_at : Composition → Stand → ℕ
cells_at run stand =
    if is_some (first_some (port_fault run stand.at.states stand.ports ∷ stop_end run stand.at ∷ row_end run stand.at ∷ max_end run stand.at stand.ports ∷ []))
    then 0
    else cells_of_trial run stand + (if is_none (trial_end run stand.at stand.ports) && is_redone run stand.at stand.ports then cells_of_redo run stand else 0)

-- The cells of a trace.
abbrev pub cells_of : Composition → List Stand → ℕ
cells_of run stands = sum_by (cells_at run) stands

-- The count is that of the cells of a trace of the system's composition.
pub record HasCells (system : System) (count : ℕ) : Type 0 where
  pub stands : List Stand
  pub ending : Ending
  pub trace : IsTrace (run_of system) stands ending
  pub is : count ≡ cells_of (run_of system) stands

-- ---- What is known of positions

-- The words are those of a member's states: one for each, of its type.
abbrev pub AreWordsOf : List State → List ℤ → Type 0
AreWordsOf states words = AllZip (λ state word. is_word_of state.ty word ≡ true) states words

-- A position has one state for each member, each with the words of its states.
abbrev pub HasWords : Composition → Position → Type 0
HasWords run at = AllZip (λ member state. AreWordsOf member.component.unit.states state) run.members at.states

-- A position is within the stop and the zero budget of the run.
pub record IsInBounds (run : Composition) (at : Position) : Type 0 where
  pub stop : at.point.t ≤ run.stop
  pub zeros : at.point.n ≤ run.zero_budget

-- A position is within the row budget of the run.
abbrev pub IsInRows : Composition → Position → Type 0
IsInRows run at = at.number < run.row_budget
