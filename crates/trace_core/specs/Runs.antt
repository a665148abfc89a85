-- Runs: what contracts see of one, and the invariant of all.
use Rattle.std.specs.Prelude.{◌≡◌, ◌≤◌, ℕ, suc, ◌+◌, ◌*◌, ◌^◌, Bool, true, false, ℤ, List, [], ◌∷◌, map, length, slice_get, slice_set, if◌then◌else◌, Option}
use Rattle.std.specs.Prelude.{Some, None, Result}
use Rattle.std.specs.List.{AllByRecursion, count_by}
use Rattle.std.specs.Option.{option_and_then}
use Rattle.code_units.specs.Calls.{HasWordsFor}
use Rattle.code_units.specs.UnitPrograms.{program_of}
use Rattle.fixed_words.specs.declared.types.Fault.{Fault}
use Rattle.super_time.specs.LocalTime.{local_time, local_step}
use Rattle.trace_core.specs.declared.phase.Phase.{Phase}
use Rattle.trace_core.specs.declared.phase.Phase.TheVariants.{Trial, Redo, Ended}
use Rattle.trace_core.specs.declared.phase.Row as lent
use Rattle.trace_plan.specs.Plans.{IsBounded, Planned}
use Rattle.unit_answers.specs.Keys.{StepKey, key_of, meaning}
use Rattle.unit_exec.specs.Images.{IsImageOf}
use Rattle.unit_exec.specs.declared.want.Want.{Want}
use Rattle.unit_tree.specs.Components.{Moved}
use Rattle.unit_tree.specs.Compositions.{Member, Composition, AreMembers, run_of}
use Rattle.unit_tree.specs.Negotiation.{is_held, all_inputs, step_at}
use Rattle.unit_tree.specs.Ports.{IsPlaceOrder, first_some, port_fault}
use Rattle.unit_tree.specs.Successor.{Position, standings, ends, proposed, agreed, is_redone, stop_end, row_end, max_end, trial_end, successor}
use Rattle.unit_tree.specs.Trace.{Stand, IsStand, IsGoing, Reaches, Row, HasWords, cells_of_trial, cells_at, IsInBounds, IsInRows}
use Rattle.unit_tree.specs.declared.ending.Ending.{Ending}
use Rattle.unit_vm.specs.Programs.{program_words}

-- The step of an instance in a phase: the instance is held in it, the step was not made yet, or it was made, with this result.
pub data Cell : Type 0 where
  Held : Cell
  Empty : Cell
  Filled : Result Moved Fault → Cell

-- A run: its plan, the position at which it was opened, its stand, its phase with the cells of all instances, and the words of all
-- inputs at the row before. It counts how many cells were filled from answers and by its own steps.
pub record RunState : Type 0 where
  pub plan : Planned
  pub opened : Position
  pub stand : Stand
  pub phase : Phase
  pub cells : List Cell
  pub before : List (List ℤ)
  pub found : ℕ
  pub own : ℕ

-- ---- Arriving at a stand

-- How a run ends at a stand before a trial, if it does.
abbrev pub first_end : Composition → Stand → Option Ending
first_end run stand =
    first_some (port_fault run stand.at.states stand.ports ∷ stop_end run stand.at ∷ row_end run stand.at ∷ max_end run stand.at stand.ports ∷ [])

-- This end, where there is one, and otherwise the trial of a step of h.
abbrev pub phase_or : Option Ending → ℕ → Phase
phase_or (Some ending) h = Ended ending
phase_or None h = Trial h

-- The phase at a stand at which a run arrives: the trial of the proposed step, or the end.
abbrev pub phase_at : Composition → Stand → Phase
phase_at run stand = phase_or (first_end run stand) (proposed run stand.at stand.ports)

-- The cell of a member at the beginning of a step of h from t.
abbrev pub cell_of : ℕ → ℕ → Member → Cell
cell_of t h member = if is_held member.factor t h then Held else Empty

-- The cells of all members at the beginning of a phase. After the end there are none.
abbrev pub cells_of : Composition → ℕ → Phase → List Cell
cells_of run t (Trial h) = map (cell_of t h) run.members
cells_of run t (Redo h) = map (cell_of t h) run.members
cells_of run t (Ended ending) = []

-- A run that has arrived at a stand, with these inputs at the row before, and these counts.
abbrev pub arrived : Planned → Position → Stand → List (List ℤ) → ℕ → ℕ → RunState
arrived plan opened stand before found own = record {
  plan = plan;
  opened = opened;
  stand = stand;
  phase = phase_at plan.run stand;
  cells = cells_of plan.run stand.at.point.t (phase_at plan.run stand);
  before = before;
  found = found;
  own = own;
}

-- All ports of a stand have words.
abbrev pub ArePortsKnown : Composition → Stand → Type 0
ArePortsKnown run stand = port_fault run stand.at.states stand.ports ≡ None

-- The run was opened at the position, and has made no step yet. Its inputs at the row before are those at the position.
pub record IsOpened (plan : Planned) (at : Position) (r : RunState) : Type 0 where
  pub is : r ≡ arrived plan at (record { at = at; ports = r.stand.ports }) r.before 0 0
  pub before : ArePortsKnown plan.run r.stand → r.before ≡ all_inputs plan.run r.stand.ports

-- ---- The invariant of a run

-- The instance is held.
abbrev pub is_held_cell : Cell → Bool
is_held_cell Held = true
is_held_cell _ = false

-- Its step was made.
abbrev pub is_filled : Cell → Bool
is_filled (Filled step) = true
is_filled _ = false

-- Its step was not made yet.
abbrev pub is_empty_cell : Cell → Bool
is_empty_cell Empty = true
is_empty_cell _ = false

-- There is a cell for each member, and it is held exactly where the member is held in a step of h from t.
abbrev pub FitCells : Composition → ℕ → ℕ → List Cell → Type 0
FitCells run t h cells = map is_held_cell cells ≡ map (λ member. is_held member.factor t h) run.members

-- The run goes on, and tries the proposed step.
pub record IsTrial (run : Composition) (stand : Stand) (h : ℕ) (cells : List Cell) : Type 0 where
  pub going : IsGoing run stand
  pub is : h ≡ proposed run stand.at stand.ports
  pub cells_fit : FitCells run stand.at.point.t h cells

-- No step of the trial faulted, and the step is made again by the shorter, agreed length.
pub record IsRedo (run : Composition) (stand : Stand) (h : ℕ) (cells : List Cell) : Type 0 where
  pub going : IsGoing run stand
  pub no_fault : trial_end run stand.at stand.ports ≡ None
  pub shorter : is_redone run stand.at stand.ports ≡ true
  pub is : h ≡ agreed run stand.at stand.ports
  pub cells_fit : FitCells run stand.at.point.t h cells

-- The run ended, and has no cells.
pub record IsEnd (run : Composition) (stand : Stand) (ending : Ending) (cells : List Cell) : Type 0 where
  pub is : successor run stand.at stand.ports ≡ ends ending
  pub none : cells ≡ []

-- The phase is one that follows from the stand, with its cells.
abbrev pub IsPhase : Composition → Stand → Phase → List Cell → Type 0
IsPhase run stand (Trial h) cells = IsTrial run stand h cells
IsPhase run stand (Redo h) cells = IsRedo run stand h cells
IsPhase run stand (Ended ending) cells = IsEnd run stand ending cells

-- How many cells were filled at the stand.
abbrev pub cells_now : Composition → Stand → Phase → List Cell → ℕ
cells_now run stand (Trial h) cells = count_by is_filled cells
cells_now run stand (Redo h) cells = cells_of_trial run stand + count_by is_filled cells
cells_now run stand (Ended ending) cells = cells_at run stand

-- ---- The steps of a phase

-- The length of the step of a phase, in ticks.
abbrev pub step_length : Phase → ℕ
step_length (Trial h) = h
step_length (Redo h) = h
step_length (Ended ending) = 0

-- The result of the step of an instance in the phase, by its component, from the state and the words of the inputs at the run's
-- stand. There is none for an instance that is held or doesn't exist.
abbrev pub step_in : RunState → ℕ → Option (Result Moved Fault)
step_in r instance =
    option_and_then (step_at r.stand.at.point.t (step_length r.phase) r.stand.ports) (slice_get (standings r.plan.run r.stand.at) instance)

-- Each filled cell has the result of its instance's step.
abbrev pub HoldSteps : RunState → Type 0
HoldSteps r = (instance : ℕ) (step : Result Moved Fault) → slice_get r.cells instance ≡ Some (Filled step) → step_in r instance ≡ Some step

-- ---- The whole invariant

-- The run is that of its plan's system, whose outputs have an order. Its stand follows by the successor from the position at
-- which it was opened, after as many steps as its number has risen. Its ports are the port assignment there. Its phase is one
-- that follows from the stand, and its filled cells have steps of the phase.
pub record Stands (r : RunState) : Type 0 where
  pub composed : r.plan.run ≡ run_of r.plan.system
  pub order : List ℕ
  pub ordered : IsPlaceOrder r.plan.run order
  pub bounded : IsBounded r.plan.run
  pub members : AreMembers r.plan.run
  pub words : HasWords r.plan.run r.stand.at
  pub is_stand : IsStand r.plan.run r.stand
  pub in_bounds : IsInBounds r.plan.run r.stand.at
  pub in_rows : IsInRows r.plan.run r.stand.at
  pub from : Stand
  pub count : ℕ
  pub last : Stand
  pub opened : from.at ≡ r.opened
  pub from_stand : IsStand r.plan.run from
  pub reached : Reaches r.plan.run count last from r.stand
  pub numbered : r.stand.at.number ≡ r.opened.number + count
  pub before : ArePortsKnown r.plan.run r.stand → r.before ≡ all_inputs r.plan.run last.ports
  pub phase_is : IsPhase r.plan.run r.stand r.phase r.cells
  pub steps : HoldSteps r
  pub counted : r.found + r.own ≤ count * (2 * length r.plan.run.members) + cells_now r.plan.run r.stand r.phase r.cells

-- ---- Required steps

-- The cell of an instance is empty.
abbrev pub IsWanted : RunState → ℕ → Type 0
IsWanted r instance = slice_get r.cells instance ≡ Some Empty

-- No cell is empty.
abbrev pub AreCellsFull : List Cell → Type 0
AreCellsFull cells = AllByRecursion (λ cell. is_empty_cell cell ≡ false) cells

-- The run has ended.
abbrev pub is_ended : Phase → Bool
is_ended (Ended ending) = true
is_ended _ = false

-- The key of the step of an instance in the phase: the code of its component, the state and the words of the inputs at the
-- run's stand, and the step by its clock.
pub record IsKeyAt (r : RunState) (instance : ℕ) (key : StepKey) : Type 0 where
  pub member : Member
  pub is_there : slice_get r.plan.run.members instance ≡ Some member
  pub code : key.code ≡ program_words (program_of member.component.unit member.component.params)
  pub state : slice_get r.stand.at.states instance ≡ Some key.state
  pub inputs : slice_get (all_inputs r.plan.run r.stand.ports) instance ≡ Some key.inputs
  pub time : key.time ≡ local_time member.factor r.stand.at.point.t
  pub step : key.step ≡ local_step member.factor r.stand.at.point.t (step_length r.phase)

-- The required step of an instance: its step of the phase, for the row of the run's stand. Its words fit the code, and it ends
-- within the range of times. So whoever has a unit of this code can make it.
pub record IsWantOf (r : RunState) (instance : ℕ) (want : Want) : Type 0 where
  pub key : IsKeyAt r instance (key_of want)
  pub row : want.row ≡ r.stand.at.number
  pub image : IsImageOf key.member.component want.image.now.value
  pub words : HasWordsFor want.image.now.value.program want.state.now want.inputs.now
  pub in_time : want.time + want.step ≤ 10 ^ 15

-- Each filled cell has the meaning of the key of its step, whoever filled it.
abbrev pub HoldMeanings : RunState → Type 0
HoldMeanings r = (instance : ℕ) (step : Result Moved Fault) (key : StepKey)
    → slice_get r.cells instance ≡ Some (Filled step) → IsKeyAt r instance key → meaning key ≡ Some step

-- The step of a key is required of an instance.
abbrev pub IsKeyWanted : RunState → ℕ → StepKey → Type 0
IsKeyWanted r instance key = IsWanted r instance × IsKeyAt r instance key

-- The run after the cell of an instance was filled with a result, as the run's own step.
abbrev pub with_own : RunState → ℕ → Result Moved Fault → RunState
with_own r instance step = record r { cells = slice_set r.cells instance (Filled step); own = suc r.own }

-- The same, by an answer.
abbrev pub with_found : RunState → ℕ → Result Moved Fault → RunState
with_found r instance step = record r { cells = slice_set r.cells instance (Filled step); found = suc r.found }

-- The run made the required step of an instance: the cell has its result.
pub record IsComputed (old : RunState) (instance : ℕ) (new : RunState) : Type 0 where
  pub step : Result Moved Fault
  pub gives : step_in old instance ≡ Some step
  pub is : new ≡ with_own old instance step

-- ---- Rows

-- A lent row, as a row.
abbrev pub row_told : lent.Row → Row
row_told row = record { point = row.point; words = row.ports.now }
