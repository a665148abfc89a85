-- Laws of runs.
use Rattle.std.specs.Prelude.{⊤, ◌≡◌, ◌↔◌, ℕ, ◌≤◌, ◌-◌, true, false, ℤ, List, [], ◌∷◌, length, is_some, Some, None, Ok}
use Rattle.std.specs.List.{AllByRecursion, list_all}
use Rattle.fixed_words.specs.Types.{is_word_of}
use Rattle.super_time.specs.LocalTime.{local_step}
use Rattle.super_time.specs.declared.point.Point.{Point}
use Rattle.unit_tree.specs.Components.{Component, Moved, get_of, step_of}
use Rattle.unit_tree.specs.Compositions.{Composition, AreMembers, HasNoEvents, composition_of, run_of}
use Rattle.unit_tree.specs.Names.{is_among}
use Rattle.unit_tree.specs.Negotiation.{proposal_of, reply_of, agreed_step}
use Rattle.unit_tree.specs.Orders.{HasNoCycle}
use Rattle.unit_tree.specs.Plain.{plain_form}
use Rattle.unit_tree.specs.Ports.{Ports, IsAmong, IsAssignment, IsPlaceOrder, port_fault}
use Rattle.unit_tree.specs.Printable.{IsRanged}
use Rattle.unit_tree.specs.Successor.{Position, goes, ends, first_position, after, agreed, proposed, is_redone, stop_end, row_end, max_end, trial_end, redo_end}
use Rattle.unit_tree.specs.Successor.{redo_end_by, zero_end, successor}
use Rattle.unit_tree.specs.Trace.{Stand, Goes, IsGoing, IsTrace, Row, IsTraceOf, HasCells, AreWordsOf, HasWords, IsInBounds, IsInRows}
use Rattle.unit_tree.specs.WellFormed.{IsWellFormed, uses_other_input}
use Rattle.unit_tree.specs.declared.ending.Ending.{Ending}
use Rattle.unit_tree.specs.declared.system.System.{System}
use Rattle.unit_tree.specs.declared.unit.Input.{Input}
use Rattle.unit_tree.specs.declared.unit.Output.{Output}

-- A composition whose places have an order has exactly one port assignment for states, if each member has a state.
pub record HasOneAssignment (run : Composition) (states : List (List ℤ)) : Type 0 where
  pub ports : Ports
  pub is_assignment : IsAssignment run states ports
  pub is_only : (other : Ports) → IsAssignment run states other → other ≡ ports

abbrev pub AssignmentsAreUnique : Type 0
AssignmentsAreUnique =
    (run : Composition) (order : List ℕ) (states : List (List ℤ)) → IsPlaceOrder run order → length states ≡ length run.members → HasOneAssignment run states

-- There is a port fault exactly where some output is undefined.
abbrev pub UndefinedOutputsFault : Type 0
UndefinedOutputsFault =
    (run : Composition) (order : List ℕ) (states : List (List ℤ)) (ports : Ports) → IsPlaceOrder run order → length states ≡ length run.members
    → IsAssignment run states ports → (port_fault run states ports ≡ None) ↔ (list_all is_some ports ≡ true)

-- ---- Outputs

-- Words of inputs, one each, that are equal at the inputs that an output needs.
abbrev pub AgreeOn : List (List ℕ) → List Input → List ℤ → List ℤ → Type 0
AgreeOn needs [] [] [] = ⊤
AgreeOn needs (input ∷ inputs) (one ∷ ones) (other ∷ others) = (is_among needs input.name ≡ true → one ≡ other) × AgreeOn needs inputs ones others
AgreeOn needs _ _ _ = ⊥

-- The result of get for an output depends only on the inputs in its needs, if the output uses no other inputs. The
-- outputs of a well-formed system don't.
abbrev pub OutputsLookAtNeeds : Type 0
OutputsLookAtNeeds =
    (component : Component) (state one other : List ℤ) (output : Output) → length component.params ≡ length component.unit.params
    → length state ≡ length component.unit.states → AgreeOn output.needs component.unit.inputs one other
    → uses_other_input component.unit output.needs output.value ≡ false → get_of component state one output ≡ get_of component state other output

-- The result of get is a word of the output's type, or a fault.
abbrev pub OutputsAreWords : Type 0
OutputsAreWords =
    (component : Component) (state inputs : List ℤ) (output : Output) (word : ℤ) → get_of component state inputs output ≡ Ok word
    → is_word_of output.ty word ≡ true

-- ---- Steps

-- The conditions on the length of a step.
pub record IsAllowed (stop longest t : ℕ) (limits : List ℕ) (h : ℕ) : Type 0 where
  pub within_stop : h ≤ stop - t
  pub within_longest : h ≤ longest
  pub within_limits : AllByRecursion (λ limit. h ≤ limit) limits

pub record IsGreatest (P : ℕ → Type 0) (greatest : ℕ) : Type 0 where
  pub holds : P greatest
  pub is_greatest : (h : ℕ) → P h → h ≤ greatest

-- The proposed step is the greatest length that the stop, `longest` and every limit allow.
abbrev pub ProposalsAreGreatest : Type 0
ProposalsAreGreatest = (stop longest t : ℕ) (limits : List ℕ) → IsGreatest (IsAllowed stop longest t limits) (proposal_of stop longest t limits)

-- A reply is at most the step.
abbrev pub RepliesAreAtMost : Type 0
RepliesAreAtMost = (factor t h accepted : ℕ) → 1 ≤ factor → accepted ≤ local_step factor t h → reply_of factor t h accepted ≤ h

pub record IsLeastOf (numbers : List ℕ) (least : ℕ) : Type 0 where
  pub is_one : IsAmong numbers least
  pub is_least : AllByRecursion (λ number. least ≤ number) numbers

-- The agreed step is at most every reply, and is one of them.
abbrev pub AgreedStepsAreLeast : Type 0
AgreedStepsAreLeast = (h first : ℕ) (others : List ℕ) → IsLeastOf (first ∷ others) (agreed_step h (first ∷ others))

-- ---- Words

-- A step leaves one word for each state, of its type, and accepts at most its whole length.
pub record KeepsWords (component : Component) (step : ℕ) (moved : Moved) : Type 0 where
  pub words : AreWordsOf component.unit.states moved.state
  pub accepted : moved.accepted ≤ step

abbrev pub StepsKeepWords : Type 0
StepsKeepWords =
    (component : Component) (state inputs : List ℤ) (time step : ℕ) (moved : Moved) → length component.params ≡ length component.unit.params
    → AreWordsOf component.unit.states state → step_of component state inputs time step ≡ Ok moved → KeepsWords component step moved

-- The components of a system are members.
abbrev pub SystemsHaveMembers : Type 0
SystemsHaveMembers = (system : System) → AreMembers (composition_of system)

-- A run starts with words of their types, and keeps them from each position to the next.
pub record PositionsKeepWords (run : Composition) : Type 0 where
  pub first : HasWords run (first_position run)
  pub next : (at : Position) (ports : Ports) → HasWords run at → HasWords run (after run at ports)

abbrev pub RunsKeepWords : Type 0
RunsKeepWords = (run : Composition) → AreMembers run → PositionsKeepWords run

-- A step that a run makes leads to the position after the agreed step. That position has words, and is within the
-- bounds on time and on rows.
pub record IsRightStep (run : Composition) (one next : Stand) : Type 0 where
  pub agreed : next.at ≡ after run one.at one.ports
  pub words : HasWords run one.at → HasWords run next.at
  pub bounds : HasWords run one.at → IsInBounds run one.at → IsInBounds run next.at
  pub rows : IsInRows run one.at → IsInRows run next.at

abbrev pub StepsOfRunsAreRight : Type 0
StepsOfRunsAreRight = (run : Composition) (one next : Stand) → AreMembers run → Goes run one next → IsRightStep run one next

-- Each stand of a trace has its words, and is within the stop and the zero budget. Where there may be a row, it is
-- within the row budget too.
pub record HasRightStands (run : Composition) (stands : List Stand) : Type 0 where
  pub words : AllByRecursion (λ stand. HasWords run stand.at) stands
  pub bounds : AllByRecursion (λ stand. IsInBounds run stand.at) stands
  pub rows : 1 ≤ run.row_budget → AllByRecursion (λ stand. IsInRows run stand.at) stands

abbrev pub StandsOfTracesAreRight : Type 0
StandsOfTracesAreRight = (run : Composition) (stands : List Stand) (ending : Ending) → AreMembers run → IsTrace run stands ending → HasRightStands run stands

-- The agreed step is at most the proposed step.
abbrev pub AgreedStepsAreAtMost : Type 0
AgreedStepsAreAtMost = (run : Composition) (at : Position) (ports : Ports) → AreMembers run → HasWords run at → agreed run at ports ≤ proposed run at ports

-- ---- Endings

-- How a run goes on from a stand where it does not end before its trial.
pub record EndsInOrder (run : Composition) (stand : Stand) : Type 0 where
  pub trial_ends : (ending : Ending) → trial_end run stand.at stand.ports ≡ Some ending → successor run stand.at stand.ports ≡ ends ending
  pub redo_ends : (ending : Ending) → trial_end run stand.at stand.ports ≡ None → is_redone run stand.at stand.ports ≡ true
      → redo_end_by run stand.at stand.ports (agreed run stand.at stand.ports) ≡ Some ending → successor run stand.at stand.ports ≡ ends ending
  pub zero_ends : (ending : Ending) → trial_end run stand.at stand.ports ≡ None → redo_end run stand.at stand.ports ≡ None
      → zero_end run stand.at stand.ports ≡ Some ending → successor run stand.at stand.ports ≡ ends ending
  pub whole_goes : trial_end run stand.at stand.ports ≡ None → is_redone run stand.at stand.ports ≡ false → zero_end run stand.at stand.ports ≡ None
      → successor run stand.at stand.ports ≡ goes (after run stand.at stand.ports)
  pub redo_goes : trial_end run stand.at stand.ports ≡ None → is_redone run stand.at stand.ports ≡ true
      → redo_end_by run stand.at stand.ports (agreed run stand.at stand.ports) ≡ None → zero_end run stand.at stand.ports ≡ None
      → successor run stand.at stand.ports ≡ goes (after run stand.at stand.ports)

-- How a run ends at a stand before a trial.
pub record FirstEndsInOrder (run : Composition) (stand : Stand) : Type 0 where
  pub port_ends : (ending : Ending) → port_fault run stand.at.states stand.ports ≡ Some ending → successor run stand.at stand.ports ≡ ends ending
  pub stop_ends : (ending : Ending) → port_fault run stand.at.states stand.ports ≡ None → stop_end run stand.at ≡ Some ending
      → successor run stand.at stand.ports ≡ ends ending
  pub row_ends : (ending : Ending) → port_fault run stand.at.states stand.ports ≡ None → stop_end run stand.at ≡ None → row_end run stand.at ≡ Some ending
      → successor run stand.at stand.ports ≡ ends ending
  pub max_ends : (ending : Ending) → port_fault run stand.at.states stand.ports ≡ None → stop_end run stand.at ≡ None → row_end run stand.at ≡ None
      → max_end run stand.at stand.ports ≡ Some ending → successor run stand.at stand.ports ≡ ends ending

abbrev pub FirstEndsAreJudgedInOrder : Type 0
FirstEndsAreJudgedInOrder = (run : Composition) (stand : Stand) → FirstEndsInOrder run stand

abbrev pub EndsAreJudgedInOrder : Type 0
EndsAreJudgedInOrder = (run : Composition) (stand : Stand) → IsGoing run stand → EndsInOrder run stand

-- ---- Traces

-- There is exactly one trace, with one ending.
pub record HasOneTrace (run : Composition) : Type 0 where
  pub stands : List Stand
  pub ending : Ending
  pub is_trace : IsTrace run stands ending
  pub is_only : (other : List Stand) (end : Ending) → IsTrace run other end → (other ≡ stands) × (end ≡ ending)

abbrev pub OrderedRunsHaveOneTrace : Type 0
OrderedRunsHaveOneTrace = (run : Composition) (order : List ℕ) → AreMembers run → IsPlaceOrder run order → HasOneTrace run

-- The plain form of a system in range has no event ports.
abbrev pub PlainFormsHaveNoEvents : Type 0
PlainFormsHaveNoEvents = (system : System) → IsRanged system → HasNoEvents (plain_form system)

-- A system without event ports that is well-formed has no cycle exactly where its composition has an order of its
-- places.
abbrev pub SystemsHavePlaceOrders : Type 0
SystemsHavePlaceOrders =
    (system : System) → HasNoEvents system → IsWellFormed system → HasNoCycle system ↔ ((order : List ℕ) × IsPlaceOrder (composition_of system) order)

-- A system without event ports that is well-formed and has no cycle has exactly one trace.
abbrev pub SystemsHaveOneTrace : Type 0
SystemsHaveOneTrace = (system : System) → HasNoEvents system → IsWellFormed system → HasNoCycle system → HasOneTrace (composition_of system)

-- A system in range that is well-formed has no cycle exactly where its composition has an order of its places. The
-- composition then has exactly one trace.
abbrev pub RunsHavePlaceOrders : Type 0
RunsHavePlaceOrders =
    (system : System) → IsRanged system → IsWellFormed system → HasNoCycle system ↔ ((order : List ℕ) × IsPlaceOrder (run_of system) order)

abbrev pub RunsHaveOneTrace : Type 0
RunsHaveOneTrace = (system : System) → IsRanged system → IsWellFormed system → HasNoCycle system → HasOneTrace (run_of system)

-- The system has exactly one list of rows, one last point, one ending and one count of cells.
pub record HasOneTraceOf (system : System) : Type 0 where
  pub rows : List Row
  pub last : Point
  pub ending : Ending
  pub is_trace : IsTraceOf system rows last ending
  pub is_only : (others : List Row) (point : Point) (end : Ending) → IsTraceOf system others point end → (others ≡ rows) × (point ≡ last) × (end ≡ ending)
  pub cells : ℕ
  pub has_cells : HasCells system cells
  pub is_only_count : (other : ℕ) → HasCells system other → other ≡ cells

-- A system in range that is well-formed and has no cycle has exactly one of each.
abbrev pub SystemsHaveOneOutcome : Type 0
SystemsHaveOneOutcome = (system : System) → IsRanged system → IsWellFormed system → HasNoCycle system → HasOneTraceOf system
