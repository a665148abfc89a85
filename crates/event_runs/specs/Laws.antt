-- Laws of events: the meaning of a system as it is written is that of its plain form, read as signals.
use Rattle.std.specs.List.{AllByRecursion, AllZip, flat_map, list_all}
use Rattle.std.specs.Option.{option_map, IfSome}
use Rattle.std.specs.Prelude.{ℕ, Bool, true, false, ℤ, pos, List, [], ◌∷◌, map, Option, Some, None, Result, Ok, ◌≡◌, length, slice_get, ⊤, ◌⊎◌, is_some, Err}
use Rattle.fixed_words.specs.Operations.{Outcome}
use Rattle.fixed_words.specs.Types.{kind_of}
use Rattle.fixed_words.specs.declared.types.Fault.{Fault}
use Rattle.fixed_words.specs.declared.types.Ty.{Ty}
use Rattle.super_time.specs.declared.point.Point.{Point}
use Rattle.unit_tree.specs.Components.{Component, get_of, max_of, step_of}
use Rattle.unit_tree.specs.Compositions.{InputSource, Start, AtPlace, Composition, AreMembers, run_of}
use Rattle.unit_tree.specs.Names.{is_among, are_among, names_in, events_asked_in, expression_on, event_input_names}
use Rattle.unit_tree.specs.Orders.{HasNoCycle}
use Rattle.unit_tree.specs.Parts.{line_forms}
use Rattle.unit_tree.specs.Plain.{presence_name, plain_expression, presence_of, word_expression_of, plain_output, plain_outputs}
use Rattle.unit_tree.specs.Ports.{Ports, IsAssignment, IsPlaceOrder, port_fault}
use Rattle.unit_tree.specs.Printable.{IsRanged, names_on}
use Rattle.unit_tree.specs.Successor.{Position, successor}
use Rattle.unit_tree.specs.Tokens.{IsWord}
use Rattle.unit_tree.specs.Trace.{Stand, IsTrace, Row, rows_of, IsTraceOf}
use Rattle.unit_tree.specs.Values.{truth, value_of, value_of_name}
use Rattle.unit_tree.specs.WellFormed.{IsWellFormed}
use Rattle.unit_tree.specs.declared.ending.Ending.{Ending}
use Rattle.unit_tree.specs.declared.environment.Environment.{Environment}
use Rattle.unit_tree.specs.declared.environment.Value.{Value}
use Rattle.unit_tree.specs.declared.expr.Expr.{Expr}
use Rattle.unit_tree.specs.declared.line.Line.{Line}
use Rattle.unit_tree.specs.declared.line_form.LineForm.{LineForm}
use Rattle.unit_tree.specs.declared.system.System.{System}
use Rattle.unit_tree.specs.declared.unit.Unit.{Unit}
use Rattle.event_runs.specs.EventPorts.{Signals, EventMember, outs_of, needs_in, IsEventAssignment}
use Rattle.event_runs.specs.EventRuns.{event_members_of, IsEventTraceOf, HasOneEventTraceOf}
use Rattle.event_runs.specs.EventTrace.{EventRun, event_port_fault, event_offers, EventStand, IsEventTrace, event_rows_of}
use Rattle.event_runs.specs.Events.{Signal, Occurring, none_occurs, value_in, event_in, Seen, all_variables_of, get_in, get_event, max_in, step_in, Occurs}
use Rattle.event_runs.specs.Events.{Absent}
use Rattle.event_runs.specs.Offers.{Pace, Offers, next_by}
use Rattle.event_runs.specs.Readings.{plain_component, plain_words, shape_of, read_ports, plain_member, pace_of, offers_of, read_stand, read_ending, read_row}
use Rattle.event_runs.specs.Readings.{HasShape, system_shape, read_rows, read_end}

-- ---- Expressions

-- Names are words, and each name in `present` is one of these event inputs.
pub record Speaks (events : List (List ℕ)) (value : Expr) : Type 0 where
  pub names : AllByRecursion IsWord (names_in value)
  pub asked : are_among events (events_asked_in value) ≡ true

-- Two environments at one time: one where events occur at some event inputs, and one where plain variables state by
-- true or false whether they do.
pub record Shows (occurring : Occurring) (events : List (List ℕ)) (env plain : Environment) : Type 0 where
  pub names : (name : List ℕ) → IsWord name → value_of_name plain.variables plain.words name ≡ value_of_name env.variables env.words name
  pub tells : (name : List ℕ) → is_among events name ≡ true → value_of_name plain.variables plain.words (presence_name name) ≡ truth (occurring name)
  pub time : plain.time ≡ env.time
  pub step : plain.step ≡ env.step

abbrev pub PlainExpressionsMeanTheSame : Type 0
PlainExpressionsMeanTheSame =
    (occurring : Occurring) (events : List (List ℕ)) (env plain : Environment) (value : Expr) → Shows occurring events env plain → Speaks events value
    → value_of (plain_expression value) plain ≡ value_in occurring value env

-- The zero of a type's kind.
abbrev pub zero_value : Ty → Value
zero_value ty = record { kind = kind_of ty; word = pos 0 }

-- The results of the two plain expressions of an event output, by the result of its own expression. Where an event
-- occurs they are true and the word; where none does, false and 0. A fault is that of the word; the first expression
-- then has the same fault or is true.
abbrev pub AreTwo : Ty → Result (Option Value) Fault → Result Value Fault → Result Value Fault → Type 0
AreTwo ty (Ok None) tells word = (tells ≡ Ok (truth false)) × (word ≡ Ok (zero_value ty))
AreTwo ty (Ok (Some value)) tells word = (tells ≡ Ok (truth true)) × (word ≡ Ok value)
AreTwo ty (Err fault) tells word = ((tells ≡ Err fault) ⊎ (tells ≡ Ok (truth true))) × (word ≡ Err fault)

abbrev pub EventsAreTwo : Type 0
EventsAreTwo =
    (occurring : Occurring) (events : List (List ℕ)) (env plain : Environment) (ty : Ty) (value : Expr) → Shows occurring events env plain → Speaks events value
    → AreTwo ty (event_in occurring value env) (value_of (plain_expression (presence_of value)) plain)
    (value_of (plain_expression (word_expression_of ty value)) plain)

-- Where no event occurs, the value is that in an environment without events.
abbrev pub NoEventsMeanTheSame : Type 0
NoEventsMeanTheSame = (env : Environment) (value : Expr) → value_in none_occurs value env ≡ value_of value env

-- ---- Calls

abbrev pub asks_of : List (List ℕ) → Option Expr → Type 0
asks_of events None = ⊤
asks_of events (Some value) = are_among events (events_asked_in value) ≡ true

-- The same for a line.
pub record FormSpeaks (events : List (List ℕ)) (line : LineForm) : Type 0 where
  pub names : AllByRecursion IsWord (names_on line)
  pub asked : asks_of events (expression_on line)

abbrev pub LineSpeaks : List (List ℕ) → Line → Type 0
LineSpeaks events some = AllByRecursion (FormSpeaks events) (line_forms some)

-- The content of a unit: the names of its variables and in its expressions are words, and each name in `present` is one
-- of its event inputs.
pub record IsSaid (unit : Unit) : Type 0 where
  pub variables : AllByRecursion (λ variable. IsWord variable.name) (all_variables_of unit)
  pub outputs : AllByRecursion (λ output. Speaks (event_input_names unit) output.value) unit.outputs
  pub events : AllByRecursion (λ event. Speaks (event_input_names unit) event.value) unit.events_out
  pub limit : IfSome unit.max (Speaks (event_input_names unit))
  pub step : IfSome unit.step (AllByRecursion (LineSpeaks (event_input_names unit)))

-- A word for each parameter, state and plain input, and a signal for each event input.
pub record Fits (component : Component) (state : List ℤ) (seen : Seen) : Type 0 where
  pub params : length component.params ≡ length component.unit.params
  pub states : length state ≡ length component.unit.states
  pub words : length seen.words ≡ length component.unit.inputs
  pub signals : length seen.signals ≡ length component.unit.events_in

-- The results of get for the two plain outputs of an event output.
abbrev pub AreTwoGets : Result Signal Fault → Outcome → Outcome → Type 0
AreTwoGets (Ok Absent) tells word = (tells ≡ Ok (pos 0)) × (word ≡ Ok (pos 0))
AreTwoGets (Ok (Occurs w)) tells word = (tells ≡ Ok (pos 1)) × (word ≡ Ok w)
AreTwoGets (Err fault) tells word = ((tells ≡ Err fault) ⊎ (tells ≡ Ok (pos 1))) × (word ≡ Err fault)

-- In a list of two, the relation between its elements.
abbrev pub AllPairs : {A : Type 0} → (A → A → Type 0) → List A → Type 0
AllPairs R (one ∷ other ∷ []) = R one other
AllPairs R _ = ⊥

-- The calls of a component are those of its plain form, on the plain words of what the component reads.
pub record HasPlainCalls (component : Component) (state : List ℤ) (seen : Seen) : Type 0 where
  pub get : AllByRecursion
      (λ output. get_of (plain_component component) state (plain_words seen) (plain_output component.unit output)
      ≡ get_in component state seen output) component.unit.outputs
  pub events : AllByRecursion
      (λ event. AllPairs (AreTwoGets (get_event component state seen event))
      (map (get_of (plain_component component) state (plain_words seen)) (plain_outputs component.unit event))) component.unit.events_out
  pub limit : (time : ℕ) → max_of (plain_component component) state (plain_words seen) time ≡ max_in component state seen time
  pub step : (time step : ℕ) → step_of (plain_component component) state (plain_words seen) time step ≡ step_in component state seen time step

abbrev pub ComponentsHavePlainCalls : Type 0
ComponentsHavePlainCalls =
    (component : Component) (state : List ℤ) (seen : Seen) → IsSaid component.unit → Fits component state seen → HasPlainCalls component state seen

-- ---- Port assignments

-- The two ports of an event output are 1 and its word, or 0 and 0, where both are defined.
abbrev pub IsTidyPair : Option ℤ → Option ℤ → Type 0
IsTidyPair (Some tells) (Some word) = (tells ≡ pos 1) ⊎ ((tells ≡ pos 0) × (word ≡ pos 0))
IsTidyPair _ _ = ⊤

abbrev pub AreTidy : List Bool → Ports → Type 0
AreTidy [] [] = ⊤
AreTidy (false ∷ shape) (word ∷ ports) = AreTidy shape ports
AreTidy (true ∷ shape) (tells ∷ word ∷ ports) = IsTidyPair tells word × AreTidy shape ports
AreTidy _ _ = ⊥

-- A plain input is connected to a plain output, and an event input to an event output. Names are words. There is a
-- source for each input.
abbrev pub SourceFits : List Bool → InputSource → Type 0
SourceFits shape (Start word) = ⊤
SourceFits shape (AtPlace place) = slice_get shape place ≡ Some false

abbrev pub FeedFits : List Bool → Option ℕ → Type 0
FeedFits shape None = ⊤
FeedFits shape (Some place) = slice_get shape place ≡ Some true

pub record IsWired (shape : List Bool) (one : EventMember) : Type 0 where
  pub said : IsSaid one.member.component.unit
  pub needs : AllByRecursion (λ out. AllByRecursion IsWord (needs_in out)) (outs_of one.member.component.unit)
  pub params : length one.member.component.params ≡ length one.member.component.unit.params
  pub count : length one.member.sources ≡ length one.member.component.unit.inputs
  pub events : length one.feeds ≡ length one.member.component.unit.events_in
  pub sources : AllByRecursion (SourceFits shape) one.member.sources
  pub feeds : AllByRecursion (FeedFits shape) one.feeds

-- A signal of a plain output is a word.
abbrev pub IsShaped : List Bool → Signals → Type 0
IsShaped [] [] = ⊤
IsShaped (false ∷ shape) (Some Absent ∷ signals) = ⊥
IsShaped (_ ∷ shape) (signal ∷ signals) = IsShaped shape signals
IsShaped _ _ = ⊥

-- Members of a source as they are run in the plain form: one for one. The sources of their inputs are given by the
-- places that the outputs have there.
pub record IsPlainRun (members : List EventMember) (run : Composition) : Type 0 where
  pub members_are : run.members ≡ map (plain_member (flat_map shape_of members)) members
  pub wired : AllByRecursion (IsWired (flat_map shape_of members)) members

abbrev pub StatesFit : List EventMember → List (List ℤ) → Type 0
StatesFit members states = AllZip (λ one state. length state ≡ length one.member.component.unit.states) members states

-- A port assignment of the plain form, read as signals, is one of the source.
abbrev pub AssignmentsAreRead : Type 0
AssignmentsAreRead =
    (members : List EventMember) (run : Composition) (states : List (List ℤ)) (ports : Ports) → IsPlainRun members run → StatesFit members states
    → IsAssignment run states ports
    → AreTidy (flat_map shape_of members) ports × IsEventAssignment members states (read_ports (flat_map shape_of members) ports)

-- Conversely, each port assignment of the source is one of the plain form, read as signals.
pub record IsReadOf (members : List EventMember) (run : Composition) (states : List (List ℤ)) (signals : Signals) : Type 0 where
  pub ports : Ports
  pub assignment : IsAssignment run states ports
  pub read : read_ports (flat_map shape_of members) ports ≡ signals

abbrev pub EventAssignmentsAreRead : Type 0
EventAssignmentsAreRead =
    (members : List EventMember) (run : Composition) (states : List (List ℤ)) (signals : Signals) → IsPlainRun members run → StatesFit members states
    → IsEventAssignment members states signals → IsReadOf members run states signals

-- So the source has exactly one port assignment, if the places of the plain form have an order.
pub record HasOneEventAssignment (members : List EventMember) (states : List (List ℤ)) : Type 0 where
  pub signals : Signals
  pub is_assignment : IsEventAssignment members states signals
  pub is_only : (other : Signals) → IsEventAssignment members states other → other ≡ signals

abbrev pub EventAssignmentsAreUnique : Type 0
EventAssignmentsAreUnique =
    (members : List EventMember) (run : Composition) (order : List ℕ) (states : List (List ℤ)) → IsPlainRun members run → IsPlaceOrder run order
    → StatesFit members states → HasOneEventAssignment members states

-- ---- How a run goes on

-- The successor depends only on the results of the members' calls.
abbrev pub SuccessorsAreByOffers : Type 0
SuccessorsAreByOffers = (run : Composition) (at : Position) (ports : Ports) → successor run at ports ≡ next_by (pace_of run) at (offers_of run at ports)

-- It is the same where the results are the same.
abbrev pub SameOffersLeadOn : Type 0
SameOffersLeadOn =
    (pace : Pace) (at : Position) (one other : Offers) → one.fault ≡ other.fault → one.limits ≡ other.limits → ((h : ℕ) → one.steps h ≡ other.steps h)
    → next_by pace at one ≡ next_by pace at other

-- Where no output is undefined, the results of the members' calls in the source are those in the plain form.
pub record GiveTheSame (members : List EventMember) (run : Composition) (at : Position) (ports : Ports) : Type 0 where
  pub limits : (offers_of run at ports).limits ≡ (event_offers members at (read_ports (flat_map shape_of members) ports)).limits
  pub steps : (h : ℕ) → (offers_of run at ports).steps h ≡ (event_offers members at (read_ports (flat_map shape_of members) ports)).steps h

abbrev pub MembersGiveTheSame : Type 0
MembersGiveTheSame =
    (members : List EventMember) (run : Composition) (at : Position) (ports : Ports) → IsPlainRun members run → StatesFit members at.states
    → AreTidy (flat_map shape_of members) ports → list_all is_some ports ≡ true → GiveTheSame members run at ports

-- The port fault of the source is that of the plain form, where the two ports of an event output count as one.
abbrev pub FaultsAreRead : Type 0
FaultsAreRead =
    (members : List EventMember) (run : Composition) (states : List (List ℤ)) (ports : Ports) → IsPlainRun members run → StatesFit members states
    → AreTidy (flat_map shape_of members) ports
    → event_port_fault members states (read_ports (flat_map shape_of members) ports) ≡ option_map (read_ending members) (port_fault run states ports)

-- ---- Traces

-- The trace of a plain form, read as signals, is that of the source: the same positions, and the same ending.
abbrev pub TracesAreRead : Type 0
TracesAreRead =
    (members : List EventMember) (run : Composition) (order : List ℕ) (stands : List Stand) (ending : Ending) → IsPlainRun members run → AreMembers run
    → IsPlaceOrder run order → IsTrace run stands ending
    → IsEventTrace (record { members = members; pace = pace_of run }) (map (read_stand members) stands) (read_ending members ending)

-- So the source has exactly one trace, if the places of its plain form have an order.
pub record HasOneEventTrace (run : EventRun) : Type 0 where
  pub stands : List EventStand
  pub ending : Ending
  pub is_trace : IsEventTrace run stands ending
  pub is_only : (other : List EventStand) (end : Ending) → IsEventTrace run other end → (other ≡ stands) × (end ≡ ending)

abbrev pub SourcesHaveOneTrace : Type 0
SourcesHaveOneTrace =
    (members : List EventMember) (run : Composition) (order : List ℕ) → IsPlainRun members run → AreMembers run → IsPlaceOrder run order
    → HasOneEventTrace (record { members = members; pace = pace_of run })

-- The rows of a trace of the plain form, read as signals, are those of the source.
abbrev pub RowsAreRead : Type 0
RowsAreRead =
    (members : List EventMember) (run : Composition) (order : List ℕ) (stands : List Stand) (ending : Ending) → IsPlainRun members run → AreMembers run
    → IsPlaceOrder run order → IsTrace run stands ending
    → event_rows_of (record { members = members; pace = pace_of run }) (map (read_stand members) stands) ≡ map (read_row members) (rows_of run stands)

-- ---- Systems

-- The members of the plain form are the plain forms of the system's members.
abbrev pub MembersArePlain : Type 0
MembersArePlain = (system : System) → IsRanged system → IsWellFormed system → IsPlainRun (event_members_of system) (run_of system)

-- A system without a cycle has exactly one port assignment for any states.
abbrev pub SystemsHaveOneEventAssignment : Type 0
SystemsHaveOneEventAssignment =
    (system : System) → IsRanged system → IsWellFormed system → HasNoCycle system
    → (states : List (List ℤ)) → StatesFit (event_members_of system) states → HasOneEventAssignment (event_members_of system) states

-- The trace of the plain form, read as signals, is that of the system.
abbrev pub PlainFormsTellTheTrace : Type 0
PlainFormsTellTheTrace =
    (system : System) → IsRanged system → IsWellFormed system → HasNoCycle system
    → (rows : List Row) (last : Point) (ending : Ending) → IsTraceOf system rows last ending
    → IsEventTraceOf system (read_rows system rows) last (read_end system ending)

-- Each row of the plain form's trace has one word for each plain output, and for each event output 1 and its word, or 0
-- and 0.
abbrev pub RowsHaveShape : Type 0
RowsHaveShape =
    (system : System) → IsRanged system → IsWellFormed system → HasNoCycle system
    → (rows : List Row) (last : Point) (ending : Ending) → IsTraceOf system rows last ending
    → AllByRecursion (λ row. HasShape (system_shape system) row.words) rows

-- A system in range that is well-formed and has no cycle has exactly one trace.
abbrev pub SourcesHaveOneOutcome : Type 0
SourcesHaveOneOutcome = (system : System) → IsRanged system → IsWellFormed system → HasNoCycle system → HasOneEventTraceOf system
