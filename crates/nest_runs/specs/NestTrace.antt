-- The trace of a nest: port assignments in which the ports of groups have values too, and the traces with these.
use Rattle.std.specs.List.{flat_map, filter_map, enumerate_from}
use Rattle.std.specs.Option.{unwrap_or}
use Rattle.std.specs.Prelude.{◌≡◌, ◌⊎◌, ◌+◌, ℕ, ℤ, List, [], ◌∷◌, ◌++◌, map, length, Option, Some, None, IsSome}
use Rattle.super_time.specs.declared.point.Point.{Point}
use Rattle.unit_tree.specs.Components.{start_word}
use Rattle.unit_tree.specs.Compositions.{AtPlace}
use Rattle.unit_tree.specs.Names.{unit_of_instance}
use Rattle.unit_tree.specs.Orders.{outputs_of, port_of}
use Rattle.unit_tree.specs.Successor.{Position, Next, goes, ends}
use Rattle.unit_tree.specs.declared.ending.Ending.{Ending}
use Rattle.unit_tree.specs.declared.system.Instance.{Instance}
use Rattle.unit_tree.specs.declared.system.System.{System}
use Rattle.unit_tree.specs.declared.unit.EventIn.{EventIn}
use Rattle.unit_tree.specs.declared.unit.Input.{Input}
use Rattle.unit_tree.specs.declared.unit.Unit.{Unit}
use Rattle.event_runs.specs.EventPorts.{Signals, EventMember, event_sides}
use Rattle.event_runs.specs.EventRuns.{event_members_of, event_pace}
use Rattle.event_runs.specs.EventTrace.{EventRun, EventRow, event_port_fault, event_row_unless, event_successor, first_event_position}
use Rattle.event_runs.specs.Events.{Signal, Occurs, Absent}
use Rattle.nest_text.specs.declared.nest.Nest.{Nest}
use Rattle.nest_names.specs.Flattening.{leaves, levels, top}
use Rattle.nest_runs.specs.NestPorts.{NestPort, OfComponent, Connects, LeadsIn, LeadsOut}

-- ---- What is run

-- The components of a nest, depth first, as a system of their own, without connections.
abbrev pub components_of : Nest → System
components_of nest = record nest.main { instances = leaves nest levels top; wires = []; samples = [] }

-- A member whose inputs, plain ones first, read the places from `first` on. Here a place is that of an input in a list
-- of all inputs' values.
abbrev pub reading_from : ℕ → EventMember → EventMember
reading_from first one = record {
  member = record one.member { sources = map (λ counted. AtPlace counted.0) (enumerate_from first one.member.component.unit.inputs) };
  feeds =
      map (λ counted. Some counted.0)
      (enumerate_from (first + length one.member.component.unit.inputs) one.member.component.unit.events_in);
}

abbrev pub count_of_inputs : EventMember → ℕ
count_of_inputs one = length one.member.component.unit.inputs + length one.member.component.unit.events_in

-- Members whose inputs each read a place of their own, in order.
abbrev pub reading_in_order : ℕ → List EventMember → List EventMember
reading_in_order first [] = []
reading_in_order first (one ∷ others) = reading_from first one ∷ reading_in_order (first + count_of_inputs one) others

-- The components of a nest as they are run. Their inputs don't read the values of outputs, but those that a port
-- assignment gives to the inputs themselves.
abbrev pub nest_members : Nest → List EventMember
nest_members nest = reading_in_order 0 (event_members_of (components_of nest))

abbrev pub nest_run_of : Nest → EventRun
nest_run_of nest = record { members = nest_members nest; pace = event_pace (components_of nest) (nest_members nest) }

-- ---- The values of ports

-- For each output a signal, or nothing where it is undefined; and for each input that is connected the same for its
-- source.
pub record PortValues : Type 0 where
  pub outs : NestPort → Option Signal
  pub ins : NestPort → Option (Option Signal)

-- The values at the inputs of components: an input that isn't connected has its start word, and such an event input is
-- absent.
abbrev pub plain_input : PortValues → Instance → Input → Option Signal
plain_input values instance input = unwrap_or (values.ins (OfComponent (port_of instance input.name)))
    (Some (Occurs (start_word input.ty input.start)))

abbrev pub event_input : PortValues → Instance → EventIn → Option Signal
event_input values instance event = unwrap_or (values.ins (OfComponent (port_of instance event.name))) (Some Absent)

abbrev pub inputs_of : PortValues → Instance → Option Unit → Signals
inputs_of values instance None = []
inputs_of values instance (Some unit) = map (plain_input values instance) unit.inputs ++ map (event_input values instance) unit.events_in

abbrev pub input_signals : Nest → PortValues → Signals
input_signals nest values =
    flat_map (λ instance. inputs_of values instance (unit_of_instance (components_of nest) instance)) (components_of nest).instances

-- The values at the outputs of components.
abbrev pub output_signals : Nest → PortValues → Signals
output_signals nest values = map (λ port. values.outs (OfComponent port)) (outputs_of (components_of nest))

-- ---- Port assignments

-- A connection ends at an input, or an `in` line leads there from an input that is connected.
abbrev pub IsFed : Nest → PortValues → NestPort → Type 0
IsFed nest values to =
    ((from : NestPort) × Connects nest from to) ⊎ ((outer : NestPort) × LeadsIn nest outer to × IsSome (values.ins outer))

-- Values follow the lines of a nest. An output of a group has the value of the inner one, a connected input that of its
-- source, and an inner input that of its group's input if this is connected. No other input is connected.
pub record AreCarried (nest : Nest) (values : PortValues) : Type 0 where
  pub out : (outer inner : NestPort) → LeadsOut nest outer inner → values.outs outer ≡ values.outs inner
  pub connected : (from to : NestPort) → Connects nest from to → values.ins to ≡ Some (values.outs from)
  pub within : (outer inner : NestPort) (given : Option Signal) → LeadsIn nest outer inner → values.ins outer ≡ Some given
      → values.ins inner ≡ Some given
  pub fed : (to : NestPort) (given : Option Signal) → values.ins to ≡ Some given → IsFed nest values to

-- The values are a port assignment for the states: each output of a component has the signal that its equation gives.
pub record IsNestAssignment (nest : Nest) (states : List (List ℤ)) (values : PortValues) : Type 0 where
  pub carried : AreCarried nest values
  pub leaves : output_signals nest values ≡ event_sides (nest_members nest) states (input_signals nest values)

-- ---- The trace

pub record NestStand : Type 0 where
  pub at : Position
  pub values : PortValues

abbrev pub IsNestStand : Nest → NestStand → Type 0
IsNestStand nest stand = IsNestAssignment nest stand.at.states stand.values

abbrev pub nest_successor : Nest → NestStand → Next
nest_successor nest stand = event_successor (nest_run_of nest) stand.at (input_signals nest stand.values)

abbrev pub NestFollows : Nest → NestStand → List NestStand → Ending → Type 0
NestFollows nest one [] ending = nest_successor nest one ≡ ends ending
NestFollows nest one (next ∷ others) ending = (nest_successor nest one ≡ goes next.at) × IsNestStand nest next × NestFollows nest next others ending

abbrev pub IsNestTrace : Nest → List NestStand → Ending → Type 0
IsNestTrace nest [] ending = ⊥
IsNestTrace nest (first ∷ others) ending =
    (first.at ≡ first_event_position (nest_run_of nest)) × IsNestStand nest first × NestFollows nest first others ending

-- The row of a stand: its point, and the signals of the components' outputs there. A stand with a port fault has none.
abbrev pub row_of_stand : Nest → NestStand → Option EventRow
row_of_stand nest stand =
    event_row_unless (event_port_fault (nest_members nest) stand.at.states (input_signals nest stand.values)) stand.at.point
    (output_signals nest stand.values)

abbrev pub last_nest_point : List NestStand → Point
last_nest_point [] = record { t = 0; n = 0 }
last_nest_point (stand ∷ []) = stand.at.point
last_nest_point (stand ∷ later ∷ others) = last_nest_point (later ∷ others)

-- The rows are those of a trace of the nest, `last` is the point at which it ends, and `ending` is its end.
pub record IsNestTraceOf (nest : Nest) (rows : List EventRow) (last : Point) (ending : Ending) : Type 0 where
  pub stands : List NestStand
  pub trace : IsNestTrace nest stands ending
  pub rows_are : rows ≡ filter_map (row_of_stand nest) stands
  pub last_is : last ≡ last_nest_point stands

-- The nest has exactly one list of rows, one last point and one ending.
pub record HasOneNestTraceOf (nest : Nest) : Type 0 where
  pub rows : List EventRow
  pub last : Point
  pub ending : Ending
  pub is_trace : IsNestTraceOf nest rows last ending
  pub is_only : (others : List EventRow) (point : Point) (end : Ending) → IsNestTraceOf nest others point end
      → (others ≡ rows) × (point ≡ last) × (end ≡ ending)
