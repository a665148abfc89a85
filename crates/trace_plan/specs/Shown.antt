-- Outputs of the plain form, by their numbers and places.
use Rattle.std.specs.Prelude.{◌≡◌, Bool, ℕ, ◌+◌, ◌≤◌, ◌<◌, ◌^◌, List, [], ◌∷◌, map, length, Option, Some, None, slice_get}
use Rattle.std.specs.List.{position_or_len}
use Rattle.std.specs.Str.{bytes_eq}
use Rattle.model_rules.specs.Limits.{instance_limit, output_limit}
use Rattle.fixed_words.specs.declared.types.Ty.{Ty}
use Rattle.trace_csv.specs.Columns.{instance_number, output_number}
use Rattle.unit_tree.specs.Compositions.{place_of}
use Rattle.unit_tree.specs.Names.{Port, unit_of_instance}
use Rattle.unit_tree.specs.Orders.{port_of, outputs_in}
use Rattle.unit_tree.specs.declared.system.Column.{Column}
use Rattle.unit_tree.specs.declared.system.Instance.{Instance}
use Rattle.unit_tree.specs.declared.system.PortName.{PortName}
use Rattle.unit_tree.specs.declared.system.System.{System}
use Rattle.unit_tree.specs.declared.unit.EventOut.{EventOut}
use Rattle.unit_tree.specs.declared.unit.Output.{Output}
use Rattle.unit_tree.specs.declared.unit.Unit.{Unit}
use Rattle.wire_graph.specs.Wiring.{port_named}

-- How many outputs a unit without event ports has, where it is declared.
abbrev pub output_count : Option Unit → ℕ
output_count None = 0
output_count (Some unit) = length unit.outputs

-- The place of the first output of each instance, after so many outputs.
abbrev pub starts_from : System → ℕ → List Instance → List ℕ
starts_from system count [] = []
starts_from system count (instance ∷ instances) =
    count ∷ starts_from system (count + output_count (unit_of_instance system instance)) instances

-- Each instance has at most 32 outputs.
abbrev pub FewOutputs : System → Type 0
FewOutputs system = (instance : Instance) → output_count (unit_of_instance system instance) ≤ output_limit

-- The port names an output of the system: its instance has a unit, and its place is that of the first output of the instance
-- plus its number.
pub record IsPlaced (system : System) (starts : List ℕ) (port : PortName) : Type 0 where
  pub instance : Instance
  pub unit : Unit
  pub start : ℕ
  pub is_instance : slice_get system.instances (instance_number system port) ≡ Some instance
  pub is_unit : unit_of_instance system instance ≡ Some unit
  pub is_start : slice_get starts (instance_number system port) ≡ Some start
  pub number : output_number system port ≡ position_or_len (λ output. bytes_eq output.name port.port) unit.outputs
  pub place : place_of system port ≡ start + output_number system port
  pub few_instances : instance_number system port < instance_limit
  pub few_outputs : output_number system port < output_limit
  pub few_places : place_of system port < 2 ^ 11

-- The column of an output of a system without event ports.
abbrev pub plain_column : System → PortName → Ty → Bool → Column
plain_column system port ty event = record {
  instance = instance_number system port;
  output = output_number system port;
  place = place_of system port;
  ty = ty;
  event = event;
}

-- The plain outputs and the event outputs of an instance, under its name.
abbrev pub outputs_called : List ℕ → List Output → List PortName
outputs_called instance outputs = map (λ output. port_named instance output.name) outputs

abbrev pub events_called : List ℕ → List EventOut → List PortName
events_called instance events = map (λ event. port_named instance event.name) events

-- All outputs of an instance, by declaration.
abbrev pub ports_of : System → Instance → List PortName
ports_of system instance = map (λ output. port_of instance output.name) (outputs_in (unit_of_instance system instance))

-- The type of a port, and whether it is an event port.
abbrev pub type_and_event : Port → Ty × Bool
type_and_event port = (port.ty, port.is_event)
