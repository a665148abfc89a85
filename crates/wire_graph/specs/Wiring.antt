-- Connections by numbers: what the routes of a composition are made from.
use Rattle.std.specs.Prelude.{ℕ, List, map, Option, Some, None}
use Rattle.std.specs.Borrow.{Bor}
use Rattle.std.specs.List.{flat_map, filter_map}
use Rattle.unit_tree.specs.Names.{unit_of_instance}
use Rattle.unit_tree.specs.declared.system.PortName.{PortName}
use Rattle.unit_tree.specs.declared.system.System.{System}
use Rattle.unit_tree.specs.declared.system.Wire.{Wire}
use Rattle.unit_tree.specs.declared.unit.Unit.{Unit}
use Rattle.wire_graph.specs.declared.components.Component.{Component}

-- ---- Components and their ports

-- A component: the name of an instance, with its unit.
abbrev pub Named : Type 0
Named = List ℕ × Unit

-- The component, from its references in the code.
abbrev pub named_of : Component → Named
named_of component = (component.name.now, component.unit.now)

-- The name with the unit, where there is one.
abbrev pub named_with : List ℕ → Option Unit → Option Named
named_with name None = None
named_with name (Some unit) = Some (name, unit)

-- The components of a system, in the order of its instances. An instance of a unit that is not declared is left out.
abbrev pub components_in : System → List Named
components_in system = filter_map (λ instance. named_with instance.name (unit_of_instance system instance)) system.instances

-- The port with two names.
abbrev pub port_named : List ℕ → List ℕ → PortName
port_named instance port = record { instance = instance; port = port }

-- A port, from the references to its two names.
abbrev pub port_with : Bor (List ℕ) × Bor (List ℕ) → PortName
port_with names = port_named names.0.now names.1.now

-- The outputs of a component, in the order of declaration.
abbrev pub output_ports_of : Named → List PortName
output_ports_of component = map (λ output. port_named component.0 output.name) component.1.outputs

-- All outputs of components.
abbrev pub outputs_named : List Named → List PortName
outputs_named components = flat_map output_ports_of components

-- The inputs at which connections end.
abbrev pub targets_of : List Wire → List PortName
targets_of wires = map (λ wire. wire.to) wires
