-- The sources of inputs, found by tables of names.
use Rattle.std.specs.Prelude.{◌≡◌, ℕ, List, map, length}
use Rattle.std.specs.Borrow.{Bor}
use Rattle.std.specs.List.{AllByRecursion, position_from}
use Rattle.fixed_words.specs.Types.{AreDecimals}
use Rattle.indexmap.specs.IndexMap.{IndexMap, get_by}
use Rattle.unit_tree.specs.Compositions as run
use Rattle.unit_tree.specs.Compositions.{InputSource, source_from}
use Rattle.unit_tree.specs.Names.{same_port}
use Rattle.unit_tree.specs.Orders.{outputs_of, sources_of}
use Rattle.unit_tree.specs.declared.system.PortName.{PortName}
use Rattle.unit_tree.specs.declared.system.System.{System}
use Rattle.unit_tree.specs.declared.system.Wire.{Wire}
use Rattle.unit_tree.specs.declared.unit.Input.{Input}
use Rattle.unit_tree.specs.declared.unit.Unit.{Unit}
use Rattle.wire_graph.specs.Wiring.{Named, port_with, port_named, targets_of}
use Rattle.wire_graph.specs.declared.origins.Member.{Member}
use Rattle.wire_graph.specs.declared.origins.Origin.{Origin}
use Rattle.wire_graph.specs.declared.origins.Origin.TheVariants.{Start, AtPlace}
use Rattle.wire_graph.specs.declared.origins.OriginTables.{OriginTables}
use Rattle.wire_graph.specs.declared.origins.WiredInput.{WiredInput}

-- A table has for each port its first place in a list.
abbrev pub FindsPortPlaces : {S : Type 0} → List PortName → IndexMap (Bor (List ℕ) × Bor (List ℕ)) ℕ S → Type 0
FindsPortPlaces ports table = (key : Bor (List ℕ) × Bor (List ℕ))
    → get_by (λ other. same_port (port_with key) (port_with other)) table ≡ position_from (same_port (port_with key)) 0 ports

-- The tables of a system: the places of its outputs, and the connections by the inputs at which they end.
pub record AreTables (system : System) (tables : OriginTables) : Type 0 where
  pub places : FindsPortPlaces (outputs_of system) tables.places
  pub count : tables.count ≡ length (outputs_of system)
  pub targets : FindsPortPlaces (targets_of system.wires) tables.targets

-- The types of inputs have at most nine decimals.
abbrev pub HaveDecimals : List Input → Type 0
HaveDecimals inputs = AllByRecursion (λ input. AreDecimals input.ty) inputs

-- The output from which a connection comes.
abbrev pub source_behind : Bor Wire → PortName
source_behind wire = wire.now.from

-- The source of an input, from its origin.
abbrev pub origin_of : Origin → InputSource
origin_of (Start word) = run.Start word
origin_of (AtPlace place) = run.AtPlace place

-- An input with its source.
abbrev pub wired_input : WiredInput → Input × InputSource
wired_input wired = (wired.input.now, origin_of wired.origin)

-- The same for an instance by its name.
abbrev pub input_of : System → List ℕ → Input → Input × InputSource
input_of system name input = (input, source_from system input (sources_of system (port_named name input.name)))

-- A component with the sources of its inputs, from which its routes are made.
abbrev pub member_behind : Member → Unit × List (Input × InputSource)
member_behind member = (member.unit.now, map wired_input member.inputs.items)

-- The same for a component of the system.
abbrev pub member_of : System → Named → Unit × List (Input × InputSource)
member_of system component = (component.1, map (input_of system component.0) component.1.inputs)
