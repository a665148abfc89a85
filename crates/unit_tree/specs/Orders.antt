-- Orders of outputs: if the port graph of a system has no cycle, there is an order in which each output comes
-- after all that it depends on. This is rule 15, which is judged last.
use Rattle.std.specs.Prelude.{◌≡◌, ℕ, Bool, false, ◌&&◌, List, [], ◌∷◌, ◌++◌, map, Option, Some, None, ◌⊎◌, ⊤, if◌then◌else◌}
use Rattle.std.specs.List.{AllByRecursion, flat_map, filter_map, find, enumerate_from}
use Rattle.std.specs.Option.{option_map}
use Rattle.std.specs.Str.{bytes_eq}
use Rattle.unit_tree.specs.Names.{Port, output_ports, unit_of_instance, unit_at, output_at, same_port}
use Rattle.unit_tree.specs.Sites.{Scope, UnitScope, sites_of}
use Rattle.unit_tree.specs.declared.line_form.LineForm.{LineForm}
use Rattle.unit_tree.specs.declared.line_form.LineForm.TheVariants as form
use Rattle.unit_tree.specs.declared.system.Instance.{Instance}
use Rattle.unit_tree.specs.declared.system.PortName.{PortName}
use Rattle.unit_tree.specs.declared.system.System.{System}
use Rattle.unit_tree.specs.declared.system.Wire.{Wire}
use Rattle.unit_tree.specs.declared.unit.Unit.{Unit}

abbrev pub port_of : Instance → List ℕ → PortName
port_of instance port = record { instance = instance.name; port = port }

abbrev pub outputs_in : Option Unit → List Port
outputs_in None = []
outputs_in (Some unit) = output_ports unit

-- All outputs of a system, by instance and then by declaration, with event outputs after the plain ones.
abbrev pub outputs_of : System → List PortName
outputs_of system =
    flat_map (λ instance. map (λ output. port_of instance output.name) (outputs_in (unit_of_instance system instance))) system.instances

-- The output that is connected to an input.
abbrev pub source_if : PortName → Wire → Option PortName
source_if port wire = if same_port wire.to port then Some wire.from else None

abbrev pub sources_of : System → PortName → List PortName
sources_of system port = filter_map (source_if port) system.wires

-- The inputs in the needs of an output.
abbrev pub needs_of : Option Port → List (List ℕ)
needs_of None = []
needs_of (Some output) = output.needs

-- The outputs that an output depends on directly: those that are connected to the inputs in its needs.
abbrev pub needed_by : System → PortName → List PortName
needed_by system port =
    flat_map (λ input. sources_of system (record { instance = port.instance; port = input })) (needs_of (output_at system port))

-- A port is in a list.
abbrev pub IsIn : List PortName → PortName → Type 0
IsIn [] port = ⊥
IsIn (first ∷ others) port = (first ≡ port) ⊎ IsIn others port

-- An output depends on another where it does so directly, or through an output in between.
pub data DependsOn (system : System) : PortName → PortName → Type 0 where
  needs : (port other : PortName) → IsIn (needed_by system port) other → DependsOn system port other
  through : (port between other : PortName) → IsIn (needed_by system port) between → DependsOn system between other → DependsOn system port other

-- A list is orderly after outputs that came before: its elements are outputs of the system, each once and after
-- all that it depends on directly.
abbrev pub IsOrderlyAfter : System → List PortName → List PortName → Type 0
IsOrderlyAfter system before [] = ⊤
IsOrderlyAfter system before (port ∷ later) =
    IsIn (outputs_of system) port
    × (IsIn before port → ⊥)
    × AllByRecursion (IsIn before) (needed_by system port)
    × IsOrderlyAfter system (before ++ (port ∷ [])) later

abbrev pub IsOrderly : System → List PortName → Type 0
IsOrderly system order = IsOrderlyAfter system [] order

-- The system has no cycle: there is an orderly list of all its outputs.
abbrev pub HasNoCycle : System → Type 0
HasNoCycle system = (order : List PortName) × IsOrderly system order × AllByRecursion (IsIn order) (outputs_of system)

-- An output has no order where it is in no orderly list: it is on a cycle, or depends on an output on a cycle.
abbrev pub HasNoOrder : System → PortName → Type 0
HasNoOrder system port = (order : List PortName) → IsOrderly system order → IsIn order port → ⊥

-- The output that rule 15 names: the first that is in no orderly list.
pub record IsFirstWithoutOrder (system : System) (port : PortName) : Type 0 where
  pub before : List PortName
  pub later : List PortName
  pub cut : outputs_of system ≡ before ++ (port ∷ later)
  pub has_no_order : HasNoOrder system port
  pub is_first : AllByRecursion (λ other. HasNoOrder system other → ⊥) before

-- Whether a line is the one that declares the output which a port names, in its unit.
abbrev pub declares_output : List ℕ → Option Unit → Scope → LineForm → Bool
declares_output name (Some unit) (UnitScope other) (form.Output output) = bytes_eq other.name unit.name && bytes_eq output.name name
declares_output name (Some unit) (UnitScope other) (form.EventOutput event) = bytes_eq other.name unit.name && bytes_eq event.name name
declares_output name _ _ _ = false

-- The canonical line of an output, at which rule 15 refuses the system.
abbrev pub line_of_output : System → PortName → Option ℕ
line_of_output system port =
    option_map (λ at. at.0) (find (λ at. declares_output port.port (unit_at system port) at.1.scope at.1.line) (enumerate_from 1 (sites_of system)))
