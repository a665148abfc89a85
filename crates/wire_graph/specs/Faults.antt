-- The output that has no order, by numbers.
use Rattle.std.specs.Prelude.{◌≡◌, ℕ, slice_get, Some, ⊤}
use Rattle.unit_tree.specs.Orders.{IsFirstWithoutOrder}
use Rattle.unit_tree.specs.Plain.{plain_form}
use Rattle.unit_tree.specs.declared.order.Route.{Route}
use Rattle.unit_tree.specs.declared.order.Routes.{Routes}
use Rattle.unit_tree.specs.declared.system.PortName.{PortName}
use Rattle.unit_tree.specs.declared.system.System.{System}
use Rattle.unit_tree.specs.declared.unit.Output.{Output}
use Rattle.wire_graph.specs.Wiring.{Named, port_named, components_in}
use Rattle.wire_graph.specs.declared.fault.OrderFault.{OrderFault}
use Rattle.wire_graph.specs.declared.fault.OrderFault.TheVariants.{Loop, NoMemory}

-- The output of a system without event ports with these two numbers, which count from 0: that of its instance, and
-- its own in its unit. Only instances whose unit is declared count, which in a well-formed system all are.
pub record IsNumbered (system : System) (instance output : ℕ) (port : PortName) : Type 0 where
  pub component : Named
  pub declared : Output
  pub is_instance : slice_get (components_in system) instance ≡ Some component
  pub is_output : slice_get component.1.outputs output ≡ Some declared
  pub is : port_named component.0 declared.name ≡ port

-- The numbers name some output.
abbrev pub NamesOutput : System → ℕ → ℕ → Type 0
NamesOutput system instance output = (port : PortName) × IsNumbered system instance output port

-- The numbers name the first output of the plain form that has no order. `NoMemory` is always allowed.
abbrev pub IsRightFault : System → OrderFault → Type 0
IsRightFault system (Loop instance output) =
    (port : PortName) × IsNumbered (plain_form system) instance output port × IsFirstWithoutOrder (plain_form system) port
IsRightFault system NoMemory = ⊤

-- The fault has the numbers of the output at a place.
abbrev pub IsAtPlace : Routes → ℕ → OrderFault → Type 0
IsAtPlace routes place (Loop instance output) =
    (route : Route) × (slice_get routes.outputs place ≡ Some route) × (route.instance ≡ instance) × (route.output ≡ output)
IsAtPlace routes place NoMemory = ⊥
