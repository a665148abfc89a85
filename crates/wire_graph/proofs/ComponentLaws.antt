-- The components of a system without event ports: their outputs are those of the system, and with the sources of their inputs
-- they are its members.
use Rattle.std.proofs.Common.{◌≡◌, true, false, List, [], ◌∷◌, ◌++◌, map, Option, Some, None, refl, ap, sym, subst, ◌∙◌, append-nil}
use Rattle.std.specs.Prelude.{zip}
use Rattle.std.specs.List.{AllByRecursion, AllZip, flat_map, filter_map, cons_option}
use Rattle.unit_tree.specs.Compositions.{InputSource, HasNoEvents, source_of, member_with, members_of}
use Rattle.unit_tree.specs.Names.{Port, output_ports, unit_of_instance}
use Rattle.unit_tree.specs.Orders.{port_of, outputs_in, outputs_of}
use Rattle.unit_tree.specs.declared.system.Instance.{Instance}
use Rattle.unit_tree.specs.declared.system.PortName.{PortName}
use Rattle.unit_tree.specs.declared.system.System.{System}
use Rattle.unit_tree.specs.declared.unit.EventOut.{EventOut}
use Rattle.unit_tree.specs.declared.unit.Input.{Input}
use Rattle.unit_tree.specs.declared.unit.Output.{Output}
use Rattle.unit_tree.specs.declared.unit.Unit.{Unit}
use Rattle.run_laws.proofs.PlainOrders.{named_has}
use Rattle.wire_graph.specs.Origins.{HaveDecimals, input_of, member_of}
use Rattle.wire_graph.specs.Wiring.{Named, named_of, named_with, components_in, port_named, output_ports_of, outputs_named}
use Rattle.wire_graph.specs.declared.components.Component.{Component}
use Rattle.wire_graph.proofs.RoutingLaws.{IsWiredAs}
use Rattle.list_laws.proofs.Members.{Has, each_has}

module _ (system : System) where
  abbrev component_of : Instance → Option Named
  component_of instance = named_with instance.name (unit_of_instance system instance)

  -- ---- Their outputs

  module _ (plain : HasNoEvents system) where
    abbrev ports_with : Instance → List Port → List PortName
    ports_with instance ports = map (λ (port : Port). port_of instance port.name) ports

    of_outputs : (instance : Instance) (outputs : List Output)
        → map (λ (output : Output). port_named instance.name output.name) outputs
        ≡ ports_with instance (map (λ (output : Output). record { name = output.name; ty = output.ty; is_event = false; needs = output.needs }) outputs)
    of_outputs instance [] = refl
    of_outputs instance (output ∷ outputs) = ap (λ rest. port_named instance.name output.name ∷ rest) (of_outputs instance outputs)

    abbrev event_ports : List EventOut → List Port
    event_ports events = map (λ (event : EventOut). record { name = event.name; ty = event.ty; is_event = true; needs = event.needs }) events

    of_unit : (instance : Instance) (unit : Unit) → Has system.units unit → output_ports_of (instance.name, unit) ≡ ports_with instance (output_ports unit)
    of_unit instance unit has =
        let plain_ports = map (λ (output : Output). record { name = output.name; ty = output.ty; is_event = false; needs = output.needs }) unit.outputs in
        of_outputs instance unit.outputs
        ∙ ap (ports_with instance) (sym (append-nil plain_ports))
        ∙ ap (λ events. ports_with instance (plain_ports ++ event_ports events))
        (sym (each_has (λ (u : Unit). (u.events_in ≡ []) × (u.events_out ≡ [])) system.units unit plain has).1)

    outputs_by : (instance : Instance) (given : Option Unit) (components : List Named) (rest : List PortName) → unit_of_instance system instance ≡ given
        → outputs_named components ≡ rest
        → outputs_named (cons_option (named_with instance.name given) components) ≡ ports_with instance (outputs_in given) ++ rest
    outputs_by instance None components rest given_is later = later
    outputs_by instance (Some unit) components rest given_is later =
        ap (λ front. front ++ outputs_named components) (of_unit instance unit (named_has system.units instance.unit unit given_is))
        ∙ ap (λ behind. ports_with instance (output_ports unit) ++ behind) later

    outputs_of_all : (instances : List Instance)
        → outputs_named (filter_map component_of instances)
        ≡ flat_map (λ instance. ports_with instance (outputs_in (unit_of_instance system instance))) instances
    outputs_of_all [] = refl
    outputs_of_all (instance ∷ instances) =
        outputs_by instance (unit_of_instance system instance) (filter_map component_of instances) _ refl (outputs_of_all instances)

    pub outputs_are : outputs_named (components_in system) ≡ outputs_of system
    outputs_are = outputs_of_all system.instances

  -- ---- Their inputs

  inputs_beside : (instance : Instance) (inputs : List Input) → map (input_of system instance.name) inputs ≡ zip inputs (map (source_of system instance) inputs)
  inputs_beside instance [] = refl
  inputs_beside instance (input ∷ inputs) = ap (λ rest. input_of system instance.name input ∷ rest) (inputs_beside instance inputs)

  sources_beside : (instance : Instance) (inputs : List Input)
      → map (λ (one : Input × InputSource). one.1) (map (input_of system instance.name) inputs) ≡ map (source_of system instance) inputs
  sources_beside instance [] = refl
  sources_beside instance (input ∷ inputs) = ap (λ rest. source_of system instance input ∷ rest) (sources_beside instance inputs)

  wired_all : (instances : List Instance)
      → AllZip IsWiredAs (filter_map (λ instance. member_with system instance (unit_of_instance system instance)) instances)
      (map (member_of system) (filter_map component_of instances))
  wired_all [] = tt
  wired_all (instance ∷ instances) = by (unit_of_instance system instance) (wired_all instances)
    where
      by : (given : Option Unit)
          → AllZip IsWiredAs (filter_map (λ one. member_with system one (unit_of_instance system one)) instances)
          (map (member_of system) (filter_map component_of instances))
          → AllZip IsWiredAs
          (cons_option (member_with system instance given) (filter_map (λ one. member_with system one (unit_of_instance system one)) instances))
          (map (member_of system) (cons_option (named_with instance.name given) (filter_map component_of instances)))
      by None later = later
      by (Some unit) later = ((refl, inputs_beside instance unit.inputs, sources_beside instance unit.inputs), later)

  pub wired_members : AllZip IsWiredAs (members_of system) (map (member_of system) (components_in system))
  wired_members = wired_all system.instances

  -- ---- The types of their inputs

  module _ (decimals : AllByRecursion (λ (unit : Unit). HaveDecimals unit.inputs) system.units) where
    decimals_of_all : (instances : List Instance) → AllByRecursion (λ (component : Named). HaveDecimals component.1.inputs) (filter_map component_of instances)
    decimals_of_all [] = tt
    decimals_of_all (instance ∷ instances) = by (unit_of_instance system instance) refl (decimals_of_all instances)
      where
        by : (given : Option Unit) → unit_of_instance system instance ≡ given
            → AllByRecursion (λ (component : Named). HaveDecimals component.1.inputs) (filter_map component_of instances)
            → AllByRecursion (λ (component : Named). HaveDecimals component.1.inputs)
            (cons_option (named_with instance.name given) (filter_map component_of instances))
        by None is later = later
        by (Some unit) is later =
            (each_has (λ (u : Unit). HaveDecimals u.inputs) system.units unit decimals (named_has system.units instance.unit unit is), later)

    of_named : (components : List Component) → AllByRecursion (λ (component : Named). HaveDecimals component.1.inputs) (map named_of components)
        → AllByRecursion (λ (component : Component). HaveDecimals component.unit.now.inputs) components
    of_named [] all = tt
    of_named (component ∷ components) all = (all.0, of_named components all.1)

    pub components_decimals : (components : List Component) → map named_of components ≡ components_in system
        → AllByRecursion (λ (component : Component). HaveDecimals component.unit.now.inputs) components
    components_decimals components are =
        of_named components (subst (AllByRecursion (λ (component : Named). HaveDecimals component.1.inputs)) (sym are) (decimals_of_all system.instances))
