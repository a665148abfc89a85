-- The outputs of a plain form are those that the outputs of its system become.
use Rattle.std.proofs.Common.{◌≡◌, List, [], ◌∷◌, ◌++◌, map, Option, Some, None, inl, inr, refl, ap, sym, ◌∙◌}
use Rattle.std.proofs.lemmas.Grind.{flat_map-append}
use Rattle.std.specs.List.{flat_map}
use Rattle.std.specs.Option.{option_map}
use Rattle.unit_tree.specs.Names.{Port, output_ports, unit_of_instance}
use Rattle.unit_tree.specs.Orders.{port_of, outputs_in, outputs_of}
use Rattle.unit_tree.specs.Plain.{plain_unit, presence_name}
use Rattle.unit_tree.specs.Printable.{IsRanged}
use Rattle.unit_tree.specs.WellFormed.{IsWellFormed}
use Rattle.unit_tree.specs.declared.system.Instance.{Instance}
use Rattle.unit_tree.specs.declared.system.PortName.{PortName}
use Rattle.unit_tree.specs.declared.system.System.{System}
use Rattle.unit_tree.specs.declared.unit.EventOut.{EventOut}
use Rattle.unit_tree.specs.declared.unit.Output.{Output}
use Rattle.unit_tree.specs.declared.unit.Unit.{Unit}
use Rattle.language_laws.proofs.PlainNames.{of_output, of_event}
use Rattle.run_laws.proofs.PlainOrders.{plain_of, plain_named, plain_ports, ones, twos, names_are, both_names, output_name, split_by, split, splits}
use Rattle.run_laws.proofs.PlainOrders.{is_event_is}
use Rattle.list_laws.proofs.Members.{Has}

made_ports : (instance : Instance) (outputs : List Output)
    → map (λ (port : Port). port_of instance port.name) (map of_output outputs) ≡ map (port_of instance) (map output_name outputs)
made_ports instance [] = refl
made_ports instance (output ∷ outputs) = ap (λ rest. port_of instance output.name ∷ rest) (made_ports instance outputs)

module _ (system : System) (ranged : IsRanged system) (kept : IsWellFormed system) where
  -- What each port of a unit becomes.
  abbrev become : Instance → List Port → List PortName
  become instance ports = flat_map (λ (port : Port). split_by system ranged kept port.is_event (port_of instance port.name)) ports

  events_become : (instance : Instance) (events : List EventOut) → become instance (map of_event events) ≡ map (port_of instance) (flat_map both_names events)
  events_become instance [] = refl
  events_become instance (event ∷ events) =
      ap (λ rest. port_of instance (presence_name event.name) ∷ port_of instance event.name ∷ rest) (events_become instance events)

  ports_become : (instance : Instance) (outputs : List Output) (events : List EventOut)
      → become instance (map of_output outputs ++ map of_event events) ≡ map (port_of instance) (map output_name outputs ++ flat_map both_names events)
  ports_become instance [] events = events_become instance events
  ports_become instance (output ∷ outputs) events = ap (λ rest. port_of instance output.name ∷ rest) (ports_become instance outputs events)

  splits_become : (instance : Instance) (unit : Unit) → Has system.instances instance → unit_of_instance system instance ≡ Some unit → (ports : List Port)
      → ((port : Port) → Has ports port → Has (output_ports unit) port)
      → splits system ranged kept (map (λ (port : Port). port_of instance port.name) ports) ≡ become instance ports
  splits_become instance unit stands is [] inside = refl
  splits_become instance unit stands is (port ∷ ports) inside =
      ap (λ told. split_by system ranged kept told (port_of instance port.name)
      ++ splits system ranged kept (map (λ (p : Port). port_of instance p.name) ports))
      (is_event_is system ranged kept port instance unit stands is (inside port (inl refl)))
      ∙ ap (λ rest. split_by system ranged kept port.is_event (port_of instance port.name) ++ rest)
      (splits_become instance unit stands is ports (λ p has. inside p (inr has)))

  abbrev ports_with : Instance → Option Unit → List PortName
  ports_with instance unit = map (λ (port : Port). port_of instance port.name) (outputs_in unit)

  instance_splits : (instance : Instance) (unit : Option Unit) → Has system.instances instance → unit_of_instance system instance ≡ unit
      → ports_with instance (option_map plain_unit unit) ≡ splits system ranged kept (ports_with instance unit)
  instance_splits instance None stands is = refl
  instance_splits instance (Some unit) stands is =
      ap (map (λ (port : Port). port_of instance port.name)) (plain_ports unit)
      ∙ made_ports instance (ones unit ++ twos unit)
      ∙ ap (map (port_of instance)) (names_are unit unit.outputs unit.events_out)
      ∙ sym (ports_become instance unit.outputs unit.events_out)
      ∙ sym (splits_become instance unit stands is (output_ports unit) (λ port has. has))

  instances_split : (instances : List Instance) → ((instance : Instance) → Has instances instance → Has system.instances instance)
      → flat_map (λ instance. ports_with instance (unit_of_instance (plain_of system) instance)) instances
      ≡ splits system ranged kept (flat_map (λ instance. ports_with instance (unit_of_instance system instance)) instances)
  instances_split [] inside = refl
  instances_split (instance ∷ instances) inside =
      let here : ports_with instance (unit_of_instance (plain_of system) instance)
      ≡ splits system ranged kept (ports_with instance (unit_of_instance system instance)) =
      ap (ports_with instance) (plain_named system.units instance.unit)
      ∙ instance_splits instance (unit_of_instance system instance) (inside instance (inl refl)) refl in
      let later = instances_split instances (λ i has. inside i (inr has)) in
      ap (λ front. front ++ flat_map (λ i. ports_with i (unit_of_instance (plain_of system) i)) instances) here
      ∙ ap (λ rest. splits system ranged kept (ports_with instance (unit_of_instance system instance)) ++ rest) later
      ∙ sym (flat_map-append (split system ranged kept) (ports_with instance (unit_of_instance system instance))
      (flat_map (λ i. ports_with i (unit_of_instance system i)) instances))

  pub outputs_split : outputs_of (plain_of system) ≡ splits system ranged kept (outputs_of system)
  outputs_split = instances_split system.instances (λ instance has. has)
