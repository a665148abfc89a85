-- A system without event ports whose connections join equal types, and whose outputs use only their needs, is sound.
use Rattle.std.proofs.Common.{◌≡◌, ◌∙◌, true, false, List, [], ◌∷◌, ◌++◌, append-nil, map, Option, Some, None, inl, inr, refl, ap, sym, subst}
use Rattle.std.proofs.lemmas.List.{length-map}
use Rattle.std.proofs.lemmas.Option.{same_Some}
use Rattle.std.specs.Prelude.{is_none, slice_get, zip}
use Rattle.std.specs.List.{AllByRecursion, AllZip, flat_map, filter_map, cons_option}
use Rattle.fixed_words.specs.declared.types.Ty.{Ty}
use Rattle.port_solve.specs.Sound.{types_of_places, HaveSameWords, Suits, IsSoundMember, IsSound}
use Rattle.unit_tree.specs.Compositions.{Member, HasNoEvents, component_with, factor_of, place_of, source_from, source_of, member_with, composition_of}
use Rattle.unit_tree.specs.Names.{Port, output_ports, unit_of_instance, output_at}
use Rattle.unit_tree.specs.Orders.{port_of, outputs_in, outputs_of, sources_of}
use Rattle.unit_tree.specs.WellFormed.{uses_other_input}
use Rattle.unit_tree.specs.declared.system.Instance.{Instance}
use Rattle.unit_tree.specs.declared.system.PortName.{PortName}
use Rattle.unit_tree.specs.declared.system.System.{System}
use Rattle.unit_tree.specs.declared.system.Wire.{Wire}
use Rattle.unit_tree.specs.declared.unit.EventOut.{EventOut}
use Rattle.unit_tree.specs.declared.unit.Input.{Input}
use Rattle.unit_tree.specs.declared.unit.Output.{Output}
use Rattle.unit_tree.specs.declared.unit.Unit.{Unit}
use Rattle.language_laws.proofs.NameLaws.{PortsDiffer}
use Rattle.run_laws.proofs.PlaceOrders.{has_in, found_at, plain_port}
use Rattle.run_laws.proofs.PlainOrders.{named_has, output_is, wired}
use Rattle.run_laws.proofs.PortLaws.{ports_in, output_has}
use Rattle.run_laws.proofs.PositionLaws.{start_fits}
use Rattle.list_laws.proofs.Members.{Has, has_front, has_map, each_has}
use Rattle.list_laws.proofs.Pairs.{zip_append, zip_at}

-- ---- Linked systems

-- The output that a connection comes from, which has the words of an input's type.
pub record Joins (system : System) (wire : Wire) (input : Input) : Type 0 where
  pub output : Port
  pub is : output_at system wire.from ≡ Some output
  pub same : HaveSameWords output.ty input.ty

pub record Linked (system : System) : Type 0 where
  pub differ : PortsDiffer system
  pub joins : (wire : Wire) → Has system.wires wire → (instance : Instance) (unit : Unit) (input : Input) → Has system.instances instance
      → unit_of_instance system instance ≡ Some unit → Has unit.inputs input → wire.to ≡ port_of instance input.name → Joins system wire input
  pub uses : AllByRecursion (λ unit. AllByRecursion (λ (output : Output). uses_other_input unit output.needs output.value ≡ false) unit.outputs) system.units

module _ (system : System) (plain : HasNoEvents system) (linked : Linked system) where
  -- ---- The types of outputs by their places

  abbrev run_types : List Ty
  run_types = types_of_places (composition_of system)

  abbrev HasType : PortName → Ty → Type 0
  HasType port ty = (output : Port) → output_at system port ≡ Some output → output.ty ≡ ty

  types_beside : (instance : Instance) (unit : Unit) → Has system.instances instance → unit_of_instance system instance ≡ Some unit → (outputs : List Output)
      → ((output : Output) → Has outputs output → Has unit.outputs output)
      → AllZip HasType (ports_in instance (map plain_port outputs)) (map (λ (output : Output). output.ty) outputs)
  types_beside instance unit instance_has unit_is [] within = tt
  types_beside instance unit instance_has unit_is (output ∷ outputs) within =
      (here, types_beside instance unit instance_has unit_is outputs (λ other has. within other (inr has)))
    where
      here : HasType (port_of instance output.name) output.ty
      here other is =
          let has : Has (output_ports unit) (plain_port output) =
          has_front (map plain_port unit.outputs)
          (map (λ (event : EventOut). record { name = event.name; ty = event.ty; is_event = true; needs = event.needs }) unit.events_out)
          (plain_port output) (has_map plain_port unit.outputs output (within output (inl refl))) in
          let own = output_is system linked.differ instance unit (plain_port output) instance_has unit_is has in
          let same : other ≡ plain_port output = same_Some other (plain_port output) (sym is ∙ own) in
          ap (λ (p : Port). p.ty) same

  ports_are : (unit : Unit) → Has system.units unit → output_ports unit ≡ map plain_port unit.outputs
  ports_are unit has =
      let none = each_has (λ (u : Unit). (u.events_in ≡ []) × (u.events_out ≡ [])) system.units unit plain has in
      ap (λ (events : List EventOut). map plain_port unit.outputs
      ++ map (λ event. record { name = event.name; ty = event.ty; is_event = true; needs = event.needs }) events) none.1
      ∙ append-nil (map plain_port unit.outputs)

  abbrev types_in : Member → List Ty
  types_in member = map (λ (output : Output). output.ty) member.component.unit.outputs

  instance_beside : (instance : Instance) (given : Option Unit) (ports : List PortName) (members : List Member) → Has system.instances instance
      → unit_of_instance system instance ≡ given → AllZip HasType ports (flat_map types_in members)
      → AllZip HasType (ports_in instance (outputs_in given) ++ ports) (flat_map types_in (cons_option (member_with system instance given) members))
  instance_beside instance None ports members instance_has unit_is rest = rest
  instance_beside instance (Some unit) ports members instance_has unit_is rest =
      zip_append HasType (ports_in instance (output_ports unit)) ports (map (λ (output : Output). output.ty) unit.outputs) (flat_map types_in members)
      (subst (λ all. AllZip HasType (ports_in instance all) (map (λ (output : Output). output.ty) unit.outputs))
      (sym (ports_are unit (named_has system.units instance.unit unit unit_is)))
      (types_beside instance unit instance_has unit_is unit.outputs (λ output has. has)))
      rest

  abbrev ports_of : Instance → List PortName
  ports_of instance = ports_in instance (outputs_in (unit_of_instance system instance))

  all_beside : (instances : List Instance) → ((instance : Instance) → Has instances instance → Has system.instances instance)
      → AllZip HasType (flat_map ports_of instances)
      (flat_map types_in (filter_map (λ instance. member_with system instance (unit_of_instance system instance)) instances))
  all_beside [] within = tt
  all_beside (instance ∷ instances) within =
      instance_beside instance (unit_of_instance system instance) (flat_map ports_of instances)
      (filter_map (λ instance. member_with system instance (unit_of_instance system instance)) instances) (within instance (inl refl)) refl
      (all_beside instances (λ other has. within other (inr has)))

  type_at : (port : PortName) (output : Port) → output_at system port ≡ Some output → slice_get run_types (place_of system port) ≡ Some output.ty
  type_at port output is =
      let stands = has_in (outputs_of system) port (output_has system port (ap is_none is)) in
      let beside =
      zip_at HasType (outputs_of system) run_types (place_of system port) port (all_beside system.instances (λ instance has. has))
      (found_at (outputs_of system) port stands) in
      beside.is ∙ ap Some (sym (beside.related output is))

  -- ---- Members

  module _ (instance : Instance) (unit : Unit) (instance_has : Has system.instances instance) (unit_is : unit_of_instance system instance ≡ Some unit) where
    suits_by : (input : Input) → Has unit.inputs input → (sources : List PortName) → sources_of system (port_of instance input.name) ≡ sources
        → Suits run_types (input, source_from system input sources)
    suits_by input has [] is = start_fits input.ty input.start
    suits_by input has (port ∷ others) is =
        let from = wired system.wires (port_of instance input.name) port (subst (λ all. Has all port) (sym is) (inl refl)) in
        let joins = linked.joins from.wire from.has instance unit input instance_has unit_is has from.to in
        (joins.output.ty, type_at port joins.output (ap (output_at system) (sym from.from) ∙ joins.is), joins.same)

    all_suit : (inputs : List Input) → ((input : Input) → Has inputs input → Has unit.inputs input)
        → AllByRecursion (Suits run_types) (zip inputs (map (source_of system instance) inputs))
    all_suit [] within = tt
    all_suit (input ∷ inputs) within = (
      suits_by input (within input (inl refl)) (sources_of system (port_of instance input.name)) refl,
      all_suit inputs (λ other has. within other (inr has)),
    )

    abbrev member : Member
    member = record { component = component_with instance.settings unit; factor = factor_of system unit; sources = map (source_of system instance) unit.inputs }

    member_sound : IsSoundMember run_types member
    member_sound = record {
      params = length-map unit.params _;
      sources = length-map unit.inputs (source_of system instance);
      suits = all_suit unit.inputs (λ input has. has);
      needs = each_has
          (λ u. AllByRecursion (λ (output : Output). uses_other_input u output.needs output.value ≡ false) u.outputs) system.units unit linked.uses
          (named_has system.units instance.unit unit unit_is);
    }

  sound_by : (instance : Instance) (given : Option Unit) (members : List Member) → Has system.instances instance → unit_of_instance system instance ≡ given
      → AllByRecursion (IsSoundMember run_types) members → AllByRecursion (IsSoundMember run_types) (cons_option (member_with system instance given) members)
  sound_by instance None members instance_has unit_is rest = rest
  sound_by instance (Some unit) members instance_has unit_is rest = (member_sound instance unit instance_has unit_is, rest)

  all_sound : (instances : List Instance) → ((instance : Instance) → Has instances instance → Has system.instances instance)
      → AllByRecursion (IsSoundMember run_types) (filter_map (λ instance. member_with system instance (unit_of_instance system instance)) instances)
  all_sound [] within = tt
  all_sound (instance ∷ instances) within =
      sound_by instance (unit_of_instance system instance) (filter_map (λ instance. member_with system instance (unit_of_instance system instance)) instances)
      (within instance (inl refl)) refl (all_sound instances (λ other has. within other (inr has)))

  pub is_sound : IsSound (composition_of system)
  is_sound = all_sound system.instances (λ instance has. has)
