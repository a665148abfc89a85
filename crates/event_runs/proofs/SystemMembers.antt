-- The members of a system's plain form are the plain forms of the system's members.
use Rattle.std.proofs.Common.{◌≡◌, ◌-◌, ◌^◌, Bool, true, false, cond, pos, List, [], ◌∷◌, ◌++◌, map, Option, Some, None, inl, inr, refl}
use Rattle.std.proofs.Common.{ap, sym, subst, ◌∙◌}
use Rattle.std.specs.Prelude.{◌==◌, is_none, unwrap_or}
use Rattle.std.specs.Bool.{beq}
use Rattle.std.specs.List.{AllByRecursion, flat_map, filter_map, cons_option}
use Rattle.std.specs.Option.{option_map}
use Rattle.std.proofs.lemmas.List.{length-map, map-append}
use Rattle.std.proofs.lemmas.Bool.{or_parts}
use Rattle.fixed_words.specs.declared.types.Literal.TheVariants as literal
use Rattle.fixed_words.specs.declared.types.Ty.TheVariants as types
use Rattle.unit_tree.specs.Compositions.{Start, AtPlace, Member, component_with, source_from, source_of, factor_of, member_with}
use Rattle.unit_tree.specs.Compositions.{composition_of, place_of, run_of}
use Rattle.unit_tree.specs.Names.{Port, input_ports, output_at, input_at, output_ports, unit_of_instance}
use Rattle.unit_tree.specs.Orders.{IsIn, port_of, outputs_in, outputs_of, sources_of}
use Rattle.unit_tree.specs.Plain.{presence_name, presence_port, plain_form, plain_inputs, plain_unit, plain_wires, no_event, samples_or_all}
use Rattle.unit_tree.specs.Printable.{IsRanged}
use Rattle.unit_tree.specs.WellFormed.{IsWellFormed, differ}
use Rattle.unit_tree.specs.declared.system.Instance.{Instance}
use Rattle.unit_tree.specs.declared.system.PortName.{PortName}
use Rattle.unit_tree.specs.declared.system.System.{System}
use Rattle.unit_tree.specs.declared.system.Wire.{Wire}
use Rattle.unit_tree.specs.declared.unit.EventIn.{EventIn}
use Rattle.unit_tree.specs.declared.unit.EventOut.{EventOut}
use Rattle.unit_tree.specs.declared.unit.Input.{Input}
use Rattle.unit_tree.specs.declared.unit.Output.{Output}
use Rattle.unit_tree.specs.declared.unit.Unit.{Unit}
use Rattle.language_laws.proofs.Declarations.{Declares, declares}
use Rattle.language_laws.proofs.FirstVersion.{unit_stays}
use Rattle.language_laws.proofs.JudgedFacts.{IsJoined, inputs_differ, joined_wires}
use Rattle.language_laws.proofs.NameLaws.{PortsDiffer, ports_differ}
use Rattle.language_laws.proofs.PlainNames.{of_output, of_event, word_is_plain}
use Rattle.language_laws.proofs.UnitSites.{Passes, unit_passes}
use Rattle.run_laws.proofs.EventLaws.{plain_form_1, version_1_without_events}
use Rattle.run_laws.proofs.PlainCycles.{comes_from_output, of_input, of_event_in}
use Rattle.run_laws.proofs.PlainKept.{alike_by}
use Rattle.run_laws.proofs.PlainOrders.{declared, input_is, is_event_is, named_has, plain_named, plain_of, wired}
use Rattle.list_laws.proofs.Members.{Has, has_behind, has_front, has_map, each_has, has_place, map_same}
use Rattle.list_laws.proofs.Truths.{not_false, one_or_two}
use Rattle.event_runs.specs.EventPorts.{EventMember, Plain, Event}
use Rattle.event_runs.specs.Readings.{is_event, shape_of, plain_place, plain_source, plain_feed, plain_member}
use Rattle.event_runs.specs.Laws.{SourceFits, FeedFits, IsWired, IsPlainRun}
use Rattle.event_runs.specs.EventRuns.{feed_from, feed_of, with_feeds, event_members_of}
use Rattle.event_runs.proofs.PortLaws.{zero_start}
use Rattle.event_runs.proofs.SaidUnits.{is_said, needs_are_words, input_word, event_word, output_line}
use Rattle.event_runs.proofs.SplitPlaces.{event, shape, place_of_plain, place_of_event, place_of_presence, shape_at_place, sources_of_plain}
use Rattle.event_runs.proofs.SplitPlaces.{sources_of_presence}

beq_same : (one other : Bool) → beq one other ≡ true → one ≡ other
beq_same true true is = refl
beq_same true false is = absurd (cc)
beq_same false true is = absurd (cc)
beq_same false false is = refl

module _ (system : System) (ranged : IsRanged system) (kept : IsWellFormed system) where
  abbrev plain : System
  plain = plain_of system

  abbrev apart : PortsDiffer system
  apart = ports_differ system kept

  pub unit_declares : (unit : Unit) → Has system.units unit → Declares (Passes system) unit
  unit_declares unit has =
      let there = has_place system.units unit has in
      declares (Passes system) unit (unit_passes system ranged kept there.0 unit there.1)

  -- ---- The outputs that inputs are connected to

  -- An output that is connected to an input is an event output exactly where the input is an event input.
  from_by : (wire : Wire) (port : Port) (from : Option Port) → output_at system wire.from ≡ from → is_none from ≡ false → differ from (Some port) ≡ false
      → event system ranged kept wire.from ≡ port.is_event
  from_by wire port None is some same = absurd (cc)
  from_by wire port (Some output) is some same =
      ap (λ given. unwrap_or (option_map (λ (o : Port). o.is_event) given) false) is
      ∙ beq_same output.is_event port.is_event (not_false (beq output.is_event port.is_event) (or_parts _ _ same).1)

  joined_alike : (wire : Wire) → Has system.wires wire → (instance : Instance) (unit : Unit) (port : Port) → Has system.instances instance
      → unit_of_instance system instance ≡ Some unit → Has (input_ports unit) port → wire.to ≡ port_of instance port.name
      → event system ranged kept wire.from ≡ port.is_event
  joined_alike wire has instance unit port instance_has unit_is port_has to_is =
      let joined = each_has (IsJoined system) system.wires wire (joined_wires system kept) has in
      let to : input_at system wire.to ≡ Some port =
      ap (input_at system) to_is ∙ input_is system apart.instances (inputs_differ system kept) instance unit port instance_has unit_is port_has in
      from_by wire port (output_at system wire.from) refl joined.from (subst (λ t. differ (output_at system wire.from) t ≡ false) to joined.same)

  -- All outputs of a list are those of the system, with whether they are event outputs.
  abbrev Feeds : Bool → List PortName → Type 0
  Feeds told ports = (port : PortName) → Has ports port → IsIn (outputs_of system) port × (event system ranged kept port ≡ told)

  feeding : (instance : Instance) (unit : Unit) (port : Port) → Has system.instances instance → unit_of_instance system instance ≡ Some unit
      → Has (input_ports unit) port → Feeds port.is_event (sources_of system (port_of instance port.name))
  feeding instance unit port instance_has unit_is port_has source has =
      let joined = wired system.wires (port_of instance port.name) source has in
      let told = joined_alike joined.wire joined.has instance unit port instance_has unit_is port_has joined.to in (
        subst (IsIn (outputs_of system)) joined.from (comes_from_output system ranged kept joined.wire joined.has),
        ap (event system ranged kept) (sym joined.from) ∙ told,
      )

  -- ---- Sources and feeds

  read_source : (input : Input) (given : List PortName) → Feeds false given
      → source_from plain input given ≡ plain_source (shape system ranged kept) (source_from system input given)
  read_source input [] each = refl
  read_source input (port ∷ others) each = let here = each port (inl refl) in ap AtPlace (place_of_plain system ranged kept port here.0 here.1)

  source_fits : (input : Input) (given : List PortName) → Feeds false given → SourceFits (shape system ranged kept) (source_from system input given)
  source_fits input [] each = tt
  source_fits input (port ∷ others) each = let here = each port (inl refl) in shape_at_place system ranged kept port here.0 ∙ ap Some here.1

  abbrev telling_input : EventIn → Input
  telling_input one = record { name = presence_name one.name; ty = types.Bool; start = literal.Truth false }

  abbrev word_input : EventIn → Input
  word_input one = record { name = one.name; ty = one.ty; start = no_event one.ty }

  read_feed : (one : EventIn) (given : List PortName) → Feeds true given
      → source_from plain (telling_input one) (map presence_port given) ∷ source_from plain (word_input one) given ∷ []
      ≡ plain_feed (shape system ranged kept) (feed_from system given)
  read_feed one [] each = ap (λ word. Start (pos 0) ∷ Start word ∷ []) (zero_start one.ty)
  read_feed one (port ∷ others) each =
      let here = each port (inl refl) in
      ap (λ place. AtPlace place ∷ source_from plain (word_input one) (port ∷ others) ∷ []) (place_of_presence system ranged kept port here.1)
      ∙ ap (λ place. AtPlace (plain_place (shape system ranged kept) (place_of system port)) ∷ AtPlace place ∷ [])
      (place_of_event system ranged kept port here.0 here.1)

  feed_fits : (given : List PortName) → Feeds true given → FeedFits (shape system ranged kept) (feed_from system given)
  feed_fits [] each = tt
  feed_fits (port ∷ others) each = let here = each port (inl refl) in shape_at_place system ranged kept port here.0 ∙ ap Some here.1

  -- ---- A member

  module _ (instance : Instance) (unit : Unit) (instance_has : Has system.instances instance) (unit_is : unit_of_instance system instance ≡ Some unit) where
    unit_has : Has system.units unit
    unit_has = named_has system.units instance.unit unit unit_is

    abbrev here_declares : Declares (Passes system) unit
    here_declares = unit_declares unit unit_has

    input_feeds : (input : Input) → Has unit.inputs input → Feeds false (sources_of system (port_of instance input.name))
    input_feeds input has =
        feeding instance unit (of_input input) instance_has unit_is
        (has_front (map of_input unit.inputs) (map of_event_in unit.events_in) (of_input input) (has_map of_input unit.inputs input has))

    event_feeds : (one : EventIn) → Has unit.events_in one → Feeds true (sources_of system (port_of instance one.name))
    event_feeds one has =
        feeding instance unit (of_event_in one) instance_has unit_is
        (has_behind (map of_input unit.inputs) (map of_event_in unit.events_in) (of_event_in one) (has_map of_event_in unit.events_in one has))

    input_read : (input : Input) → Has unit.inputs input
        → source_of plain instance input ≡ plain_source (shape system ranged kept) (source_of system instance input)
    input_read input has =
        ap (source_from plain input)
        (sources_of_plain system ranged kept (port_of instance input.name) (word_is_plain input.name (input_word system unit here_declares input has)))
        ∙ read_source input (sources_of system (port_of instance input.name)) (input_feeds input has)

    event_read : (one : EventIn) → Has unit.events_in one
        → map (source_of plain instance) (plain_inputs one) ≡ plain_feed (shape system ranged kept) (feed_of system instance one)
    event_read one has =
        ap (λ given. source_from plain (telling_input one) given ∷ source_of plain instance (word_input one) ∷ [])
        (sources_of_presence system ranged kept (port_of instance one.name) (λ wire wire_has to_is.
        joined_alike wire wire_has instance unit (of_event_in one) instance_has unit_is
        (has_behind (map of_input unit.inputs) (map of_event_in unit.events_in) (of_event_in one) (has_map of_event_in unit.events_in one has)) to_is))
        ∙ ap (λ given. source_from plain (telling_input one) (map presence_port (sources_of system (port_of instance one.name)))
        ∷ source_from plain (word_input one) given ∷ [])
        (sources_of_plain system ranged kept (port_of instance one.name) (word_is_plain one.name (event_word system unit here_declares one has)))
        ∙ read_feed one (sources_of system (port_of instance one.name)) (event_feeds one has)

    inputs_read : (inputs : List Input) → ((input : Input) → Has inputs input → Has unit.inputs input)
        → map (source_of plain instance) inputs ≡ map (plain_source (shape system ranged kept)) (map (source_of system instance) inputs)
    inputs_read [] inside = refl
    inputs_read (input ∷ inputs) inside =
        ap (λ source. source ∷ map (source_of plain instance) inputs) (input_read input (inside input (inl refl)))
        ∙ ap (λ rest. plain_source (shape system ranged kept) (source_of system instance input) ∷ rest)
        (inputs_read inputs (λ other has. inside other (inr has)))

    events_read : (events : List EventIn) → ((one : EventIn) → Has events one → Has unit.events_in one)
        → map (source_of plain instance) (flat_map plain_inputs events)
        ≡ flat_map (plain_feed (shape system ranged kept)) (map (feed_of system instance) events)
    events_read [] inside = refl
    events_read (one ∷ events) inside =
        ap (λ two. two ++ map (source_of plain instance) (flat_map plain_inputs events)) (event_read one (inside one (inl refl)))
        ∙ ap (λ rest. plain_feed (shape system ranged kept) (feed_of system instance one) ++ rest) (events_read events (λ other has. inside other (inr has)))

    sources_read : map (source_of plain instance) (plain_unit unit).inputs
        ≡ map (plain_source (shape system ranged kept)) (map (source_of system instance) unit.inputs)
        ++ flat_map (plain_feed (shape system ranged kept)) (map (feed_of system instance) unit.events_in)
    sources_read =
        map-append (source_of plain instance) unit.inputs (flat_map plain_inputs unit.events_in)
        ∙ ap (λ front. front ++ map (source_of plain instance) (flat_map plain_inputs unit.events_in)) (inputs_read unit.inputs (λ input has. has))
        ∙ ap (λ rest. map (plain_source (shape system ranged kept)) (map (source_of system instance) unit.inputs) ++ rest)
        (events_read unit.events_in (λ one has. has))

    abbrev own : Member
    own = record {
      component = component_with instance.settings unit;
      factor = factor_of system unit;
      sources = map (source_of system instance) unit.inputs;
    }

    member_read : member_with plain instance (Some (plain_unit unit)) ≡ Some (plain_member (shape system ranged kept) (with_feeds system instance own))
    member_read =
        ap (λ resolution. Some (record {
          component = component_with instance.settings (plain_unit unit);
          factor = 10 ^ (resolution - unwrap_or unit.resolution 0);
          sources = map (source_of plain instance) (plain_unit unit).inputs;
        })) (alike_by system true).resolution
        ∙ ap (λ sources. Some (record {
          component = component_with instance.settings (plain_unit unit);
          factor = factor_of system unit;
          sources = sources;
        })) sources_read

    all_fit : (inputs : List Input) → ((input : Input) → Has inputs input → Has unit.inputs input)
        → AllByRecursion (SourceFits (shape system ranged kept)) (map (source_of system instance) inputs)
    all_fit [] inside = tt
    all_fit (input ∷ inputs) inside = (
      source_fits input (sources_of system (port_of instance input.name)) (input_feeds input (inside input (inl refl))),
      all_fit inputs (λ other has. inside other (inr has)),
    )

    all_feeds_fit : (events : List EventIn) → ((one : EventIn) → Has events one → Has unit.events_in one)
        → AllByRecursion (FeedFits (shape system ranged kept)) (map (feed_of system instance) events)
    all_feeds_fit [] inside = tt
    all_feeds_fit (one ∷ events) inside = (
      feed_fits (sources_of system (port_of instance one.name)) (event_feeds one (inside one (inl refl))),
      all_feeds_fit events (λ other has. inside other (inr has)),
    )

    member_wired : IsWired (shape system ranged kept) (with_feeds system instance own)
    member_wired = record {
      said = is_said system unit here_declares;
      needs = needs_are_words system unit here_declares;
      params = length-map unit.params _;
      count = length-map unit.inputs (source_of system instance);
      events = length-map unit.events_in (feed_of system instance);
      sources = all_fit unit.inputs (λ input has. has);
      feeds = all_feeds_fit unit.events_in (λ one has. has);
    }

    -- For each of its outputs, whether it is an event output.
    abbrev told : PortName → Bool
    told port = event system ranged kept port

    ports_told : (ports : List Port) → ((port : Port) → Has ports port → Has (output_ports unit) port)
        → map told (map (λ (port : Port). port_of instance port.name) ports) ≡ map (λ (port : Port). port.is_event) ports
    ports_told [] inside = refl
    ports_told (port ∷ ports) inside =
        ap (λ one. one ∷ map told (map (λ (p : Port). port_of instance p.name) ports))
        (is_event_is system ranged kept port instance unit instance_has unit_is (inside port (inl refl)))
        ∙ ap (λ rest. port.is_event ∷ rest) (ports_told ports (λ other has. inside other (inr has)))

    outs_told : (outputs : List Output) (events : List EventOut)
        → map (λ (port : Port). port.is_event) (map of_output outputs ++ map of_event events) ≡ map is_event (map Plain outputs ++ map Event events)
    outs_told [] [] = refl
    outs_told [] (one ∷ events) = ap (λ rest. true ∷ rest) (outs_told [] events)
    outs_told (output ∷ outputs) events = ap (λ rest. false ∷ rest) (outs_told outputs events)

    shape_here : map told (map (λ (port : Port). port_of instance port.name) (output_ports unit)) ≡ shape_of (with_feeds system instance own)
    shape_here = ports_told (output_ports unit) (λ port has. has) ∙ outs_told unit.outputs unit.events_out

  -- ---- All members

  abbrev made_of : Instance → Option Unit → Option EventMember
  made_of instance given = option_map (with_feeds system instance) (member_with system instance given)

  abbrev all_made : List Instance → List EventMember
  all_made instances = filter_map (λ instance. made_of instance (unit_of_instance system instance)) instances

  read_by : (instance : Instance) (given : Option Unit) (rest : List Member) (others : List EventMember) → Has system.instances instance
      → unit_of_instance system instance ≡ given → rest ≡ map (plain_member (shape system ranged kept)) others
      → cons_option (member_with plain instance (option_map plain_unit given)) rest
      ≡ map (plain_member (shape system ranged kept)) (cons_option (made_of instance given) others)
  read_by instance None rest others has is same = same
  read_by instance (Some unit) rest others has is same =
      ap (λ one. cons_option one rest) (member_read instance unit has is)
      ∙ ap (λ more. plain_member (shape system ranged kept) (with_feeds system instance (own instance unit has is)) ∷ more) same

  all_read : (instances : List Instance) → ((instance : Instance) → Has instances instance → Has system.instances instance)
      → filter_map (λ instance. member_with plain instance (unit_of_instance plain instance)) instances
      ≡ map (plain_member (shape system ranged kept)) (all_made instances)
  all_read [] inside = refl
  all_read (instance ∷ instances) inside =
      let later = all_read instances (λ other has. inside other (inr has)) in
      ap (λ given. cons_option (member_with plain instance given) (filter_map (λ i. member_with plain i (unit_of_instance plain i)) instances))
      (plain_named system.units instance.unit)
      ∙ read_by instance (unit_of_instance system instance)
      (filter_map (λ i. member_with plain i (unit_of_instance plain i)) instances) (all_made instances) (inside instance (inl refl)) refl later

  wired_by : (instance : Instance) (given : Option Unit) (others : List EventMember) → Has system.instances instance
      → unit_of_instance system instance ≡ given → AllByRecursion (IsWired (shape system ranged kept)) others
      → AllByRecursion (IsWired (shape system ranged kept)) (cons_option (made_of instance given) others)
  wired_by instance None others has is all = all
  wired_by instance (Some unit) others has is all = (member_wired instance unit has is, all)

  all_wired : (instances : List Instance) → ((instance : Instance) → Has instances instance → Has system.instances instance)
      → AllByRecursion (IsWired (shape system ranged kept)) (all_made instances)
  all_wired [] inside = tt
  all_wired (instance ∷ instances) inside =
      wired_by instance (unit_of_instance system instance) (all_made instances) (inside instance (inl refl)) refl
      (all_wired instances (λ other has. inside other (inr has)))

  abbrev named : Instance → Option Unit → List PortName
  named instance given = map (λ (port : Port). port_of instance port.name) (outputs_in given)

  shapes_by : (instance : Instance) (given : Option Unit) (others : List EventMember) (ports : List PortName) → Has system.instances instance
      → unit_of_instance system instance ≡ given → map (event system ranged kept) ports ≡ flat_map shape_of others
      → map (event system ranged kept) (named instance given ++ ports) ≡ flat_map shape_of (cons_option (made_of instance given) others)
  shapes_by instance None others ports has is same = same
  shapes_by instance (Some unit) others ports has is same =
      map-append (event system ranged kept) (named instance (Some unit)) ports
      ∙ ap (λ front. front ++ map (event system ranged kept) ports) (shape_here instance unit has is)
      ∙ ap (λ rest. shape_of (with_feeds system instance (own instance unit has is)) ++ rest) same

  all_shaped : (instances : List Instance) → ((instance : Instance) → Has instances instance → Has system.instances instance)
      → map (event system ranged kept) (flat_map (λ instance. named instance (unit_of_instance system instance)) instances)
      ≡ flat_map shape_of (all_made instances)
  all_shaped [] inside = refl
  all_shaped (instance ∷ instances) inside =
      shapes_by instance (unit_of_instance system instance) (all_made instances)
      (flat_map (λ i. named i (unit_of_instance system i)) instances) (inside instance (inl refl)) refl
      (all_shaped instances (λ other has. inside other (inr has)))

  pub shape_is : shape system ranged kept ≡ flat_map shape_of (event_members_of system)
  shape_is = all_shaped system.instances (λ instance has. has)

  pub plain_run : IsPlainRun (event_members_of system) (composition_of plain)
  plain_run = record {
    members_are =
        all_read system.instances (λ instance has. has)
        ∙ ap (λ s. map (plain_member s) (event_members_of system)) shape_is;
    wired = subst (λ s. AllByRecursion (IsWired s) (event_members_of system)) shape_is (all_wired system.instances (λ instance has. has));
  }

  -- ---- Version 1

  module _ (first : system.version ≡ 1) where
    abbrev NoEvents : Unit → Type 0
    NoEvents unit = (unit.events_in ≡ []) × (unit.events_out ≡ [])

    none_of : (unit : Unit) → Has system.units unit → NoEvents unit
    none_of unit has = each_has NoEvents system.units unit (version_1_without_events system ranged first) has

    units_stay : map plain_unit system.units ≡ system.units
    units_stay = map_same plain_unit system.units (λ unit has.
        let none = none_of unit has in
        unit_stays system first unit (unit_declares unit has) none.0 none.1 (output_line system unit (unit_declares unit has)))

    no_event_port : (outputs : List Output) (port : Port) → Has (map of_output outputs ++ []) port → port.is_event ≡ false
    no_event_port [] port has = absurd has
    no_event_port (output ∷ outputs) port (inl is) = ap (λ (p : Port). p.is_event) (sym is)
    no_event_port (output ∷ outputs) port (inr has) = no_event_port outputs port has

    no_event_output : (port : PortName) → IsIn (outputs_of system) port → event system ranged kept port ≡ false
    no_event_output port stands =
        let d = declared system port stands in
        let none = none_of d.unit d.unit_has in
        ap (event system ranged kept) (sym d.is)
        ∙ is_event_is system ranged kept d.output d.instance d.unit d.instance_has d.unit_is d.has
        ∙ no_event_port d.unit.outputs d.output (subst (λ events. Has (map of_output d.unit.outputs ++ map of_event events) d.output) none.1 d.has)

    wires_by : (told : Bool) (wire : Wire) (wires : List Wire) → told ≡ false
        → cond told (record { from = presence_port wire.from; to = presence_port wire.to } ∷ wire ∷ []) (wire ∷ []) ++ wires ≡ wire ∷ wires
    wires_by true wire wires is = absurd (cc)
    wires_by false wire wires is = refl

    wires_stay : (wires : List Wire) → ((wire : Wire) → Has wires wire → Has system.wires wire) → flat_map (plain_wires system) wires ≡ wires
    wires_stay [] inside = refl
    wires_stay (wire ∷ wires) inside =
        wires_by (event system ranged kept wire.from) wire (flat_map (plain_wires system) wires)
        (no_event_output wire.from (comes_from_output system ranged kept wire (inside wire (inl refl))))
        ∙ ap (λ rest. wire ∷ rest) (wires_stay wires (λ other has. inside other (inr has)))

    first_stays : composition_of plain ≡ composition_of system
    first_stays =
        ap (λ units. composition_of (record system { units = units; wires = flat_map (plain_wires system) system.wires; samples = samples_or_all system }))
        units_stay
        ∙ ap (λ wires. composition_of (record system { wires = wires; samples = samples_or_all system })) (wires_stay system.wires (λ wire has. has))

  -- ---- Both versions

  run_is : composition_of plain ≡ run_of system
  run_is = elim (one_or_two system.version ranged.version.0 ranged.version.1) [
    | inl first ↦ first_stays first ∙ sym (ap composition_of (plain_form_1 system first))
    | inr second ↦ sym (ap (λ version. composition_of (cond (version == 2) (plain_of system) system)) second)
  ]

  pub members_plain : IsPlainRun (event_members_of system) (run_of system)
  members_plain = subst (IsPlainRun (event_members_of system)) run_is plain_run

  -- Places are the same in the plain form of either version.
  pub place_kept : (port : PortName) → place_of plain port ≡ place_of (plain_form system) port
  place_kept port = elim (one_or_two system.version ranged.version.0 ranged.version.1) [
    | inl first ↦
        ap (λ units. place_of (record system { units = units; wires = flat_map (plain_wires system) system.wires; samples = samples_or_all system }) port)
        (units_stay first)
        ∙ sym (ap (λ s. place_of s port) (plain_form_1 system first))
    | inr second ↦ sym (ap (λ version. place_of (cond (version == 2) (plain_of system) system) port) second)
  ]
