-- An order of a system's outputs is one of its places, and conversely.
use Rattle.std.proofs.Common.{◌≡◌, ℕ, zero, suc, ◌+◌, ◌<◌, Bool, true, false, cond, List, [], ◌∷◌, ◌++◌, map, length, Option, Some, None, inl, inr, refl, ap}
use Rattle.std.proofs.Common.{sym, subst, ◌∙◌, ◌⊎◌, arith, append-nil}
use Rattle.std.proofs.lemmas.Bool.{and_parts}
use Rattle.std.proofs.lemmas.List.{map-append}
use Rattle.std.proofs.lemmas.Option.{slice_get_within, same_Some}
use Rattle.std.specs.Prelude.{not, is_none, slice_get, zip, unwrap_or}
use Rattle.std.specs.List.{AllByRecursion, AllZip, flat_map, filter_map, cons_option, position_or_len}
use Rattle.std.specs.Option.{option_and_then}
use Rattle.std.specs.Str.{bytes_eq}
use Rattle.std.proofs.lemmas.Slice.Zip.{AllZip-long}
use Rattle.unit_tree.specs.Compositions.{Member, HasNoEvents, component_with, factor_of, place_of, source_from, source_of, member_with, composition_of}
use Rattle.unit_tree.specs.Names.{Port, output_ports, input_names, port_names, is_among, are_among, instance_named, unit_named, unit_of_instance, port_named}
use Rattle.unit_tree.specs.Names.{output_at, same_port}
use Rattle.unit_tree.specs.Orders.{IsIn, IsOrderlyAfter, HasNoCycle, port_of, outputs_in, outputs_of, source_if, sources_of, needs_of, needed_by}
use Rattle.unit_tree.specs.Ports.{IsAmong, IsOrderedAfter, IsPlaceOrder, place_in, place_needed, places_needed, needs_of_places, needs_at}
use Rattle.unit_tree.specs.declared.system.Instance.{Instance}
use Rattle.unit_tree.specs.declared.system.PortName.{PortName}
use Rattle.unit_tree.specs.declared.system.System.{System}
use Rattle.unit_tree.specs.declared.system.Wire.{Wire}
use Rattle.unit_tree.specs.declared.unit.EventIn.{EventIn}
use Rattle.unit_tree.specs.declared.unit.EventOut.{EventOut}
use Rattle.unit_tree.specs.declared.unit.Input.{Input}
use Rattle.unit_tree.specs.declared.unit.Output.{Output}
use Rattle.unit_tree.specs.declared.unit.Unit.{Unit}
use Rattle.language_laws.proofs.NameLaws.{NamesDiffer, Wired, same_port_of, same_bytes, found}
use Rattle.language_laws.proofs.OrderLaws.{each_in}
use Rattle.run_laws.proofs.PortLaws.{among, has_among, each_among, ports_in, output_has}
use Rattle.run_laws.proofs.EquationLaws.{each_place}
use Rattle.list_laws.proofs.Members.{Has, Distinct, has_front, has_behind, has_either, has_map, has_at, at_place, all_has, distinct_append, each_has}
use Rattle.list_laws.proofs.Pairs.{zip_append, zip_at}
use Rattle.list_laws.proofs.Truths.{true_is_false}
use Rattle.list_laws.proofs.Lists.{each_more}

-- ---- Ports in lists

pub in_has : (ports : List PortName) (port : PortName) → IsIn ports port → Has ports port
in_has [] port stands = stands
in_has (first ∷ ports) port (inl is) = inl is
in_has (first ∷ ports) port (inr later) = inr (in_has ports port later)

pub has_in : (ports : List PortName) (port : PortName) → Has ports port → IsIn ports port
has_in [] port has = has
has_in (first ∷ ports) port (inl is) = inl is
has_in (first ∷ ports) port (inr later) = inr (has_in ports port later)

pub same_port_is : (one other : PortName) → same_port one other ≡ true → one ≡ other
same_port_is one other is =
    let both = and_parts (bytes_eq one.instance other.instance) (bytes_eq one.port other.port) is in
    ap (λ instance. record { instance = instance; port = one.port }) (same_bytes one.instance other.instance both.0)
    ∙ ap (λ port. record { instance = other.instance; port = port }) (same_bytes one.port other.port both.1)

-- With whether the first is the port.
pub found_by : (told : Bool) (port first : PortName) (ports : List PortName) (later : ℕ) → same_port port first ≡ told → (first ≡ port) ⊎ IsIn ports port
    → (IsIn ports port → slice_get ports later ≡ Some port) → slice_get (first ∷ ports) (cond (not told) (1 + later) 0) ≡ Some port
found_by true port first ports later is stands at_later = ap Some (sym (same_port_is port first is))
found_by false port first ports later is (inl same) at_later = true_is_false (same_port port first) (same_port_of port first (sym same)) is
found_by false port first ports later is (inr stands) at_later =
    let next : 1 + later ≡ suc later = omega arith in
    ap (slice_get (first ∷ ports)) next ∙ at_later stands

-- The place of a port has it.
pub found_at : (ports : List PortName) (port : PortName) → IsIn ports port → slice_get ports (position_or_len (same_port port) ports) ≡ Some port
found_at [] port stands = absurd stands
found_at (first ∷ ports) port stands =
    found_by (same_port port first) port first ports (position_or_len (same_port port) ports) refl stands (λ later. found_at ports port later)

pub place_by : (told : Bool) (port first : PortName) (later k : ℕ) → same_port port first ≡ told → (first ≡ port → ⊥) → later ≡ k
    → cond (not told) (1 + later) 0 ≡ suc k
place_by true port first later k is other same = absurd (other (sym (same_port_is port first is)))
place_by false port first later k is other same = omega arith

-- If ports differ, the place of the port at a place is this place.
pub place_is : (ports : List PortName) (k : ℕ) (port : PortName) → Distinct ports → slice_get ports k ≡ Some port → position_or_len (same_port port) ports ≡ k
place_is [] k port apart is = absurd (cc)
place_is (first ∷ ports) zero port apart is =
    let same : first ≡ port = cc in
    ap (λ told. cond (not told) (1 + position_or_len (same_port port) ports) 0) (same_port_of port first (sym same))
place_is (first ∷ ports) (suc k) port apart is =
    place_by (same_port port first) port first (position_or_len (same_port port) ports) k refl
    (λ same. apart.0 (subst (Has ports) (sym same) (has_at ports k port is))) (place_is ports k port apart.1 is)

-- ---- Lists element by element

-- ---- Units and their outputs

abbrev pub plain_port : Output → Port
plain_port output = record { name = output.name; ty = output.ty; is_event = false; needs = output.needs }

-- What is known of each unit.
pub record Known (unit : Unit) : Type 0 where
  pub apart : Distinct (map (λ output. output.name) unit.outputs)
  pub no_events : unit.events_out ≡ []
  pub no_events_in : unit.events_in ≡ []

pub all_known : (units : List Unit) → AllByRecursion (λ unit. (unit.events_in ≡ []) × (unit.events_out ≡ [])) units
    → AllByRecursion (λ unit. Distinct (map (λ output. output.name) unit.outputs)) units → AllByRecursion Known units
all_known [] plain apart = tt
all_known (unit ∷ units) plain apart = (record { apart = apart.0; no_events = plain.0.1; no_events_in = plain.0.0 }, all_known units plain.1 apart.1)

module _ (P : Unit → Type 0) where
  -- With whether the first unit has the name.
  pub named_by : (told : Bool) (first unit : Unit) (rest : Option Unit) → P first → (rest ≡ Some unit → P unit) → cond told (Some first) rest ≡ Some unit
      → P unit
  named_by true first unit rest holds later is = let same : first ≡ unit = cc in subst P same holds
  named_by false first unit rest holds later is = later is

  pub named_holds : (units : List Unit) (name : List ℕ) (unit : Unit) → AllByRecursion P units → unit_named units name ≡ Some unit → P unit
  named_holds [] name unit all is = absurd (cc)
  named_holds (first ∷ units) name unit all is =
      named_by (bytes_eq first.name name) first unit (unit_named units name) all.0 (λ later. named_holds units name unit all.1 later) is

pub ports_plain : (unit : Unit) → Known unit → output_ports unit ≡ map plain_port unit.outputs
ports_plain unit known =
    ap (λ (events : List EventOut). map plain_port unit.outputs
    ++ map (λ event. record { name = event.name; ty = event.ty; is_event = true; needs = event.needs }) events) known.no_events
    ∙ append-nil (map plain_port unit.outputs)

pub names_plain : (outputs : List Output) → map (λ (port : Port). port.name) (map plain_port outputs) ≡ map (λ output. output.name) outputs
names_plain [] = refl
names_plain (output ∷ outputs) = ap (λ rest. output.name ∷ rest) (names_plain outputs)

module _ (system : System) (plain : HasNoEvents system) (differ : NamesDiffer system) where
  abbrev pub known : AllByRecursion Known system.units
  known = all_known system.units plain differ.outputs

  -- ---- All outputs differ

  pub in_instance : (instance : Instance) (ports : List Port) (port : PortName) → Has (ports_in instance ports) port → instance.name ≡ port.instance
  in_instance instance [] port has = absurd has
  in_instance instance (first ∷ ports) port (inl is) = ap (λ (p : PortName). p.instance) is
  in_instance instance (first ∷ ports) port (inr has) = in_instance instance ports port has

  pub in_names : (instance : Instance) (ports : List Port) (port : PortName) → Has (ports_in instance ports) port
      → Has (map (λ (p : Port). p.name) ports) port.port
  in_names instance [] port has = absurd has
  in_names instance (first ∷ ports) port (inl is) = inl (ap (λ (p : PortName). p.port) is)
  in_names instance (first ∷ ports) port (inr has) = inr (in_names instance ports port has)

  pub ports_apart : (instance : Instance) (ports : List Port) → Distinct (map (λ (p : Port). p.name) ports) → Distinct (ports_in instance ports)
  ports_apart instance [] apart = tt
  ports_apart instance (first ∷ ports) apart = (λ has. apart.0 (in_names instance ports (port_of instance first.name) has), ports_apart instance ports apart.1)

  abbrev pub ports_of : Instance → List PortName
  ports_of instance = ports_in instance (outputs_in (unit_of_instance system instance))

  pub in_instances : (instances : List Instance) (port : PortName) → Has (flat_map ports_of instances) port
      → Has (map (λ instance. instance.name) instances) port.instance
  in_instances [] port has = absurd has
  in_instances (instance ∷ instances) port has =
      elim (has_either (ports_of instance) (flat_map ports_of instances) port has) [
        | inl h ↦ inl (in_instance instance (outputs_in (unit_of_instance system instance)) port h)
        | inr h ↦ inr (in_instances instances port h)
      ]

  pub unit_apart : (instance : Instance) (given : Option Unit) → unit_of_instance system instance ≡ given → Distinct (ports_in instance (outputs_in given))
  unit_apart instance None is = tt
  unit_apart instance (Some unit) is =
      let unit_known = named_holds Known system.units instance.unit unit known is in
      subst (λ ports. Distinct (ports_in instance ports)) (sym (ports_plain unit unit_known))
      (ports_apart instance (map plain_port unit.outputs) (subst (λ names. Distinct names) (sym (names_plain unit.outputs)) unit_known.apart))

  pub all_apart : (instances : List Instance) → Distinct (map (λ instance. instance.name) instances) → Distinct (flat_map ports_of instances)
  all_apart [] apart = tt
  all_apart (instance ∷ instances) apart =
      distinct_append (ports_of instance) (flat_map ports_of instances) (unit_apart instance (unit_of_instance system instance) refl)
      (all_apart instances apart.1)
      (λ port here later.
      apart.0 (subst (Has (map (λ instance. instance.name) instances)) (sym (in_instance instance (outputs_in (unit_of_instance system instance)) port here))
      (in_instances instances port later)))

  pub outputs_apart : Distinct (outputs_of system)
  outputs_apart = all_apart system.instances differ.instances

  -- ---- What a place needs is what its output needs

  pub record Needed (port : PortName) (place : ℕ) : Type 0 where
    pub source : PortName
    pub needs : IsIn (needed_by system port) source
    pub at : place_of system source ≡ place

  abbrev pub Needs : PortName → List ℕ → Type 0
  Needs port places = AllByRecursion (Needed port) places

  pub in_flat : (f : List ℕ → List PortName) (names : List (List ℕ)) (name : List ℕ) (port : PortName) → Has names name → IsIn (f name) port
      → IsIn (flat_map f names) port
  in_flat f [] name port has stands = absurd has
  in_flat f (first ∷ names) name port (inl is) stands =
      has_in (f first ++ flat_map f names) port
      (has_front (f first) (flat_map f names) port (in_has (f first) port (subst (λ n. IsIn (f n) port) (sym is) stands)))
  in_flat f (first ∷ names) name port (inr has) stands =
      has_in (f first ++ flat_map f names) port
      (has_behind (f first) (flat_map f names) port (in_has (flat_map f names) port (in_flat f names name port has stands)))

  module _ (instance : Instance) (output : Output) (is_there : output_at system (port_of instance output.name) ≡ Some (plain_port output)) where
    abbrev this_port : PortName
    this_port = port_of instance output.name

    abbrev sources_at : List ℕ → List PortName
    sources_at input = sources_of system (record { instance = instance.name; port = input })

    needed_is : needed_by system this_port ≡ flat_map sources_at output.needs
    needed_is = ap (λ found. flat_map sources_at (needs_of found)) is_there

    -- With whether the input is in the needs, and what is connected to it.
    input_by : (told : Bool) (input : Input) (sources : List PortName) (rest : List ℕ) → is_among output.needs input.name ≡ told
        → sources_of system (port_of instance input.name) ≡ sources → Needs this_port rest
        → Needs this_port (cons_option (cond told (place_in (source_from system input sources)) None) rest)
    input_by true input [] rest told is needs = needs
    input_by true input (source ∷ others) rest told is needs = (
      record {
        source = source;
        needs = subst (λ all. IsIn all source) (sym needed_is)
            (in_flat sources_at output.needs input.name source (among output.needs input.name told) (subst (λ all. IsIn all source) (sym is) (inl refl)));
        at = refl;
      },
      needs,
    )
    input_by false input sources rest told is needs = needs

    inputs_needed : (inputs : List Input) → Needs this_port (filter_map (place_needed output) (zip inputs (map (source_of system instance) inputs)))
    inputs_needed [] = tt
    inputs_needed (input ∷ inputs) =
        input_by (is_among output.needs input.name) input (sources_of system (port_of instance input.name)) _ refl refl (inputs_needed inputs)

  -- ---- Places and outputs, element by element

  abbrev pub needs_in : Member → List (List ℕ)
  needs_in member = map (places_needed member) member.component.unit.outputs

  pub there : (instance : Instance) (unit : Unit) (output : Output) → instance_named system instance.name ≡ Some instance
      → unit_of_instance system instance ≡ Some unit → Has unit.outputs output → output_at system (port_of instance output.name) ≡ Some (plain_port output)
  there instance unit output instance_is unit_is has =
      let unit_known = named_holds Known system.units instance.unit unit known unit_is in
      ap (λ named. option_and_then (λ u. port_named (output_ports u) output.name) (option_and_then (unit_of_instance system) named)) instance_is
      ∙ ap (option_and_then (λ u. port_named (output_ports u) output.name)) unit_is
      ∙ ap (λ ports. port_named ports output.name) (ports_plain unit unit_known)
      ∙ found (λ (port : Port). port.name) (map plain_port unit.outputs) (plain_port output)
      (subst (λ names. Distinct names) (sym (names_plain unit.outputs)) unit_known.apart) (has_map plain_port unit.outputs output has)

  -- What is known of each output and the places that it needs.
  module _ (R : PortName → List ℕ → Type 0)
      (holds : (instance : Instance) (unit : Unit) (output : Output) → instance_named system instance.name ≡ Some instance
      → unit_of_instance system instance ≡ Some unit → Has unit.outputs output
      → R (port_of instance output.name) (filter_map (place_needed output) (zip unit.inputs (map (source_of system instance) unit.inputs)))) where
    abbrev member_of : Instance → Unit → Member
    member_of instance unit =
        record { component = component_with instance.settings unit; factor = factor_of system unit; sources = map (source_of system instance) unit.inputs }

    outputs_side : (instance : Instance) (unit : Unit) (outputs : List Output)
        → AllByRecursion (λ output. R (port_of instance output.name) (places_needed (member_of instance unit) output)) outputs
        → AllZip R (ports_in instance (map plain_port outputs)) (map (places_needed (member_of instance unit)) outputs)
    outputs_side instance unit [] all = tt
    outputs_side instance unit (output ∷ outputs) all = (all.0, outputs_side instance unit outputs all.1)

    instance_side : (instance : Instance) (given : Option Unit) (ports : List PortName) (members : List Member)
        → instance_named system instance.name ≡ Some instance → unit_of_instance system instance ≡ given → AllZip R ports (flat_map needs_in members)
        → AllZip R (ports_in instance (outputs_in given) ++ ports) (flat_map needs_in (cons_option (member_with system instance given) members))
    instance_side instance None ports members instance_is unit_is rest = rest
    instance_side instance (Some unit) ports members instance_is unit_is rest =
        let unit_known = named_holds Known system.units instance.unit unit known unit_is in
        zip_append R (ports_in instance (output_ports unit)) ports (map (places_needed (member_of instance unit)) unit.outputs) (flat_map needs_in members)
        (subst (λ all. AllZip R (ports_in instance all) (map (places_needed (member_of instance unit)) unit.outputs)) (sym (ports_plain unit unit_known))
        (outputs_side instance unit unit.outputs (all_has _ unit.outputs (λ output has. holds instance unit output instance_is unit_is has))))
        rest

    all_sides : (instances : List Instance) → AllByRecursion (λ instance. instance_named system instance.name ≡ Some instance) instances
        → AllZip R (flat_map ports_of instances)
        (flat_map needs_in (filter_map (λ instance. member_with system instance (unit_of_instance system instance)) instances))
    all_sides [] are = tt
    all_sides (instance ∷ instances) are =
        instance_side instance (unit_of_instance system instance) (flat_map ports_of instances)
        (filter_map (λ instance. member_with system instance (unit_of_instance system instance)) instances) are.0 refl (all_sides instances are.1)

    sides_of : AllZip R (outputs_of system) (needs_of_places (composition_of system))
    sides_of =
        all_sides system.instances
        (all_has _ system.instances (λ instance has. found (λ (i : Instance). i.name) system.instances instance differ.instances has))

  pub sides : AllZip Needs (outputs_of system) (needs_of_places (composition_of system))
  sides = sides_of Needs
      (λ instance unit output instance_is unit_is has. inputs_needed instance output (there instance unit output instance_is unit_is has) unit.inputs)

  pub count_is : length (needs_of_places (composition_of system)) ≡ length (outputs_of system)
  count_is = AllZip-long Needs (outputs_of system) (needs_of_places (composition_of system)) sides

  -- ---- The order

  abbrev pub places : List PortName → List ℕ
  places ports = map (place_of system) ports

  pub among_places : (ports : List PortName) (port : PortName) → IsIn ports port → IsAmong (places ports) (place_of system port)
  among_places [] port stands = absurd stands
  among_places (first ∷ ports) port (inl is) = inl (ap (place_of system) is)
  among_places (first ∷ ports) port (inr later) = inr (among_places ports port later)

  -- A place that is among those of outputs is that of one.
  pub port_among : (ports : List PortName) (place : ℕ) → IsAmong (places ports) place → (port : PortName) × IsIn ports port × (place_of system port ≡ place)
  port_among [] place among_them = absurd among_them
  port_among (first ∷ ports) place (inl is) = (first, inl refl, is)
  port_among (first ∷ ports) place (inr later) = let port = port_among ports place later in (port.0, inr port.1, port.2)

  pub same_place : (one other : PortName) → IsIn (outputs_of system) one → IsIn (outputs_of system) other → place_of system one ≡ place_of system other
      → one ≡ other
  same_place one other is_one is_other same =
      let first = found_at (outputs_of system) one is_one in
      let second : slice_get (outputs_of system) (place_of system one) ≡ Some other = ap (slice_get (outputs_of system)) same
      ∙ found_at (outputs_of system) other is_other in
      same_Some one other (sym first ∙ second)

  pub needs_among : (port : PortName) (before : List PortName) (needed : List ℕ) → Needs port needed → AllByRecursion (IsIn before) (needed_by system port)
      → AllByRecursion (IsAmong (places before)) needed
  needs_among port before [] needs all = tt
  needs_among port before (place ∷ needed) needs all = (
    subst (IsAmong (places before)) needs.0.at
        (among_places before needs.0.source (each_in (IsIn before) (needed_by system port) needs.0.source all needs.0.needs)),
    needs_among port before needed needs.1 all,
  )

  pub ordered : (before order : List PortName) → AllByRecursion (IsIn (outputs_of system)) before → IsOrderlyAfter system before order
      → IsOrderedAfter (composition_of system) (places before) (places order)
  ordered before [] outputs orderly = tt
  ordered before (port ∷ later) outputs orderly =
      let here = found_at (outputs_of system) port orderly.0 in
      let beside = zip_at Needs (outputs_of system) (needs_of_places (composition_of system)) (place_of system port) port sides here in
      let within : place_of system port < length (needs_of_places (composition_of system)) =
      slice_get_within (needs_of_places (composition_of system)) (place_of system port) beside.other beside.is in
      let needs : needs_at (composition_of system) (place_of system port) ≡ beside.other = ap (λ given. unwrap_or given []) beside.is in (
        within,
        (λ among_them.
            let one = port_among before (place_of system port) among_them in
            orderly.1 (subst (IsIn before) (same_place one.0 port (each_in (IsIn (outputs_of system)) before one.0 outputs one.1) orderly.0 one.2) one.1)),
        subst (AllByRecursion (IsAmong (places before))) (sym needs) (needs_among port before beside.other beside.related orderly.2),
        subst (λ all. IsOrderedAfter (composition_of system) all (places later)) (map-append (place_of system) before (port ∷ []))
            (ordered (before ++ (port ∷ [])) later (each_more (IsIn (outputs_of system)) before port outputs orderly.0) orderly.3),
      )

  pub system_is_ordered : HasNoCycle system → (order : List ℕ) × IsPlaceOrder (composition_of system) order
  system_is_ordered no_cycle = (
    places no_cycle.0,
    record {
      ordered = ordered [] no_cycle.0 tt no_cycle.1;
      all = λ place within.
          let port = at_place (outputs_of system) place (omega (arith, within, count_is)) in
          let stands = has_in (outputs_of system) port.0 (has_at (outputs_of system) place port.0 port.1) in
          subst (IsAmong (places no_cycle.0)) (place_is (outputs_of system) place port.0 outputs_apart port.1)
          (among_places no_cycle.0 port.0 (each_in (IsIn no_cycle.0) (outputs_of system) port.0 no_cycle.2 stands));
    },
  )

  -- ---- The converse: where each output and its place come from

  -- The plain input of a name, where there are no others.
  pub input_named : (inputs : List Input) (events : List EventIn) (name : List ℕ) → events ≡ []
      → Has (port_names
      (map (λ input. record { name = input.name; ty = input.ty; is_event = false; needs = [] }) inputs
      ++ map (λ event. record { name = event.name; ty = event.ty; is_event = true; needs = [] }) events)) name
      → (input : Input) × Has inputs input × (input.name ≡ name)
  input_named inputs (event ∷ events) name none has = absurd (cc)
  input_named [] [] name none has = absurd has
  input_named (input ∷ inputs) [] name none (inl is) = (input, inl refl, is)
  input_named (input ∷ inputs) [] name none (inr has) = let later = input_named inputs [] name none has in (later.0, inr later.1, later.2)

  pub from_flat : (f : List ℕ → List PortName) (names : List (List ℕ)) (source : PortName) → IsIn (flat_map f names) source
      → (name : List ℕ) × Has names name × IsIn (f name) source
  from_flat f [] source stands = absurd stands
  from_flat f (first ∷ names) source stands =
      elim (has_either (f first) (flat_map f names) source (in_has (f first ++ flat_map f names) source stands)) [
        | inl here ↦ (first, inl refl, has_in (f first) source here)
        | inr has ↦ let later = from_flat f names source (has_in (flat_map f names) source has) in (later.0, inr later.1, later.2)
      ]

  -- ---- What is connected to an input

  abbrev pub sources_among : PortName → List Wire → List PortName
  sources_among port wires = filter_map (source_if port) wires

  pub from_by : (P : PortName → Type 0) (told : Bool) (wire : Wire) (others : List PortName) (source : PortName) → P wire.from
      → (IsIn others source → P source) → IsIn (cons_option (cond told (Some wire.from) None) others) source → P source
  from_by P true wire others source holds later (inl is) = subst P is holds
  from_by P true wire others source holds later (inr stands) = later stands
  from_by P false wire others source holds later stands = later stands

  pub from_each : (P : PortName → Type 0) (port : PortName) (wires : List Wire) (source : PortName) → AllByRecursion (λ (wire : Wire). P wire.from) wires
      → IsIn (sources_among port wires) source → P source
  from_each P port [] source all stands = absurd stands
  from_each P port (wire ∷ wires) source all stands =
      from_by P (same_port wire.to port) wire (sources_among port wires) source all.0 (from_each P port wires source all.1) stands

  pub none_by : (told : Bool) (port : PortName) (wire : Wire) (others : List PortName) → same_port wire.to port ≡ told → (wire.to ≡ port → ⊥) → others ≡ []
      → cons_option (cond told (Some wire.from) None) others ≡ []
  none_by true port wire others is other none = absurd (other (same_port_is wire.to port is))
  none_by false port wire others is other none = none

  pub none_to : (port : PortName) (wires : List Wire) → (Has (map (λ (wire : Wire). wire.to) wires) port → ⊥) → sources_among port wires ≡ []
  none_to port [] none = refl
  none_to port (wire ∷ wires) none =
      none_by (same_port wire.to port) port wire (sources_among port wires) refl (λ is. none (inl is)) (none_to port wires (λ has. none (inr has)))

  pub one_by : (told : Bool) (port : PortName) (wire : Wire) (others : List PortName) (source : PortName) → (told ≡ true → others ≡ [])
      → (IsIn others source → others ≡ source ∷ []) → IsIn (cons_option (cond told (Some wire.from) None) others) source
      → cons_option (cond told (Some wire.from) None) others ≡ source ∷ []
  one_by true port wire others source none later (inl is) = ap (λ rest. wire.from ∷ rest) (none refl) ∙ ap (λ first. first ∷ []) is
  one_by true port wire others source none later (inr stands) = absurd (subst (λ all. IsIn all source) (none refl) stands)
  one_by false port wire others source none later stands = later stands

  -- At most one output is.
  pub one_source : (port : PortName) (wires : List Wire) (source : PortName) → Distinct (map (λ (wire : Wire). wire.to) wires)
      → IsIn (sources_among port wires) source → sources_among port wires ≡ source ∷ []
  one_source port [] source once stands = absurd stands
  one_source port (wire ∷ wires) source once stands =
      one_by (same_port wire.to port) port wire (sources_among port wires) source
      (λ is. none_to port wires (subst (λ to. Has (map (λ (w : Wire). w.to) wires) to → ⊥) (same_port_is wire.to port is) once.0))
      (one_source port wires source once.1) stands

  pub among_behind : (given : Option ℕ) (rest : List ℕ) (place : ℕ) → IsAmong rest place → IsAmong (cons_option given rest) place
  among_behind None rest place has = has
  among_behind (Some first) rest place has = inr has

  -- The place of an input that is needed and connected.
  pub place_among : (instance : Instance) (output : Output) (inputs : List Input) (input : Input) (place : ℕ) → Has inputs input
      → place_needed output (input, source_of system instance input) ≡ Some place
      → IsAmong (filter_map (place_needed output) (zip inputs (map (source_of system instance) inputs))) place
  place_among instance output [] input place has is = absurd has
  place_among instance output (first ∷ inputs) input place (inl same) is =
      let here : place_needed output (first, source_of system instance first) ≡ Some place =
      subst (λ (i : Input). place_needed output (i, source_of system instance i) ≡ Some place) (sym same) is in
      subst (λ given. IsAmong (cons_option given (filter_map (place_needed output) (zip inputs (map (source_of system instance) inputs)))) place) (sym here)
      (inl refl)
  place_among instance output (first ∷ inputs) input place (inr has) is =
      among_behind (place_needed output (first, source_of system instance first)) _ place (place_among instance output inputs input place has is)

  -- ---- All that an output needs is among the places that it needs

  pub record Told (port : PortName) (places : List ℕ) : Type 0 where
    pub each : (source : PortName) → IsIn (needed_by system port) source → IsIn (outputs_of system) source × IsAmong places (place_of system source)

  module _ (wired : Wired system) where
    told : (instance : Instance) (unit : Unit) (output : Output) → instance_named system instance.name ≡ Some instance
        → unit_of_instance system instance ≡ Some unit → Has unit.outputs output
        → Told (port_of instance output.name) (filter_map (place_needed output) (zip unit.inputs (map (source_of system instance) unit.inputs)))
    told instance unit output instance_is unit_is has = record {
      each = λ source stands.
          let is_there = there instance unit output instance_is unit_is has in
          let unit_known = named_holds Known system.units instance.unit unit known unit_is in
          let unit_needs =
          named_holds
          (λ u. AllByRecursion (λ output. are_among (input_names u) output.needs ≡ true) u.outputs) system.units instance.unit unit wired.needs unit_is in
          let need =
          from_flat (λ input. sources_of system (record { instance = instance.name; port = input })) output.needs source
          (subst (λ all. IsIn all source) (needed_is instance output is_there) stands) in
          let at_need : PortName = record { instance = instance.name; port = need.0 } in
          let declared = each_among (input_names unit) output.needs need.0 (each_has _ unit.outputs output unit_needs has) need.1 in
          let input = input_named unit.inputs unit.events_in need.0 unit_known.no_events_in (among (input_names unit) need.0 declared) in
          let one : sources_of system (port_of instance input.0.name) ≡ source ∷ [] =
          ap (λ name. sources_of system (record { instance = instance.name; port = name })) input.2
          ∙ one_source at_need system.wires source wired.once need.2 in
          let needed : is_among output.needs input.0.name ≡ true = ap (is_among output.needs) input.2 ∙ has_among output.needs need.0 need.1 in
          let place_is_needed : place_needed output (input.0, source_of system instance input.0) ≡ Some (place_of system source) =
          ap (λ b. cond b (place_in (source_of system instance input.0)) None) needed ∙ ap (λ all. place_in (source_from system input.0 all)) one in (
            has_in (outputs_of system) source
                (output_has system source (from_each (λ port. is_none (output_at system port) ≡ false) at_need system.wires source wired.from need.2)),
            place_among instance output unit.inputs input.0 (place_of system source) input.1 place_is_needed,
          );
    }

    told_sides : AllZip Told (outputs_of system) (needs_of_places (composition_of system))
    told_sides = sides_of Told told

    -- ---- The order of outputs

    abbrev pub port_at : ℕ → PortName
    port_at place = unwrap_or (slice_get (outputs_of system) place) (record { instance = []; port = [] })

    abbrev pub ports_at : List ℕ → List PortName
    ports_at places = map port_at places

    pub at_is : (place : ℕ) → place < length (outputs_of system) → slice_get (outputs_of system) place ≡ Some (port_at place)
    at_is place within = let port = at_place (outputs_of system) place within in
        port.1 ∙ ap Some (sym (ap (λ given. unwrap_or given (record { instance = []; port = [] })) port.1))

    pub place_back : (place : ℕ) → place < length (outputs_of system) → place_of system (port_at place) ≡ place
    place_back place within = place_is (outputs_of system) place (port_at place) outputs_apart (at_is place within)

    pub port_back : (port : PortName) → IsIn (outputs_of system) port → port_at (place_of system port) ≡ port
    port_back port stands = ap (λ given. unwrap_or given (record { instance = []; port = [] })) (found_at (outputs_of system) port stands)

    pub among_ports : (places : List ℕ) (place : ℕ) → IsAmong places place → IsIn (ports_at places) (port_at place)
    among_ports [] place has = absurd has
    among_ports (first ∷ places) place (inl is) = inl (ap port_at is)
    among_ports (first ∷ places) place (inr has) = inr (among_ports places place has)

    abbrev pub IsPlace : ℕ → Type 0
    IsPlace place = place < length (outputs_of system)

    place_of_one : (places : List ℕ) (port : PortName) → AllByRecursion IsPlace places → IsIn (ports_at places) port → IsAmong places (place_of system port)
    place_of_one [] port all stands = absurd stands
    place_of_one (first ∷ places) port all (inl is) = inl (sym (place_back first all.0) ∙ ap (place_of system) is)
    place_of_one (first ∷ places) port all (inr stands) = inr (place_of_one places port all.1 stands)

    pub orderly : (before order : List ℕ) → AllByRecursion IsPlace before → IsOrderedAfter (composition_of system) before order
        → IsOrderlyAfter system (ports_at before) (ports_at order)
    orderly before [] are is_ordered = tt
    orderly before (place ∷ later) are is_ordered =
        let within : place < length (outputs_of system) = subst (λ count. place < count) count_is is_ordered.0 in
        let here = at_is place within in
        let beside = zip_at Told (outputs_of system) (needs_of_places (composition_of system)) place (port_at place) told_sides here in
        let needs : needs_at (composition_of system) place ≡ beside.other = ap (λ given. unwrap_or given []) beside.is in (
          has_in (outputs_of system) (port_at place) (has_at (outputs_of system) place (port_at place) here),
          (λ stands. is_ordered.1 (subst (IsAmong before) (place_back place within) (place_of_one before (port_at place) are stands))),
          all_has (IsIn (ports_at before)) (needed_by system (port_at place)) (λ source has.
              let known_of = beside.related.each source (has_in (needed_by system (port_at place)) source has) in
              subst (IsIn (ports_at before)) (port_back source known_of.0)
              (among_ports before (place_of system source)
              (each_place (IsAmong before) beside.other (place_of system source) (subst (AllByRecursion (IsAmong before)) needs is_ordered.2) known_of.1))),
          subst (λ all. IsOrderlyAfter system all (ports_at later)) (map-append port_at before (place ∷ []))
              (orderly (before ++ (place ∷ [])) later (each_more IsPlace before place are within) is_ordered.3),
        )

    pub has_no_cycle : (order : List ℕ) × IsPlaceOrder (composition_of system) order → HasNoCycle system
    has_no_cycle (order, is_order) = (
      ports_at order,
      orderly [] order tt is_order.ordered,
      all_has (IsIn (ports_at order)) (outputs_of system) (λ port has.
          let stands = has_in (outputs_of system) port has in
          let within : place_of system port < length (needs_of_places (composition_of system)) =
          subst (λ count. place_of system port < count) (sym count_is)
          (slice_get_within (outputs_of system) (place_of system port) port (found_at (outputs_of system) port stands)) in
          subst (IsIn (ports_at order)) (port_back port stands) (among_ports order (place_of system port) (is_order.all (place_of system port) within))),
    )
