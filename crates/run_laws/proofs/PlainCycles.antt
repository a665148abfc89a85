-- The connections and needs of the plain form of a well-formed system in range are right, and the system has no cycle where
-- its plain form has none.
use Rattle.std.proofs.Common.{◌≡◌, ℕ, Bool, true, false, cond, List, [], ◌∷◌, ◌++◌, map, Some, inl, inr, refl, ap, sym, subst, ◌∙◌, ◌⊎◌, append-nil}
use Rattle.std.proofs.lemmas.List.{map-append}
use Rattle.std.proofs.lemmas.List.Elements.{filter-append}
use Rattle.std.specs.Prelude.{is_none, ◌||◌}
use Rattle.std.specs.List.{AllByRecursion, flat_map, filter, list_any}
use Rattle.std.proofs.lemmas.Bool.{or_right, or_cases}
use Rattle.unit_tree.specs.Names.{Port, input_ports, input_names, output_ports, event_input_names, is_among, are_among, output_at, same_port}
use Rattle.unit_tree.specs.Orders.{IsIn, IsOrderlyAfter, HasNoCycle, port_of, outputs_of, sources_of, needs_of, needed_by}
use Rattle.unit_tree.specs.Plain.{presence_name, plain_inputs, plain_need, plain_needs, plain_output, plain_outputs, plain_unit, presence_port, is_event_output}
use Rattle.unit_tree.specs.Plain.{plain_wires}
use Rattle.unit_tree.specs.Printable.{IsRanged}
use Rattle.unit_tree.specs.WellFormed.{IsWellFormed}
use Rattle.unit_tree.specs.declared.system.PortName.{PortName}
use Rattle.unit_tree.specs.declared.system.System.{System}
use Rattle.unit_tree.specs.declared.system.Wire.{Wire}
use Rattle.unit_tree.specs.declared.unit.EventIn.{EventIn}
use Rattle.unit_tree.specs.declared.unit.EventOut.{EventOut}
use Rattle.unit_tree.specs.declared.unit.Input.{Input}
use Rattle.unit_tree.specs.declared.unit.Output.{Output}
use Rattle.unit_tree.specs.declared.unit.Unit.{Unit}
use Rattle.language_laws.proofs.NameLaws.{Wired, ports_differ, same_port_of, is_wired, ports_need_inputs}
use Rattle.language_laws.proofs.OrderLaws.{each_in}
use Rattle.run_laws.proofs.PlaceOrders.{has_in, same_port_is}
use Rattle.language_laws.proofs.PlainNames.{has_flat, map_has, flat_has, IsPlain, plain_wire, of_output, of_event}
use Rattle.run_laws.proofs.PlainOrders.{plain_of, Declared, declared, output_is, plain_one, ones, twos, becomes, wired, has_source, presence_wire, wire_by}
use Rattle.run_laws.proofs.PlainOrders.{plain_differ, plain_unit_is, split_by, same_origin, made_stands}
use Rattle.run_laws.proofs.PortLaws.{among, each_among, all_among, output_has}
use Rattle.list_laws.proofs.Members.{Has, Distinct, has_front, has_behind, has_either, has_map, all_has, distinct_append, each_has}

-- ---- Needs

abbrev pub of_input : Input → Port
of_input input = record { name = input.name; ty = input.ty; is_event = false; needs = [] }

abbrev pub of_event_in : EventIn → Port
of_event_in event = record { name = event.name; ty = event.ty; is_event = true; needs = [] }

pub has_input : (unit : Unit) (input : Input) → Has (unit.inputs ++ flat_map plain_inputs unit.events_in) input → Has (input_names (plain_unit unit)) input.name
has_input unit input has =
    has_map (λ (port : Port). port.name) (input_ports (plain_unit unit)) (of_input input)
    (has_front (map of_input (unit.inputs ++ flat_map plain_inputs unit.events_in)) [] (of_input input)
    (has_map of_input (unit.inputs ++ flat_map plain_inputs unit.events_in) input has))

pub of_event_input : (unit : Unit) (event : EventIn) (input : Input) → Has unit.events_in event → Has (plain_inputs event) input
    → Has (input_names (plain_unit unit)) input.name
of_event_input unit event input has inside =
    has_input unit input (has_behind unit.inputs (flat_map plain_inputs unit.events_in) input (has_flat plain_inputs unit.events_in event input has inside))

pub same_input : (unit : Unit) (need : List ℕ) → Has (input_names unit) need → Has (input_names (plain_unit unit)) need
same_input unit need has =
    let port = map_has (λ (port : Port). port.name) (input_ports unit) need has in
    subst (Has (input_names (plain_unit unit))) port.is
    (elim (has_either (map of_input unit.inputs) (map of_event_in unit.events_in) port.one port.has) [
      | inl here ↦
          let input = map_has of_input unit.inputs port.one here in
          subst (λ (p : Port). Has (input_names (plain_unit unit)) p.name) input.is
          (has_input unit input.one (has_front unit.inputs (flat_map plain_inputs unit.events_in) input.one input.has))
      | inr here ↦
          let event = map_has of_event_in unit.events_in port.one here in
          subst (λ (p : Port). Has (input_names (plain_unit unit)) p.name) event.is (of_event_input unit event.one _ event.has (inr (inl refl)))
    ])

pub presence_input : (unit : Unit) (need : List ℕ) → is_among (event_input_names unit) need ≡ true → Has (input_names (plain_unit unit)) (presence_name need)
presence_input unit need is =
    let event = map_has (λ (e : EventIn). e.name) unit.events_in need (among (event_input_names unit) need is) in
    subst (λ name. Has (input_names (plain_unit unit)) (presence_name name)) event.is (of_event_input unit event.one _ event.has (inl refl))

pub need_is : (unit : Unit) (need made : List ℕ) (told : Bool) → is_among (event_input_names unit) need ≡ told → Has (input_names unit) need
    → Has (cond told (presence_name need ∷ need ∷ []) (need ∷ [])) made → Has (input_names (plain_unit unit)) made
need_is unit need made true is has (inl same) = subst (Has (input_names (plain_unit unit))) same (presence_input unit need is)
need_is unit need made true is has (inr (inl same)) = subst (Has (input_names (plain_unit unit))) same (same_input unit need has)
need_is unit need made true is has (inr (inr none)) = absurd none
need_is unit need made false is has (inl same) = subst (Has (input_names (plain_unit unit))) same (same_input unit need has)
need_is unit need made false is has (inr none) = absurd none

abbrev pub AreInputs : Unit → List (List ℕ) → Type 0
AreInputs unit needs = are_among (input_names unit) needs ≡ true

pub needs_are : (unit : Unit) (needs : List (List ℕ)) → AreInputs unit needs → AreInputs (plain_unit unit) (plain_needs unit needs)
needs_are unit needs are =
    all_among (input_names (plain_unit unit)) (plain_needs unit needs) (λ made has.
    let from = flat_has (plain_need unit) needs made has in
    need_is unit from.one made (is_among (event_input_names unit) from.one) refl
    (among (input_names unit) from.one (each_among (input_names unit) needs from.one are from.has)) from.inside)

abbrev pub AllNeed : Unit → List Output → Type 0
AllNeed unit outputs = AllByRecursion (λ (output : Output). AreInputs unit output.needs) outputs

pub event_needs : (unit : Unit) (event : EventOut) (output : Output) → AreInputs unit event.needs → Has (plain_outputs unit event) output
    → AreInputs (plain_unit unit) output.needs
event_needs unit event output are (inl is) = subst (λ (o : Output). AreInputs (plain_unit unit) o.needs) is (needs_are unit event.needs are)
event_needs unit event output are (inr (inl is)) = subst (λ (o : Output). AreInputs (plain_unit unit) o.needs) is (needs_are unit event.needs are)
event_needs unit event output are (inr (inr none)) = absurd none

pub unit_needs : (unit : Unit) → AllByRecursion (λ (port : Port). AreInputs unit port.needs) (output_ports unit)
    → AllNeed (plain_unit unit) (plain_unit unit).outputs
unit_needs unit each =
    all_has (λ (output : Output). AreInputs (plain_unit unit) output.needs) (ones unit ++ twos unit) (λ output has.
    elim (has_either (ones unit) (twos unit) output has) [
      | inl here ↦
          let from = map_has (plain_output unit) unit.outputs output here in
          subst (λ (o : Output). AreInputs (plain_unit unit) o.needs) from.is
          (needs_are unit from.one.needs
          (each_has (λ (port : Port). AreInputs unit port.needs) (output_ports unit) (of_output from.one) each
          (has_front (map of_output unit.outputs) (map of_event unit.events_out) (of_output from.one) (has_map of_output unit.outputs from.one from.has))))
      | inr here ↦
          let from = flat_has (plain_outputs unit) unit.events_out output here in
          event_needs unit from.one output
          (each_has (λ (port : Port). AreInputs unit port.needs) (output_ports unit) (of_event from.one) each
          (has_behind (map of_output unit.outputs) (map of_event unit.events_out) (of_event from.one)
          (has_map of_event unit.events_out from.one from.has))) from.inside
    ])

pub all_need : (units : List Unit) → AllByRecursion (λ unit. AllByRecursion (λ (port : Port). AreInputs unit port.needs) (output_ports unit)) units
    → AllByRecursion (λ unit. AllNeed unit unit.outputs) (map plain_unit units)
all_need [] each = tt
all_need (unit ∷ units) each = (unit_needs unit each.0, all_need units each.1)

-- ---- Outputs

-- An output of a system is found by its name.
pub some_output : (system : System) (port : PortName) → Declared system port
    → ((d : Declared system port) → output_at system (port_of d.instance d.output.name) ≡ Some d.output) → is_none (output_at system port) ≡ false
some_output system port d found = subst (λ p. is_none (output_at system p) ≡ false) d.is (ap is_none (found d))

abbrev pub targets : List Wire → List PortName
targets wires = map (λ (wire : Wire). wire.to) wires

-- Ports are searched by their names.
pub is_in : (ports : List PortName) (port : PortName) → list_any (same_port port) ports ≡ true → IsIn ports port
is_in [] port told = absurd (cc)
is_in (first ∷ ports) port told =
    elim (or_cases (same_port port first) (list_any (same_port port) ports) told) [
      | inl same ↦ inl (sym (same_port_is port first same))
      | inr later ↦ inr (is_in ports port later)
    ]

pub told_in : (ports : List PortName) (port : PortName) → IsIn ports port → list_any (same_port port) ports ≡ true
told_in [] port stands = absurd stands
told_in (first ∷ ports) port (inl is) = ap (λ b. b || list_any (same_port port) ports) (same_port_of port first (sym is))
told_in (first ∷ ports) port (inr later) = or_right (same_port port first) (list_any (same_port port) ports) (told_in ports port later)

-- Ports that are kept by a test.
pub kept_by : (told : Bool) (test : PortName → Bool) (first port : PortName) (ports : List PortName) → test first ≡ told → test port ≡ true
    → (first ≡ port) ⊎ IsIn ports port → (IsIn ports port → IsIn (filter test ports) port)
    → IsIn (cond told (first ∷ filter test ports) (filter test ports)) port
kept_by true test first port ports is holds (inl same) later = inl same
kept_by true test first port ports is holds (inr stands) later = inr (later stands)
kept_by false test first port ports is holds (inl same) later = let other : true ≡ false = sym holds ∙ ap test (sym same) ∙ is in absurd (cc other)
kept_by false test first port ports is holds (inr stands) later = later stands

pub kept_in : (test : PortName → Bool) (ports : List PortName) (port : PortName) → test port ≡ true → IsIn ports port → IsIn (filter test ports) port
kept_in test [] port holds stands = absurd stands
kept_in test (first ∷ ports) port holds stands = kept_by (test first) test first port ports refl holds stands (kept_in test ports port holds)

pub was_by : (told : Bool) (test : PortName → Bool) (first port : PortName) (ports : List PortName) → (IsIn (filter test ports) port → IsIn ports port)
    → IsIn (cond told (first ∷ filter test ports) (filter test ports)) port → IsIn (first ∷ ports) port
was_by true test first port ports later (inl same) = inl same
was_by true test first port ports later (inr stands) = inr (later stands)
was_by false test first port ports later stands = inr (later stands)

pub was_in : (test : PortName → Bool) (ports : List PortName) (port : PortName) → IsIn (filter test ports) port → IsIn ports port
was_in test [] port stands = absurd stands
was_in test (first ∷ ports) port stands = was_by (test first) test first port ports (was_in test ports port) stands

module _ (system : System) (ranged : IsRanged system) (kept : IsWellFormed system) where
  abbrev pub plain : System
  plain = plain_of system

  abbrev pub right : Wired system
  right = is_wired system kept

  -- ---- Connections

  -- Each connection comes from an output.
  pub comes_from_output : (wire : Wire) → Has system.wires wire → IsIn (outputs_of system) wire.from
  comes_from_output wire has =
      has_in (outputs_of system) wire.from
      (output_has system wire.from (each_has (λ (w : Wire). is_none (output_at system w.from) ≡ false) system.wires wire right.from has))

  pub plain_some : (port : PortName) → IsIn (outputs_of plain) port → is_none (output_at plain port) ≡ false
  plain_some port stands =
      some_output plain port (declared plain port stands)
      (λ d. output_is plain (plain_differ system ranged kept) d.instance d.unit d.output d.instance_has d.unit_is d.has)

  pub from_by : (told : Bool) (wire made : Wire) → Has (cond told (presence_wire wire ∷ wire ∷ []) (wire ∷ [])) made
      → Has (split_by system ranged kept told wire.from) made.from
  from_by true wire made (inl is) = inl (ap (λ (w : Wire). w.from) is)
  from_by true wire made (inr (inl is)) = inr (inl (ap (λ (w : Wire). w.from) is))
  from_by true wire made (inr (inr none)) = absurd none
  from_by false wire made (inl is) = inl (ap (λ (w : Wire). w.from) is)
  from_by false wire made (inr none) = absurd none

  pub plain_from : AllByRecursion (λ (wire : Wire). is_none (output_at plain wire.from) ≡ false) plain.wires
  plain_from =
      all_has (λ (wire : Wire). is_none (output_at plain wire.from) ≡ false) plain.wires (λ made has.
      let of = flat_has (plain_wires system) system.wires made has in
      plain_some made.from
      (made_stands system ranged kept of.one.from (comes_from_output of.one of.has) made.from
      (from_by (is_event_output system of.one.from) of.one made of.inside)))

  -- A connection of the plain form ends at a port that the end of the system's connection becomes.
  pub leads_to : (wire made : Wire) (port : PortName) → Has (plain_wires system wire) made → made.to ≡ port → (wire.to ≡ port) ⊎ (presence_port wire.to ≡ port)
  leads_to wire made port has is =
      elim (wire_by (is_event_output system wire.from) wire made has) [
        | inl same ↦ inl (ap (λ (w : Wire). w.to) same ∙ is)
        | inr both ↦ inr (ap (λ (w : Wire). w.to) both.1 ∙ is)
      ]

  pub two_targets : (told : Bool) (wire : Wire) → IsPlain wire.to.port → Distinct (targets (cond told (presence_wire wire ∷ wire ∷ []) (wire ∷ [])))
  two_targets true wire name = (itself_not, ((λ none. none), tt))
    where
      itself_not : Has (wire.to ∷ []) (presence_port wire.to) → ⊥
      itself_not (inl is) = name wire.to.port (ap (λ (p : PortName). p.port) is)
      itself_not (inr none) = none
  two_targets false wire name = ((λ none. none), tt)

  pub targets_apart : (wires : List Wire) → AllByRecursion (λ (wire : Wire). IsPlain wire.to.port) wires → Distinct (targets wires)
      → Distinct (targets (flat_map (plain_wires system) wires))
  targets_apart [] names apart = tt
  targets_apart (wire ∷ wires) names apart =
      subst Distinct (sym (map-append (λ (w : Wire). w.to) (plain_wires system wire) (flat_map (plain_wires system) wires)))
      (distinct_append (targets (plain_wires system wire)) (targets (flat_map (plain_wires system) wires))
      (two_targets (is_event_output system wire.from) wire names.0) (targets_apart wires names.1 apart.1)
      (λ port here later.
      let one = map_has (λ (w : Wire). w.to) (plain_wires system wire) port here in
      let other = map_has (λ (w : Wire). w.to) (flat_map (plain_wires system) wires) port later in
      let of = flat_has (plain_wires system) wires other.one other.has in
      let same : wire.to ≡ of.one.to =
      same_origin system ranged kept wire.to of.one.to port names.0 (each_has (λ (w : Wire). IsPlain w.to.port) wires of.one names.1 of.has)
      (leads_to wire one.one port one.has one.is) (leads_to of.one other.one port of.inside other.is) in
      apart.0 (subst (Has (targets wires)) (sym same) (has_map (λ (w : Wire). w.to) wires of.one of.has))))

  pub plain_is_wired : Wired plain
  plain_is_wired = record {
    needs = all_need system.units (ports_need_inputs system kept);
    from = plain_from;
    once = targets_apart system.wires (all_has (λ (wire : Wire). IsPlain wire.to.port) system.wires (λ wire has. plain_wire system ranged wire has)) right.once;
  }

  -- ---- What an output needs

  pub itself_by : {A : Type 0} (told : Bool) (other one : A) → Has (cond told (other ∷ one ∷ []) (one ∷ [])) one
  itself_by true other one = inr (inl refl)
  itself_by false other one = inl refl

  -- An output of the system needs in the plain form what it needs in the system.
  pub record Still (port source : PortName) : Type 0 where
    pub stands : IsIn (outputs_of system) source
    pub needed : IsIn (needed_by plain port) source

  pub still_of : (port : PortName) (d : Declared system port) (source : PortName) → Has (needed_by system (port_of d.instance d.output.name)) source
      → Still (port_of d.instance d.output.name) source
  still_of port d source has =
      let to_input : List ℕ → PortName = λ input. record { instance = d.instance.name; port = input } in
      let listed : Has (flat_map (λ input. sources_of system (to_input input)) d.output.needs) source =
      subst (λ found. Has (flat_map (λ input. sources_of system (to_input input)) (needs_of found)) source)
      (output_is system (ports_differ system kept) d.instance d.unit d.output d.instance_has d.unit_is d.has) has in
      let need = flat_has (λ input. sources_of system (to_input input)) d.output.needs source listed in
      let wire = wired system.wires (to_input need.one) source need.inside in
      let plain_need_has : Has (plain_needs d.unit d.output.needs) need.one =
      has_flat (plain_need d.unit) d.output.needs need.one need.one need.has
      (itself_by (is_among (event_input_names d.unit) need.one) (presence_name need.one) need.one) in
      let plain_wire_has : Has plain.wires wire.wire =
      has_flat (plain_wires system) system.wires wire.wire wire.wire wire.has
      (itself_by (is_event_output system wire.wire.from) (presence_wire wire.wire) wire.wire) in
      let source_has : Has (sources_of plain (to_input need.one)) source =
      subst (Has (sources_of plain (to_input need.one))) wire.from (has_source plain.wires (to_input need.one) wire.wire plain_wire_has wire.to) in
      let found_is =
      output_is plain (plain_differ system ranged kept) d.instance (plain_unit d.unit) (plain_one d.unit d.output) d.instance_has
      (plain_unit_is system ranged kept d.instance d.unit d.unit_is) (becomes d.unit d.output d.has).whole in
      record {
        stands = subst (IsIn (outputs_of system)) wire.from (comes_from_output wire.wire wire.has);
        needed =
            has_in (needed_by plain (port_of d.instance d.output.name)) source
            (subst (λ found. Has (flat_map (λ input. sources_of plain (to_input input)) (needs_of found)) source) (sym found_is)
            (has_flat (λ input. sources_of plain (to_input input)) (plain_needs d.unit d.output.needs) need.one source plain_need_has source_has));
      }

  pub still : (port source : PortName) → IsIn (outputs_of system) port → Has (needed_by system port) source → Still port source
  still port source stands =
      let d = declared system port stands in
      subst (λ p. Has (needed_by system p) source → Still p source) d.is (still_of port d source)

  -- ---- An orderly list of the plain form, without the ports `p?` of events

  abbrev pub is_output : PortName → Bool
  is_output port = list_any (same_port port) (outputs_of system)

  abbrev pub outputs_among : List PortName → List PortName
  outputs_among ports = filter is_output ports

  pub put : (told : Bool) (before later : List PortName) (port : PortName) → is_output port ≡ told → (IsIn before port → ⊥)
      → AllByRecursion (IsIn before) (needed_by plain port) → IsOrderlyAfter system (outputs_among before ++ cond told (port ∷ []) []) later
      → IsOrderlyAfter system (outputs_among before) (cond told (port ∷ later) later)
  put true before later port is apart all rest =
      let stands = is_in (outputs_of system) port is in (
        stands,
        (λ earlier. apart (was_in is_output before port earlier)),
        all_has (IsIn (outputs_among before)) (needed_by system port) (λ source has.
            let source_still = still port source stands has in
            kept_in is_output before source (told_in (outputs_of system) source source_still.stands)
            (each_in (IsIn before) (needed_by plain port) source all source_still.needed)),
        rest,
      )
  put false before later port is apart all rest = subst (λ front. IsOrderlyAfter system front later) (append-nil (outputs_among before)) rest

  pub orderly : (before order : List PortName) → IsOrderlyAfter plain before order → IsOrderlyAfter system (outputs_among before) (outputs_among order)
  orderly before [] is = tt
  orderly before (port ∷ later) is =
      put (is_output port) before (outputs_among later) port refl is.1 is.2
      (subst (λ front. IsOrderlyAfter system front (outputs_among later)) (filter-append is_output before (port ∷ []))
      (orderly (before ++ (port ∷ [])) later is.3))

  pub has_none_of_plain : HasNoCycle plain → HasNoCycle system
  has_none_of_plain no_cycle = (
    outputs_among no_cycle.0,
    orderly [] no_cycle.0 no_cycle.1,
    all_has (IsIn (outputs_among no_cycle.0)) (outputs_of system) (λ port has.
        let stands = has_in (outputs_of system) port has in
        kept_in is_output no_cycle.0 port (told_in (outputs_of system) port stands)
        (each_in (IsIn no_cycle.0) (outputs_of plain) port no_cycle.2
        (made_stands system ranged kept port stands port (itself_by (is_event_output system port) (presence_port port) port)))),
  )
