-- The plain form of a well-formed system in range has names that differ, and no cycle where the system has none.
use Rattle.std.proofs.Common.{◌≡◌, ℕ, Bool, true, false, cond, List, [], ◌∷◌, ◌++◌, map, Option, Some, None, inl, inr, refl, ap, sym, subst, ◌∙◌, ◌⊎◌}
use Rattle.std.proofs.Common.{append-nil, append_assoc}
use Rattle.std.proofs.lemmas.Grind.{flat_map-append}
use Rattle.std.proofs.lemmas.Option.{same_Some}
use Rattle.std.specs.Prelude.{unwrap_or}
use Rattle.std.specs.List.{AllByRecursion, flat_map, filter_map, cons_option}
use Rattle.std.specs.Option.{option_map, option_and_then}
use Rattle.std.specs.Str.{bytes_eq}
use Rattle.fixed_words.specs.declared.types.Ty.TheVariants as types
use Rattle.unit_tree.specs.Names.{Port, input_at, input_names, input_ports, output_ports, output_names, event_input_names, is_among, unit_named}
use Rattle.unit_tree.specs.Names.{unit_of_instance, port_named, output_at, same_port}
use Rattle.unit_tree.specs.Orders.{IsIn, IsOrderlyAfter, HasNoCycle, port_of, outputs_in, outputs_of, source_if, sources_of, needs_of, needed_by}
use Rattle.unit_tree.specs.Plain.{presence_name, plain_need, plain_needs, plain_output, plain_outputs, plain_unit, presence_port, is_event_output, plain_wires}
use Rattle.unit_tree.specs.Plain.{samples_or_all}
use Rattle.unit_tree.specs.Printable.{IsRanged}
use Rattle.unit_tree.specs.WellFormed.{IsWellFormed}
use Rattle.unit_tree.specs.declared.system.Instance.{Instance}
use Rattle.unit_tree.specs.declared.system.PortName.{PortName}
use Rattle.unit_tree.specs.declared.system.System.{System}
use Rattle.unit_tree.specs.declared.system.Wire.{Wire}
use Rattle.unit_tree.specs.declared.unit.EventOut.{EventOut}
use Rattle.unit_tree.specs.declared.unit.Output.{Output}
use Rattle.unit_tree.specs.declared.unit.Unit.{Unit}
use Rattle.language_laws.proofs.NameLaws.{NamesDiffer, PortsDiffer, ports_differ, same_port_of, found}
use Rattle.language_laws.proofs.OrderLaws.{each_in, in_front}
use Rattle.run_laws.proofs.PlaceOrders.{in_has, has_in, same_port_is}
use Rattle.language_laws.proofs.PlainNames.{has_flat, Mapped, map_has, Flat, flat_has, IsPlain, same_presence, PlainNames, plain_wire}
use Rattle.language_laws.proofs.PlainNames.{plain_port_names, of_output, of_event}
use Rattle.list_laws.proofs.Members.{Has, Distinct, has_front, has_behind, has_either, has_map, all_has, each_has}
use Rattle.list_laws.proofs.Lists.{each_so, each_more}

-- ---- Outputs of a system with their declarations

-- An output of a system, with its instance, its unit, and what declares it.
pub record Declared (system : System) (port : PortName) : Type 0 where
  pub instance : Instance
  pub unit : Unit
  pub output : Port
  pub instance_has : Has system.instances instance
  pub unit_is : unit_of_instance system instance ≡ Some unit
  pub unit_has : Has system.units unit
  pub has : Has (output_ports unit) output
  pub is : port_of instance output.name ≡ port

pub named_by : (first unit : Unit) (units : List Unit) (rest : Option Unit) (told : Bool) → (rest ≡ Some unit → Has units unit)
    → cond told (Some first) rest ≡ Some unit → Has (first ∷ units) unit
named_by first unit units rest true later is = inl (cc)
named_by first unit units rest false later is = inr (later is)

pub named_has : (units : List Unit) (name : List ℕ) (unit : Unit) → unit_named units name ≡ Some unit → Has units unit
named_has [] name unit is = absurd (cc)
named_has (first ∷ units) name unit is = named_by first unit units (unit_named units name) (bytes_eq first.name name) (named_has units name unit) is

module _ (system : System) where
  abbrev pub ports_with : Instance → List Port → List PortName
  ports_with instance ports = map (λ (output : Port). port_of instance output.name) ports

  abbrev pub ports_of : Instance → List PortName
  ports_of instance = ports_with instance (outputs_in (unit_of_instance system instance))

  pub declared_by : (instance : Instance) (given : Option Unit) (port : PortName) → Has system.instances instance → unit_of_instance system instance ≡ given
      → Has (ports_with instance (outputs_in given)) port → Declared system port
  declared_by instance None port instance_has unit_is has = absurd has
  declared_by instance (Some unit) port instance_has unit_is has =
      let from = map_has (λ (output : Port). port_of instance output.name) (output_ports unit) port has in
      record {
        instance = instance;
        unit = unit;
        output = from.one;
        instance_has = instance_has;
        unit_is = unit_is;
        unit_has = named_has system.units instance.unit unit unit_is;
        has = from.has;
        is = from.is;
      }

  pub declared : (port : PortName) → IsIn (outputs_of system) port → Declared system port
  declared port stands =
      let from = flat_has ports_of system.instances port (in_has (outputs_of system) port stands) in
      declared_by from.one (unit_of_instance system from.one) port from.has refl from.inside

  pub stands_there : (instance : Instance) (unit : Unit) (output : Port) → Has system.instances instance → unit_of_instance system instance ≡ Some unit
      → Has (output_ports unit) output → IsIn (outputs_of system) (port_of instance output.name)
  stands_there instance unit output instance_has unit_is has =
      has_in (outputs_of system) (port_of instance output.name)
      (has_flat ports_of system.instances instance (port_of instance output.name) instance_has
      (subst (λ given. Has (ports_with instance (outputs_in given)) (port_of instance output.name)) (sym unit_is)
      (has_map (λ (o : Port). port_of instance o.name) (output_ports unit) output has)))

  pub output_is : PortsDiffer system → (instance : Instance) (unit : Unit) (output : Port) → Has system.instances instance
      → unit_of_instance system instance ≡ Some unit → Has (output_ports unit) output → output_at system (port_of instance output.name) ≡ Some output
  output_is differ instance unit output instance_has unit_is has =
      ap (λ named. option_and_then (λ u. port_named (output_ports u) output.name) (option_and_then (unit_of_instance system) named))
      (found (λ (i : Instance). i.name) system.instances instance differ.instances instance_has)
      ∙ ap (option_and_then (λ u. port_named (output_ports u) output.name)) unit_is
      ∙ found (λ (port : Port). port.name) (output_ports unit) output
      (each_has (λ u. Distinct (output_names u)) system.units unit differ.outputs (named_has system.units instance.unit unit unit_is)) has

-- An input is found by its name.
pub input_is : (system : System) → Distinct (map (λ (i : Instance). i.name) system.instances)
    → AllByRecursion (λ unit. Distinct (input_names unit)) system.units → (instance : Instance) (unit : Unit) (port : Port) → Has system.instances instance
    → unit_of_instance system instance ≡ Some unit → Has (input_ports unit) port → input_at system (port_of instance port.name) ≡ Some port
input_is system instances inputs instance unit port instance_has unit_is has =
    ap (λ named. option_and_then (λ u. port_named (input_ports u) port.name) (option_and_then (unit_of_instance system) named))
    (found (λ (i : Instance). i.name) system.instances instance instances instance_has)
    ∙ ap (option_and_then (λ u. port_named (input_ports u) port.name)) unit_is
    ∙ found (λ (p : Port). p.name) (input_ports unit) port
    (each_has (λ u. Distinct (input_names u)) system.units unit inputs (named_has system.units instance.unit unit unit_is)) has

-- ---- Units

-- The plain outputs of a port.
abbrev pub plain_one : Unit → Port → Port
plain_one unit port = record { name = port.name; ty = port.ty; is_event = false; needs = plain_needs unit port.needs }

abbrev pub presence_one : Unit → Port → Port
presence_one unit port = record { name = presence_name port.name; ty = types.Bool; is_event = false; needs = plain_needs unit port.needs }

abbrev pub ones : Unit → List Output
ones unit = map (plain_output unit) unit.outputs

abbrev pub twos : Unit → List Output
twos unit = flat_map (plain_outputs unit) unit.events_out

pub plain_ports : (unit : Unit) → output_ports (plain_unit unit) ≡ map of_output (ones unit ++ twos unit)
plain_ports unit = append-nil (map of_output (ones unit ++ twos unit))

pub has_plain_ports : (unit : Unit) (output : Output) → Has (ones unit ++ twos unit) output → Has (output_ports (plain_unit unit)) (of_output output)
has_plain_ports unit output has = subst (λ ports. Has ports (of_output output)) (sym (plain_ports unit)) (has_map of_output (ones unit ++ twos unit) output has)

-- What a port of a unit becomes.
pub record Becomes (unit : Unit) (port : Port) : Type 0 where
  pub whole : Has (output_ports (plain_unit unit)) (plain_one unit port)
  pub presence : port.is_event ≡ true → Has (output_ports (plain_unit unit)) (presence_one unit port)

pub becomes : (unit : Unit) (port : Port) → Has (output_ports unit) port → Becomes unit port
becomes unit port has = elim (has_either (map of_output unit.outputs) (map of_event unit.events_out) port has) [
  | inl here ↦ of_one (map_has of_output unit.outputs port here)
  | inr here ↦ of_two (map_has of_event unit.events_out port here)
]
  where
    of_one : Mapped of_output unit.outputs port → Becomes unit port
    of_one from = subst (Becomes unit) from.is (record {
      whole = has_plain_ports unit (plain_output unit from.one)
          (has_front (ones unit) (twos unit) (plain_output unit from.one) (has_map (plain_output unit) unit.outputs from.one from.has));
      presence = λ is. absurd (cc);
    })

    of_two : Mapped of_event unit.events_out port → Becomes unit port
    of_two from =
        let made : (output : Output) → Has (plain_outputs unit from.one) output → Has (output_ports (plain_unit unit)) (of_output output) =
        λ output inside.
        has_plain_ports unit output
        (has_behind (ones unit) (twos unit) output (has_flat (plain_outputs unit) unit.events_out from.one output from.has inside)) in
        subst (Becomes unit) from.is (record { whole = made _ (inr (inl refl)); presence = λ is. made _ (inl refl) })

-- What a port of the plain form comes from.
pub record Comes (unit : Unit) (port : Port) : Type 0 where
  pub from : Port
  pub has : Has (output_ports unit) from
  pub is : (port.name ≡ from.name) ⊎ ((from.is_event ≡ true) × (port.name ≡ presence_name from.name))

pub comes : (unit : Unit) (port : Port) → Has (output_ports (plain_unit unit)) port → Comes unit port
comes unit port has = of_made (map_has of_output (ones unit ++ twos unit) port (subst (λ ports. Has ports port) (plain_ports unit) has))
  where
    of_one : (output : Output) → Has (ones unit) output → Comes unit (of_output output)
    of_one output here =
        let made = map_has (plain_output unit) unit.outputs output here in
        subst (λ o. Comes unit (of_output o)) made.is
        (record {
          from = of_output made.one;
          has =
              has_front (map of_output unit.outputs) (map of_event unit.events_out) (of_output made.one) (has_map of_output unit.outputs made.one made.has);
          is =
              inl refl;
        })

    of_event_port : (event : EventOut) → Has unit.events_out event → Has (output_ports unit) (of_event event)
    of_event_port event has_event =
        has_behind (map of_output unit.outputs) (map of_event unit.events_out) (of_event event) (has_map of_event unit.events_out event has_event)

    of_two : (output : Output) (made : Flat (plain_outputs unit) unit.events_out output) → Has (plain_outputs unit made.one) output
        → Comes unit (of_output output)
    of_two output made (inl is) =
        subst (λ o. Comes unit (of_output o)) is (record { from = of_event made.one; has = of_event_port made.one made.has; is = inr (refl, refl) })
    of_two output made (inr (inl is)) =
        subst (λ o. Comes unit (of_output o)) is (record { from = of_event made.one; has = of_event_port made.one made.has; is = inl refl })
    of_two output made (inr (inr none)) = absurd none

    of_made : Mapped of_output (ones unit ++ twos unit) port → Comes unit port
    of_made made = subst (Comes unit) made.is (elim (has_either (ones unit) (twos unit) made.one made.has) [
      | inl here ↦ of_one made.one here
      | inr here ↦ let two = flat_has (plain_outputs unit) unit.events_out made.one here in of_two made.one two two.inside
    ])

-- Names of a unit's plain form differ.
abbrev pub both_names : EventOut → List (List ℕ)
both_names event = presence_name event.name ∷ event.name ∷ []

abbrev pub output_name : Output → List ℕ
output_name output = output.name

pub twos_names : (unit : Unit) (events : List EventOut) → map output_name (flat_map (plain_outputs unit) events) ≡ flat_map both_names events
twos_names unit [] = refl
twos_names unit (event ∷ events) = ap (λ rest. presence_name event.name ∷ event.name ∷ rest) (twos_names unit events)

pub names_are : (unit : Unit) (outputs : List Output) (events : List EventOut)
    → map output_name (map (plain_output unit) outputs ++ flat_map (plain_outputs unit) events) ≡ map output_name outputs ++ flat_map both_names events
names_are unit [] events = twos_names unit events
names_are unit (output ∷ outputs) events = ap (λ rest. output.name ∷ rest) (names_are unit outputs events)

abbrev pub event_name : EventOut → List ℕ
event_name event = event.name

-- A name among those of both ports is the event port's, or that of its `?` port.
pub among_both : (events : List EventOut) (name : List ℕ) → Has (flat_map both_names events) name
    → Has (map event_name events) name ⊎ ((other : List ℕ) × Has (map event_name events) other × (name ≡ presence_name other))
among_both [] name has = absurd has
among_both (event ∷ events) name (inl is) = inr (event.name, inl refl, sym is)
among_both (event ∷ events) name (inr (inl is)) = inl (inl is)
among_both (event ∷ events) name (inr (inr has)) = elim (among_both events name has) [
  | inl later ↦ inl (inr later)
  | inr later ↦ inr (later.0, inr later.1, later.2)
]

pub both_apart : (events : List EventOut) → Distinct (map event_name events) → AllByRecursion IsPlain (map event_name events)
    → Distinct (flat_map both_names events)
both_apart [] apart plain = tt
both_apart (event ∷ events) apart plain = (presence_not, (name_not, both_apart events apart.1 plain.1))
  where
    name_not : Has (flat_map both_names events) event.name → ⊥
    name_not has = elim (among_both events event.name has) [ inl later ↦ apart.0 later | inr later ↦ plain.0 later.0 later.2 ]

    presence_not : Has (event.name ∷ flat_map both_names events) (presence_name event.name) → ⊥
    presence_not (inl is) = plain.0 event.name is
    presence_not (inr has) = elim (among_both events (presence_name event.name) has) [
      | inl later ↦ each_has IsPlain (map event_name events) (presence_name event.name) plain.1 later event.name refl
      | inr later ↦ apart.0 (subst (Has (map event_name events)) (sym (same_presence event.name later.0 later.2)) later.1)
    ]

pub names_apart : (outputs : List Output) (events : List EventOut) → Distinct (map output_name outputs ++ map event_name events)
    → AllByRecursion IsPlain (map output_name outputs ++ map event_name events) → Distinct (map output_name outputs ++ flat_map both_names events)
names_apart [] events apart plain = both_apart events apart plain
names_apart (output ∷ outputs) events apart plain = (name_not, names_apart outputs events apart.1 plain.1)
  where
    name_not : Has (map output_name outputs ++ flat_map both_names events) output.name → ⊥
    name_not has = elim (has_either (map output_name outputs) (flat_map both_names events) output.name has) [
      | inl here ↦ apart.0 (has_front (map output_name outputs) (map event_name events) output.name here)
      | inr there ↦ elim (among_both events output.name there) [
        | inl later ↦ apart.0 (has_behind (map output_name outputs) (map event_name events) output.name later)
        | inr later ↦ plain.0 later.0 later.2
      ]
    ]

pub source_names : (outputs : List Output) (events : List EventOut)
    → map (λ (port : Port). port.name) (map of_output outputs ++ map of_event events) ≡ map output_name outputs ++ map event_name events
source_names [] [] = refl
source_names [] (event ∷ events) = ap (λ rest. event.name ∷ rest) (source_names [] events)
source_names (output ∷ outputs) events = ap (λ rest. output.name ∷ rest) (source_names outputs events)

pub unit_apart : (unit : Unit) → Distinct (output_names unit) → AllByRecursion IsPlain (output_names unit) → Distinct (map output_name (ones unit ++ twos unit))
unit_apart unit apart plain =
    subst Distinct (sym (names_are unit unit.outputs unit.events_out))
    (names_apart unit.outputs unit.events_out (subst Distinct (source_names unit.outputs unit.events_out) apart)
    (subst (AllByRecursion IsPlain) (source_names unit.outputs unit.events_out) plain))

pub made_names : (outputs : List Output) → map (λ (port : Port). port.name) (map of_output outputs) ≡ map output_name outputs
made_names [] = refl
made_names (output ∷ outputs) = ap (λ rest. output.name ∷ rest) (made_names outputs)

-- ---- Systems

-- The plain form of a system of version 2.
abbrev pub plain_of : System → System
plain_of system = record system {
  units = map plain_unit system.units;
  wires = flat_map (plain_wires system) system.wires;
  samples = samples_or_all system;
}

pub plain_named_by : (told : Bool) (first : Unit) (plain rest : Option Unit) → plain ≡ option_map plain_unit rest
    → cond told (Some (plain_unit first)) plain ≡ option_map plain_unit (cond told (Some first) rest)
plain_named_by true first plain rest is = refl
plain_named_by false first plain rest is = is

pub plain_named : (units : List Unit) (name : List ℕ) → unit_named (map plain_unit units) name ≡ option_map plain_unit (unit_named units name)
plain_named [] name = refl
plain_named (first ∷ units) name =
    plain_named_by (bytes_eq first.name name) first (unit_named (map plain_unit units) name) (unit_named units name) (plain_named units name)

-- A connection to a port, in a list.
pub record Joined (wires : List Wire) (port source : PortName) : Type 0 where
  pub wire : Wire
  pub has : Has wires wire
  pub to : wire.to ≡ port
  pub from : wire.from ≡ source

pub wired_by : (told : Bool) (first : Wire) (wires : List Wire) (port source : PortName) (rest : List PortName) → same_port first.to port ≡ told
    → (Has rest source → Joined wires port source) → Has (cons_option (cond told (Some first.from) None) rest) source → Joined (first ∷ wires) port source
wired_by true first wires port source rest told later (inl is) = record { wire = first; has = inl refl; to = same_port_is first.to port told; from = is }
wired_by true first wires port source rest told later (inr has) = let wired = later has in
    record { wire = wired.wire; has = inr wired.has; to = wired.to; from = wired.from }
wired_by false first wires port source rest told later has = let wired = later has in
    record { wire = wired.wire; has = inr wired.has; to = wired.to; from = wired.from }

pub wired : (wires : List Wire) (port source : PortName) → Has (filter_map (source_if port) wires) source → Joined wires port source
wired [] port source has = absurd has
wired (first ∷ wires) port source has =
    wired_by (same_port first.to port) first wires port source (filter_map (source_if port) wires) refl (wired wires port source) has

pub has_source_by : (told : Bool) (first source : PortName) (rest : List PortName) → Has rest source
    → Has (cons_option (cond told (Some first) None) rest) source
has_source_by true first source rest has = inr has
has_source_by false first source rest has = has

pub has_source : (wires : List Wire) (port : PortName) (wire : Wire) → Has wires wire → wire.to ≡ port → Has (filter_map (source_if port) wires) wire.from
has_source [] port wire has to = absurd has
has_source (first ∷ wires) port wire (inl is) to =
    let same : same_port first.to port ≡ true = same_port_of first.to port (ap (λ (w : Wire). w.to) is ∙ to) in
    subst (λ told. Has (cons_option (cond told (Some first.from) None) (filter_map (source_if port) wires)) wire.from) (sym same)
    (inl (ap (λ (w : Wire). w.from) is))
has_source (first ∷ wires) port wire (inr has) to =
    has_source_by (same_port first.to port) first.from wire.from (filter_map (source_if port) wires) (has_source wires port wire has to)

abbrev pub presence_wire : Wire → Wire
presence_wire wire = record { from = presence_port wire.from; to = presence_port wire.to }

-- A connection of the plain form is one of the system, or connects the two `?` ports of event ports.
pub wire_by : (told : Bool) (wire plain : Wire) → Has (cond told (presence_wire wire ∷ wire ∷ []) (wire ∷ [])) plain
    → (wire ≡ plain) ⊎ ((told ≡ true) × (presence_wire wire ≡ plain))
wire_by true wire plain (inl is) = inr (refl, is)
wire_by true wire plain (inr (inl is)) = inl is
wire_by true wire plain (inr (inr none)) = absurd none
wire_by false wire plain (inl is) = inl is
wire_by false wire plain (inr none) = absurd none

pub need_by : (told : Bool) (need input : List ℕ) → Has (cond told (presence_name need ∷ need ∷ []) (need ∷ [])) input
    → (need ≡ input) ⊎ (presence_name need ≡ input)
need_by true need input (inl is) = inr is
need_by true need input (inr (inl is)) = inl is
need_by true need input (inr (inr none)) = absurd none
need_by false need input (inl is) = inl is
need_by false need input (inr none) = absurd none

pub port_by : (told : Bool) (port made : PortName) → Has (cond told (presence_port port ∷ port ∷ []) (port ∷ [])) made
    → (port ≡ made) ⊎ (presence_port port ≡ made)
port_by true port made (inl is) = inr is
port_by true port made (inr (inl is)) = inl is
port_by true port made (inr (inr none)) = absurd none
port_by false port made (inl is) = inl is
port_by false port made (inr none) = absurd none

pub same_ports : (one other : PortName) → one.instance ≡ other.instance → one.port ≡ other.port → one ≡ other
same_ports one other same_instance same_name =
    ap (λ instance. record { instance = instance; port = one.port }) same_instance
    ∙ ap (λ port. record { instance = other.instance; port = port }) same_name

-- A unit that the plain form has is that of one.
pub comes_from : (units : List Unit) (name : List ℕ) (given : Option Unit) (plain : Unit) → unit_named units name ≡ given
    → option_map plain_unit given ≡ Some plain → (unit : Unit) × (unit_named units name ≡ Some unit) × (plain_unit unit ≡ plain)
comes_from units name None plain is made = absurd (cc)
comes_from units name (Some unit) plain is made = (unit, is, same_Some (plain_unit unit) plain made)

module _ (system : System) (ranged : IsRanged system) (kept : IsWellFormed system) where
  abbrev pub plain : System
  plain = plain_of system

  abbrev pub differ : PortsDiffer system
  differ = ports_differ system kept

  pub plain_names_of : (unit : Unit) → Has system.units unit → AllByRecursion IsPlain (output_names unit)
  plain_names_of unit has =
      all_has IsPlain (output_names unit) (λ name stands.
      let from = map_has (λ (port : Port). port.name) (output_ports unit) name stands in
      subst IsPlain from.is (plain_port_names system ranged unit has from.one from.has).name)

  pub units_apart : (units : List Unit) → AllByRecursion (λ unit. Distinct (output_names unit) × AllByRecursion IsPlain (output_names unit)) units
      → AllByRecursion (λ unit. Distinct (map (λ output. output.name) unit.outputs)) (map plain_unit units)
  units_apart [] all = tt
  units_apart (unit ∷ units) all = (unit_apart unit all.0.0 all.0.1, units_apart units all.1)

  pub ports_apart : (units : List Unit) → AllByRecursion (λ unit. Distinct (output_names unit) × AllByRecursion IsPlain (output_names unit)) units
      → AllByRecursion (λ unit. Distinct (output_names unit)) (map plain_unit units)
  ports_apart [] all = tt
  ports_apart (unit ∷ units) all = (
    subst (λ (ports : List Port). Distinct (map (λ port. port.name) ports)) (sym (plain_ports unit))
        (subst Distinct (sym (made_names (ones unit ++ twos unit))) (unit_apart unit all.0.0 all.0.1)),
    ports_apart units all.1,
  )

  pub each_unit : AllByRecursion (λ unit. Distinct (output_names unit) × AllByRecursion IsPlain (output_names unit)) system.units
  each_unit = all_has _ system.units (λ unit has. (each_has (λ u. Distinct (output_names u)) system.units unit differ.outputs has, plain_names_of unit has))

  pub plain_names_differ : NamesDiffer plain
  plain_names_differ = record { instances = differ.instances; outputs = units_apart system.units each_unit }

  pub plain_differ : PortsDiffer plain
  plain_differ = record { instances = differ.instances; outputs = ports_apart system.units each_unit }

  -- ---- What a port becomes

  abbrev pub split_by : Bool → PortName → List PortName
  split_by told port = cond told (presence_port port ∷ port ∷ []) (port ∷ [])

  abbrev pub split : PortName → List PortName
  split port = split_by (is_event_output system port) port

  abbrev pub splits : List PortName → List PortName
  splits ports = flat_map split ports

  pub has_itself : (told : Bool) (port : PortName) → Has (split_by told port) port
  has_itself true port = inr (inl refl)
  has_itself false port = inl refl

  pub has_presence : (told : Bool) (port : PortName) → told ≡ true → Has (split_by told port) (presence_port port)
  has_presence true port is = inl refl
  has_presence false port is = absurd (cc)

  pub in_splits : (ports : List PortName) (port made : PortName) → IsIn ports port → Has (split port) made → IsIn (splits ports) made
  in_splits ports port made stands has = has_in (splits ports) made (has_flat split ports port made (in_has ports port stands) has)

  pub is_event_is : (d : Port) (instance : Instance) (unit : Unit) → Has system.instances instance → unit_of_instance system instance ≡ Some unit
      → Has (output_ports unit) d → is_event_output system (port_of instance d.name) ≡ d.is_event
  is_event_is d instance unit instance_has unit_is has =
      ap (λ given. unwrap_or (option_map (λ (o : Port). o.is_event) given) false) (output_is system differ instance unit d instance_has unit_is has)

  pub plain_unit_is : (instance : Instance) (unit : Unit) → unit_of_instance system instance ≡ Some unit
      → unit_of_instance plain instance ≡ Some (plain_unit unit)
  plain_unit_is instance unit is = plain_named system.units instance.unit ∙ ap (option_map plain_unit) is

  -- What an orderly list requires of an output of the plain form that comes next.
  abbrev pub Next : List PortName → PortName → Type 0
  Next before made = IsIn (outputs_of plain) made × (IsIn (splits before) made → ⊥) × AllByRecursion (IsIn (splits before)) (needed_by plain made)

  pub plain_name : (port : PortName) → IsIn (outputs_of system) port → IsPlain port.port
  plain_name port stands = let d = declared system port stands in
      subst (λ (p : PortName). IsPlain p.port) d.is (plain_port_names system ranged d.unit d.unit_has d.output d.has).name

  -- What two ports become is equal only where the ports are.
  pub same_origin : (one other made : PortName) → IsPlain one.port → IsPlain other.port → (one ≡ made) ⊎ (presence_port one ≡ made)
      → (other ≡ made) ⊎ (presence_port other ≡ made) → one ≡ other
  same_origin one other made plain_one_name plain_other_name (inl is) (inl is') = is ∙ sym is'
  same_origin one other made plain_one_name plain_other_name (inl is) (inr is') =
      absurd (plain_one_name other.port (ap (λ (p : PortName). p.port) (is ∙ sym is')))
  same_origin one other made plain_one_name plain_other_name (inr is) (inl is') =
      absurd (plain_other_name one.port (ap (λ (p : PortName). p.port) (is' ∙ sym is)))
  same_origin one other made plain_one_name plain_other_name (inr is) (inr is') =
      let same : presence_port one ≡ presence_port other = is ∙ sym is' in
      same_ports one other (ap (λ (p : PortName). p.instance) same) (same_presence one.port other.port (ap (λ (p : PortName). p.port) same))

  pub not_before : (before : List PortName) (port made : PortName) → AllByRecursion (IsIn (outputs_of system)) before → IsPlain port.port
      → Has (split port) made → IsIn (splits before) made → IsIn before port
  not_before before port made outputs name has stands =
      let from = flat_has split before made (in_has (splits before) made stands) in
      let one_in = has_in before from.one from.has in
      let one_name = plain_name from.one (each_in (IsIn (outputs_of system)) before from.one outputs one_in) in
      let same =
      same_origin from.one port made one_name name (port_by (is_event_output system from.one) from.one made from.inside)
      (port_by (is_event_output system port) port made has) in
      subst (IsIn before) same one_in

  module _ (instance : Instance) (unit : Unit) (output : Port) (instance_has : Has system.instances instance)
      (unit_is : unit_of_instance system instance ≡ Some unit) (has : Has (output_ports unit) output) where
    abbrev port : PortName
    port = port_of instance output.name

    abbrev unit_has : Has system.units unit
    unit_has = named_has system.units instance.unit unit unit_is

    abbrev names : PlainNames output
    names = plain_port_names system ranged unit unit_has output has

    -- What an output becomes, as the plain form declares it.
    record Made (made : PortName) : Type 0 where
      pub declaring : Port
      pub stands : Has (output_ports (plain_unit unit)) declaring
      pub is : port_of instance declaring.name ≡ made
      pub needs : declaring.needs ≡ plain_needs unit output.needs

    made_by : (told : Bool) (made : PortName) → output.is_event ≡ told → Has (split_by told port) made → Made made
    made_by true made event (inl is) = record { declaring = presence_one unit output; stands = (becomes unit output has).presence event; is = is; needs = refl }
    made_by true made event (inr (inl is)) = record { declaring = plain_one unit output; stands = (becomes unit output has).whole; is = is; needs = refl }
    made_by true made event (inr (inr none)) = absurd none
    made_by false made event (inl is) = record { declaring = plain_one unit output; stands = (becomes unit output has).whole; is = is; needs = refl }
    made_by false made event (inr none) = absurd none

    abbrev to_input : List ℕ → PortName
    to_input input = record { instance = instance.name; port = input }

    needed_source : (wire : Wire) (need : List ℕ) → Has system.wires wire → Has output.needs need → wire.to ≡ to_input need
        → IsIn (needed_by system port) wire.from
    needed_source wire need wire_has need_has to =
        has_in (needed_by system port) wire.from
        (subst (λ found. Has (flat_map (λ input. sources_of system (to_input input)) (needs_of found)) wire.from)
        (sym (output_is system differ instance unit output instance_has unit_is has))
        (has_flat (λ input. sources_of system (to_input input)) output.needs need wire.from need_has
        (has_source system.wires (to_input need) wire wire_has to)))

    -- The source of a connection of the plain form comes before, if the outputs that the port depends on do in the
    -- system.
    source_in : (before : List PortName) (wire made : Wire) (need input : List ℕ) → AllByRecursion (IsIn before) (needed_by system port)
        → Has system.wires wire → Has output.needs need → made.to ≡ to_input input
        → (wire ≡ made) ⊎ ((is_event_output system wire.from ≡ true) × (presence_wire wire ≡ made)) → (need ≡ input) ⊎ (presence_name need ≡ input)
        → IsIn (splits before) made.from
    source_in before wire made need input all wire_has need_has to (inl is) (inl same) =
        let stands =
        each_in (IsIn before) (needed_by system port) wire.from all
        (needed_source wire need wire_has need_has (ap (λ (w : Wire). w.to) is ∙ to ∙ ap to_input (sym same))) in
        in_splits before wire.from made.from stands
        (subst (Has (split wire.from)) (ap (λ (w : Wire). w.from) is) (has_itself (is_event_output system wire.from) wire.from))
    source_in before wire made need input all wire_has need_has to (inl is) (inr same) =
        absurd (plain_wire system ranged wire wire_has need (ap (λ (w : Wire). w.to.port) is ∙ ap (λ (p : PortName). p.port) to ∙ sym same))
    source_in before wire made need input all wire_has need_has to (inr is) (inl same) =
        absurd (names.needs need need_has wire.to.port (same ∙ sym (ap (λ (p : PortName). p.port) to) ∙ sym (ap (λ (w : Wire). w.to.port) is.1)))
    source_in before wire made need input all wire_has need_has to (inr is) (inr same) =
        let name : presence_name wire.to.port ≡ presence_name need = ap (λ (w : Wire). w.to.port) is.1 ∙ ap (λ (p : PortName). p.port) to ∙ sym same in
        let at : wire.to ≡ to_input need =
        same_ports wire.to (to_input need) (ap (λ (w : Wire). w.to.instance) is.1 ∙ ap (λ (p : PortName). p.instance) to)
        (same_presence wire.to.port need name) in
        let stands = each_in (IsIn before) (needed_by system port) wire.from all (needed_source wire need wire_has need_has at) in
        in_splits before wire.from made.from stands
        (subst (Has (split wire.from)) (ap (λ (w : Wire). w.from) is.1) (has_presence (is_event_output system wire.from) wire.from is.0))

    needed_in : (before : List PortName) (declaring : Port) → AllByRecursion (IsIn before) (needed_by system port)
        → Has (output_ports (plain_unit unit)) declaring → declaring.needs ≡ plain_needs unit output.needs → (source : PortName)
        → Has (needed_by plain (port_of instance declaring.name)) source → IsIn (splits before) source
    needed_in before declaring all stands needs source source_has =
        let found_is = output_is plain plain_differ instance (plain_unit unit) declaring instance_has (plain_unit_is instance unit unit_is) stands in
        let listed : Has (flat_map (λ input. sources_of plain (to_input input)) (plain_needs unit output.needs)) source =
        subst (λ all_needs. Has (flat_map (λ input. sources_of plain (to_input input)) all_needs) source) needs
        (subst (λ found_one. Has (flat_map (λ input. sources_of plain (to_input input)) (needs_of found_one)) source) found_is source_has) in
        let of_input = flat_has (λ input. sources_of plain (to_input input)) (plain_needs unit output.needs) source listed in
        let of_need = flat_has (plain_need unit) output.needs of_input.one of_input.has in
        let of_wire = wired plain.wires (to_input of_input.one) source of_input.inside in
        let of_source = flat_has (plain_wires system) system.wires of_wire.wire of_wire.has in
        subst (IsIn (splits before)) of_wire.from
        (source_in before of_source.one of_wire.wire of_need.one of_input.one all of_source.has of_need.has of_wire.to
        (wire_by (is_event_output system of_source.one.from) of_source.one of_wire.wire of_source.inside)
        (need_by (is_among (event_input_names unit) of_need.one) of_need.one of_input.one of_need.inside))

    next_of : (before : List PortName) → AllByRecursion (IsIn (outputs_of system)) before → (IsIn before port → ⊥)
        → AllByRecursion (IsIn before) (needed_by system port) → (made : PortName) → Has (split port) made → Next before made
    next_of before outputs apart all made made_has =
        let event = is_event_is output instance unit instance_has unit_is has in
        let from = made_by (is_event_output system port) made (sym event) made_has in (
          subst (IsIn (outputs_of plain)) from.is
              (stands_there plain instance (plain_unit unit) from.declaring instance_has (plain_unit_is instance unit unit_is) from.stands),
          (λ stands. apart (not_before before port made outputs names.name made_has stands)),
          subst (λ p. AllByRecursion (IsIn (splits before)) (needed_by plain p)) from.is
              (all_has (IsIn (splits before)) (needed_by plain (port_of instance from.declaring.name))
              (needed_in before from.declaring all from.stands from.needs)),
        )

  -- The plain form has what an output becomes.
  pub made_stands : (port : PortName) → IsIn (outputs_of system) port → (made : PortName) → Has (split port) made → IsIn (outputs_of plain) made
  made_stands port stands =
      let d = declared system port stands in
      subst (λ p. (made : PortName) → Has (split p) made → IsIn (outputs_of plain) made) d.is (λ made made_has.
      let event = is_event_is d.output d.instance d.unit d.instance_has d.unit_is d.has in
      let from =
      made_by d.instance d.unit d.output d.instance_has d.unit_is d.has (is_event_output system (port_of d.instance d.output.name)) made (sym event) made_has in
      subst (IsIn (outputs_of plain)) from.is
      (stands_there plain d.instance (plain_unit d.unit) from.declaring d.instance_has (plain_unit_is d.instance d.unit d.unit_is) from.stands))

  pub next : (before : List PortName) (port : PortName) → AllByRecursion (IsIn (outputs_of system)) before → IsIn (outputs_of system) port
      → (IsIn before port → ⊥) → AllByRecursion (IsIn before) (needed_by system port) → (made : PortName) → Has (split port) made → Next before made
  next before port outputs stands =
      let d = declared system port stands in
      subst (λ p. (IsIn before p → ⊥) → AllByRecursion (IsIn before) (needed_by system p) → (made : PortName) → Has (split p) made → Next before made) d.is
      (next_of d.instance d.unit d.output d.instance_has d.unit_is d.has before outputs)

  pub put : (told : Bool) (before later : List PortName) (port : PortName) → IsPlain port.port
      → ((made : PortName) → Has (split_by told port) made → Next before made) → IsOrderlyAfter plain (splits before ++ split_by told port) later
      → IsOrderlyAfter plain (splits before) (split_by told port ++ later)
  put false before later port name each rest = let here = each port (inl refl) in (here.0, here.1, here.2, rest)
  put true before later port name each rest =
      let first = each (presence_port port) (inl refl) in
      let second = each port (inr (inl refl)) in (
        first.0,
        first.1,
        first.2,
        (
          second.0,
          (λ stands. elim (has_either (splits before) (presence_port port ∷ []) port (in_has (splits before ++ (presence_port port ∷ [])) port stands)) [
            | inl earlier ↦ second.1 (has_in (splits before) port earlier)
            | inr there ↦ itself_not there
          ]),
          each_so (IsIn (splits before)) (IsIn (splits before ++ (presence_port port ∷ [])))
              (in_front (splits before) (presence_port port ∷ [])) (needed_by plain port) second.2,
          subst (λ front. IsOrderlyAfter plain front later) (sym (append_assoc (splits before) (presence_port port ∷ []) (port ∷ []))) rest,
        ),
      )
    where
      itself_not : Has (presence_port port ∷ []) port → ⊥
      itself_not (inl is) = name port.port (sym (ap (λ (p : PortName). p.port) is))
      itself_not (inr none) = none

  pub splits_longer : (before : List PortName) (port : PortName) → splits (before ++ (port ∷ [])) ≡ splits before ++ split port
  splits_longer before port = flat_map-append split before (port ∷ []) ∙ ap (λ rest. splits before ++ rest) (append-nil (split port))

  pub ordered : (before order : List PortName) → AllByRecursion (IsIn (outputs_of system)) before → IsOrderlyAfter system before order
      → IsOrderlyAfter plain (splits before) (splits order)
  ordered before [] outputs orderly = tt
  ordered before (port ∷ later) outputs orderly =
      put (is_event_output system port) before (splits later) port (plain_name port orderly.0) (next before port outputs orderly.0 orderly.1 orderly.2)
      (subst (λ front. IsOrderlyAfter plain front (splits later)) (splits_longer before port)
      (ordered (before ++ (port ∷ [])) later (each_more (IsIn (outputs_of system)) before port outputs orderly.0) orderly.3))

  -- ---- All outputs of the plain form are there

  pub made_has : (instance : Instance) (unit : Unit) (output : Port) (come : Comes unit output) → Has system.instances instance
      → unit_of_instance system instance ≡ Some unit
      → (output.name ≡ come.from.name) ⊎ ((come.from.is_event ≡ true) × (output.name ≡ presence_name come.from.name))
      → Has (split (port_of instance come.from.name)) (port_of instance output.name)
  made_has instance unit output come instance_has unit_is (inl same) =
      subst (Has (split (port_of instance come.from.name))) (ap (port_of instance) (sym same))
      (has_itself (is_event_output system (port_of instance come.from.name)) (port_of instance come.from.name))
  made_has instance unit output come instance_has unit_is (inr is) =
      subst (Has (split (port_of instance come.from.name))) (ap (port_of instance) (sym is.1))
      (has_presence (is_event_output system (port_of instance come.from.name)) (port_of instance come.from.name)
      (is_event_is come.from instance unit instance_has unit_is come.has ∙ is.0))

  pub all_stand : (order : List PortName) → AllByRecursion (IsIn order) (outputs_of system) → AllByRecursion (IsIn (splits order)) (outputs_of plain)
  all_stand order all =
      all_has (IsIn (splits order)) (outputs_of plain) (λ made has.
      let d = declared plain made (has_in (outputs_of plain) made has) in
      let unit =
      comes_from system.units d.instance.unit (unit_of_instance system d.instance) d.unit refl (sym (plain_named system.units d.instance.unit) ∙ d.unit_is) in
      let come = comes unit.0 d.output (subst (λ u. Has (output_ports u) d.output) (sym unit.2) d.has) in
      let stands =
      each_in (IsIn order) (outputs_of system) (port_of d.instance come.from.name) all
      (stands_there system d.instance unit.0 come.from d.instance_has unit.1 come.has) in
      subst (IsIn (splits order)) d.is
      (in_splits order (port_of d.instance come.from.name) (port_of d.instance d.output.name) stands
      (made_has d.instance unit.0 d.output come d.instance_has unit.1 come.is)))

  pub plain_has_no_cycle : HasNoCycle system → HasNoCycle plain
  plain_has_no_cycle no_cycle = (splits no_cycle.0, ordered [] no_cycle.0 tt no_cycle.1, all_stand no_cycle.0 no_cycle.2)
