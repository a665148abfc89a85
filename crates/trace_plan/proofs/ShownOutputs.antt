-- An output of a judged system, and the output of the plain form that it is.
use Rattle.std.proofs.Common.{◌≡◌, ◌≤◌, ◌<◌, ℕ, zero, suc, ◌+◌, ◌*◌, true, false, cond, ℤ, pos, List, [], ◌∷◌, ◌++◌, map, length, Option, Some, None, inl, inr}
use Rattle.std.proofs.Common.{refl, ap, sym, subst, ◌∙◌, arith}
use Rattle.std.proofs.lemmas.List.{length-map}
use Rattle.std.proofs.lemmas.Option.{slice_get_within, same_Some}
use Rattle.std.specs.Prelude.{slice_get, is_none, ◌==◌}
use Rattle.std.specs.List.{AllByRecursion, flat_map, find}
use Rattle.std.specs.Str.{bytes_eq}
use Rattle.fixed_words.specs.Types.{AreDecimals}
use Rattle.trace_csv.specs.Columns.{instance_number, output_number}
use Rattle.trace_plan.specs.Shown.{output_count, starts_from, FewOutputs, IsPlaced}
use Rattle.unit_exec.proofs.CheckedUnits.{checked_units}
use Rattle.unit_tree.specs.Compositions.{HasNoEvents}
use Rattle.unit_tree.specs.Names.{Port, output_ports, output_names, unit_of_instance, output_at}
use Rattle.unit_tree.specs.Orders.{port_of, outputs_of}
use Rattle.unit_tree.specs.Plain.{presence_name, plain_output, plain_outputs, plain_unit, plain_form}
use Rattle.unit_tree.specs.Printable.{IsRanged}
use Rattle.unit_tree.specs.WellFormed.{IsWellFormed}
use Rattle.unit_tree.specs.declared.system.Instance.{Instance}
use Rattle.unit_tree.specs.declared.system.PortName.{PortName}
use Rattle.unit_tree.specs.declared.system.System.{System}
use Rattle.unit_tree.specs.declared.unit.EventOut.{EventOut}
use Rattle.unit_tree.specs.declared.unit.Output.{Output}
use Rattle.unit_tree.specs.declared.unit.Param.{Param}
use Rattle.unit_tree.specs.declared.unit.Unit.{Unit}
use Rattle.run_laws.proofs.EventLaws.{version_1_without_events, plain_form_1, plain_of_without_events}
use Rattle.language_laws.proofs.NameLaws.{NamesDiffer, PortsDiffer, ports_differ, names_differ, found}
use Rattle.run_laws.proofs.PlaceOrders.{has_in}
use Rattle.language_laws.proofs.PlainNames.{map_has, of_output, of_event, plain_port_names}
use Rattle.run_laws.proofs.PlainOrders.{Declared, declared, output_is, named_has, plain_of, plain_one, ones, twos, plain_ports, becomes, plain_unit_is}
use Rattle.run_laws.proofs.PlainOrders.{plain_names_differ}
use Rattle.run_laws.proofs.PortLaws.{output_has}
use Rattle.trace_plan.proofs.PlacedOutputs.{Placed, placed}
use Rattle.run_laws.proofs.PlainKept.{alike}
use Rattle.trace_plan.proofs.SystemLines.{few_instances}
use Rattle.list_laws.proofs.Members.{Has, Distinct, has_front, has_map, each_has, has_place}
use Rattle.list_laws.proofs.Truths.{one_or_two}

-- ---- The output in the plain form

module _ (run : System) (plain : HasNoEvents run) (differ : NamesDiffer run) where
  -- The output of the plain form for a port, and its place. The output with an event's word is not the first of its unit.
  pub record Shown (port : PortName) (output : Port) : Type 0 where
    pub instance : Instance
    pub unit : Unit
    pub made : Output
    pub placed : Placed run plain differ instance unit port made
    pub type_is : made.ty ≡ output.ty
    pub behind : output.is_event ≡ true → 0 < output_number run port

-- A list's element that is not the first one.
not_first : {A : Type 0} (xs : List A) (k : ℕ) (x : A) → slice_get xs k ≡ Some x → ((others : List A) → xs ≡ x ∷ others → ⊥) → 0 < k
not_first [] k x is other = absurd (cc)
not_first (first ∷ xs) zero x is other = let same : first ≡ x = cc in absurd (other xs (ap (λ y. y ∷ xs) same))
not_first (first ∷ xs) (suc k) x is other = omega arith

module _ (system : System) (ranged : IsRanged system) (kept : IsWellFormed system) where
  abbrev apart : PortsDiffer system
  apart = ports_differ system kept

  -- The declaration of a port that exists.
  declared_port : (port : PortName) (output : Port) → output_at system port ≡ Some output → (d : Declared system port) × (d.output ≡ output)
  declared_port port output is =
      let d = declared system port (has_in (outputs_of system) port (output_has system port (ap is_none is))) in
      let own = output_is system apart d.instance d.unit d.output d.instance_has d.unit_is d.has in
      (d, same_Some d.output output (sym own ∙ ap (output_at system) d.is ∙ is))

  -- ---- Version 1

  module _ (plain : HasNoEvents system) where
    without_events : (unit : Unit) → Has system.units unit → output_ports unit ≡ map of_output unit.outputs ++ []
    without_events unit has =
        ap (λ (events : List EventOut). map of_output unit.outputs ++ map of_event events)
        (each_has (λ (u : Unit). (u.events_in ≡ []) × (u.events_out ≡ [])) system.units unit plain has).1

    has_nil : {A : Type 0} (xs : List A) (x : A) → Has (xs ++ []) x → Has xs x
    has_nil [] x has = has
    has_nil (first ∷ xs) x (inl is) = inl is
    has_nil (first ∷ xs) x (inr has) = inr (has_nil xs x has)

    shown_first : (port : PortName) (output : Port) → output_at system port ≡ Some output → Shown system plain (names_differ system kept) port output
    shown_first port output is =
        let there = declared_port port output is in
        let d = there.0 in
        let from =
        map_has of_output d.unit.outputs d.output
        (has_nil (map of_output d.unit.outputs) d.output (subst (λ ports. Has ports d.output) (without_events d.unit d.unit_has) d.has)) in
        let at = placed system plain (names_differ system kept) d.instance d.unit from.one d.instance_has d.unit_is from.has in
        let same : port_of d.instance from.one.name ≡ port = ap (λ (o : Port). port_of d.instance o.name) from.is ∙ d.is in
        let all : of_output from.one ≡ output = from.is ∙ there.1 in
        record {
          instance = d.instance;
          unit = d.unit;
          made = from.one;
          placed = subst (λ p. Placed system plain (names_differ system kept) d.instance d.unit p from.one) same at;
          type_is = ap (λ (o : Port). o.ty) all;
          behind = λ event. let none : false ≡ true = ap (λ (o : Port). o.is_event) all ∙ event in absurd (cc);
        }

  -- ---- Version 2

  abbrev plain : System
  plain = plain_of system

  abbrev without : HasNoEvents plain
  without = plain_of_without_events system

  abbrev differ : NamesDiffer plain
  differ = plain_names_differ system ranged kept

  -- The word of an event is not a first output: the output before it says whether the event occurs.
  first_by : (unit : Unit) (port : Port) (made : Output) → Has system.units unit → Has (output_ports unit) port → port.is_event ≡ true → made.name ≡ port.name
      → (outputs : List Output) (events : List EventOut) → unit.outputs ≡ outputs → unit.events_out ≡ events → (others : List Output)
      → map (plain_output unit) outputs ++ flat_map (plain_outputs unit) events ≡ made ∷ others → ⊥
  first_by unit port made unit_has has event name [] [] outputs_are events_are others is = absurd (cc)
  first_by unit port made unit_has has event name [] (first ∷ events) outputs_are events_are others is =
      let said : presence_name first.name ≡ made.name = cc in
      (plain_port_names system ranged unit unit_has port has).name first.name (sym name ∙ sym said)
  first_by unit port made unit_has has event name (first ∷ outputs) events outputs_are events_are others is =
      let said : first.name ≡ made.name = cc in
      let distinct = each_has (λ u. Distinct (output_names u)) system.units unit apart.outputs unit_has in
      let has_first : Has (output_ports unit) (of_output first) =
      has_front (map of_output unit.outputs) (map of_event unit.events_out) (of_output first)
      (has_map of_output unit.outputs first (subst (λ all. Has all first) (sym outputs_are) (inl refl))) in
      let one = found (λ (p : Port). p.name) (output_ports unit) port distinct has in
      let other = found (λ (p : Port). p.name) (output_ports unit) (of_output first) distinct has_first in
      let same_name : first.name ≡ port.name = said ∙ name in
      let same : of_output first ≡ port =
      same_Some (of_output first) port (sym other ∙ ap (λ wanted. find (λ (p : Port). bytes_eq p.name wanted) (output_ports unit)) same_name ∙ one) in
      let none : false ≡ true = ap (λ (p : Port). p.is_event) same ∙ event in
      absurd (cc)

  shown_second : (port : PortName) (output : Port) → output_at system port ≡ Some output → Shown plain without differ port output
  shown_second port output is =
      let there = declared_port port output is in
      let d = there.0 in
      let unit = plain_unit d.unit in
      let whole = (becomes d.unit d.output d.has).whole in
      let from =
      map_has of_output (ones d.unit ++ twos d.unit) (plain_one d.unit d.output)
      (subst (λ ports. Has ports (plain_one d.unit d.output)) (plain_ports d.unit) whole) in
      let name : from.one.name ≡ d.output.name = ap (λ (o : Port). o.name) from.is in
      let unit_is = plain_unit_is system ranged kept d.instance d.unit d.unit_is in
      let at = placed plain without differ d.instance unit from.one d.instance_has unit_is from.has in
      let same : port_of d.instance from.one.name ≡ port = ap (port_of d.instance) name ∙ d.is in
      let here = subst (λ p. Placed plain without differ d.instance unit p from.one) same at in
      record {
        instance = d.instance;
        unit = unit;
        made = from.one;
        placed = here;
        type_is = ap (λ (o : Port). o.ty) from.is ∙ ap (λ (o : Port). o.ty) there.1;
        behind = λ event.
            not_first (ones d.unit ++ twos d.unit) (output_number plain port) from.one here.is_output
            (λ others cut. first_by d.unit d.output from.one d.unit_has d.has
            (ap (λ (o : Port). o.is_event) there.1 ∙ event) name d.unit.outputs d.unit.events_out refl refl others cut);
      }

-- ---- Both versions

-- The output of the plain form for a port of the system, and its place there.
pub record ShownOf (run : System) (port : PortName) (output : Port) : Type 0 where
  pub no_events : HasNoEvents run
  pub differ : NamesDiffer run
  pub shown : Shown run no_events differ port output

module _ (system : System) (ranged : IsRanged system) (kept : IsWellFormed system) where
  pub shown_of : (port : PortName) (output : Port) → output_at system port ≡ Some output → ShownOf (plain_form system) port output
  shown_of port output is = elim (one_or_two system.version ranged.version.0 ranged.version.1) [
    | inl first ↦
        let none = version_1_without_events system ranged first in
        subst (λ run. ShownOf run port output) (sym (plain_form_1 system first))
        (record { no_events = none; differ = names_differ system kept; shown = shown_first system ranged kept none port output is })
    | inr second ↦
        subst (λ version. ShownOf (cond (version == 2) (plain_of system) system) port output) (sym second)
        (record {
          no_events = plain_of_without_events system;
          differ = plain_names_differ system ranged kept;
          shown =
              shown_second system ranged kept port output is;
        })
  ]

  abbrev run : System
  run = plain_form system

  -- ---- How many there are

  -- How a unit of the run is compiled.
  pub record Limited (unit : Unit) : Type 0 where
    pub outputs : length unit.outputs ≤ 32
    pub decimals : AllByRecursion (λ (output : Output). AreDecimals output.ty) unit.outputs

  pub unit_limited : (unit : Unit) → Has run.units unit → Limited unit
  unit_limited unit has =
      let at = has_place run.units unit has in
      let some_words : List ℤ = map (λ (param : Param). pos 0) unit.params in
      let fits = checked_units system ranged kept at.0 unit at.1 some_words (length-map unit.params (λ (param : Param). pos 0)) in
      record { outputs = fits.outputs; decimals = fits.output_types }

  few_by : (given : Option Unit) → ((unit : Unit) → given ≡ Some unit → Has run.units unit) → output_count given ≤ 32
  few_by None has = omega arith
  few_by (Some unit) has = (unit_limited unit (has unit refl)).outputs

  pub few_outputs : FewOutputs run
  few_outputs = λ instance. few_by (unit_of_instance run instance) (λ unit is. named_has run.units instance.unit unit is)

  pub run_instances : length run.instances ≤ 64
  run_instances = subst (λ instances. length instances ≤ 64) (sym (alike system).instances) (few_instances system kept)

  -- Each instance adds at most 32 to the starts.
  starts_low : (instances : List Instance) (count n start : ℕ) → slice_get (starts_from run count instances) n ≡ Some start → start ≤ count + 32 * n
  starts_low [] count n start is = absurd (cc)
  starts_low (first ∷ instances) count zero start is = let same : count ≡ start = cc in omega (arith, same)
  starts_low (first ∷ instances) count (suc n) start is =
      let later = starts_low instances (count + output_count (unit_of_instance run first)) n start is in
      omega (arith, later, few_outputs first)

  pub placed_of : (port : PortName) (output : Port) → output_at system port ≡ Some output → IsPlaced run (starts_from run 0 run.instances) port
  placed_of port output is =
      let of = shown_of port output is in
      let at = of.shown.placed in
      let unit_has = named_has run.units of.shown.instance.unit of.shown.unit at.is_unit in
      let in_instances = slice_get_within run.instances (instance_number run port) of.shown.instance at.is_instance in
      let in_outputs = slice_get_within of.shown.unit.outputs (output_number run port) of.shown.made at.is_output in
      let low = starts_low run.instances 0 (instance_number run port) at.start at.is_start in
      let outputs = (unit_limited of.shown.unit unit_has).outputs in
      record {
        instance = of.shown.instance;
        unit = of.shown.unit;
        start = at.start;
        is_instance = at.is_instance;
        is_unit = at.is_unit;
        is_start = at.is_start;
        number = at.number;
        place = at.place;
        few_instances = omega (arith, in_instances, run_instances);
        few_outputs = omega (arith, in_outputs, outputs);
        few_places = omega (arith, at.place, low, in_instances, run_instances, in_outputs, outputs);
      }
