-- Systems without event ports.
use Rattle.std.proofs.Common.{◌≡◌, ◌⊎◌, inl, inr, zero, ◌==◌, cond, Bool, false, List, [], ◌∷◌, ◌++◌, map, refl, sym, subst, ap}
use Rattle.std.specs.List.{AllByRecursion, flat_map, list_any}
use Rattle.std.proofs.lemmas.Grind.{flat_map-append}
use Rattle.std.proofs.lemmas.Bool.{or_parts}
use Rattle.unit_tree.specs.Canonical.{optional, unit_parts, canonical_forms}
use Rattle.unit_tree.specs.Compositions.{HasNoEvents}
use Rattle.unit_tree.specs.Parts as parts
use Rattle.unit_tree.specs.Parts.{Part, unit_part_forms, part_forms}
use Rattle.unit_tree.specs.Plain.{plain_unit, plain_form}
use Rattle.unit_tree.specs.Printable.{IsRanged, is_event_port}
use Rattle.unit_tree.specs.declared.line_form.LineForm.{LineForm}
use Rattle.unit_tree.specs.declared.line_form.LineForm.TheVariants as form
use Rattle.unit_tree.specs.declared.system.System.{System}
use Rattle.unit_tree.specs.declared.unit.EventIn.{EventIn}
use Rattle.unit_tree.specs.declared.unit.EventOut.{EventOut}
use Rattle.unit_tree.specs.declared.unit.Unit.{Unit}
use Rattle.run_laws.proofs.PlainOrders.{plain_of}
use Rattle.list_laws.proofs.Truths.{one_or_two}

-- ---- Lines that declare no event port

abbrev has_event : List LineForm → Bool
has_event = list_any is_event_port

in_both : (one other : List LineForm) → has_event (one ++ other) ≡ false → (has_event one ≡ false) × (has_event other ≡ false)
in_both [] other told = (refl, told)
in_both (line ∷ one) other told =
    let first = or_parts (is_event_port line) (has_event (one ++ other)) told in
    let rest = in_both one other first.1 in
    (rw (first.0, rest.0) refl, rest.1)

of_both : {P : Type 0} (forms : P → List LineForm) (one other : List P) → has_event (flat_map forms (one ++ other)) ≡ false
    → (has_event (flat_map forms one) ≡ false) × (has_event (flat_map forms other) ≡ false)
of_both forms one other told =
    in_both (flat_map forms one) (flat_map forms other) (subst (λ lines. has_event lines ≡ false) (flat_map-append forms one other) told)

-- ---- A unit

none_in : (events : List EventIn) → has_event (flat_map unit_part_forms (map parts.HasEventIn events)) ≡ false → events ≡ []
none_in [] told = refl
none_in (event ∷ events) told = absurd (cc told)

none_out : (events : List EventOut) → has_event (flat_map unit_part_forms (map parts.HasEventOut events)) ≡ false → events ≡ []
none_out [] told = refl
none_out (event ∷ events) told = absurd (cc told)

unit_has_none : (unit : Unit) → has_event (flat_map unit_part_forms (unit_parts unit)) ≡ false → (unit.events_in ≡ []) × (unit.events_out ≡ [])
unit_has_none unit told =
    let to_inputs =
    optional parts.Resolution unit.resolution ++ map parts.HasParam unit.params ++ map parts.HasState unit.states ++ map parts.HasLocal unit.locals
    ++ map parts.HasInput unit.inputs in
    let to_events = to_inputs ++ map parts.HasEventIn unit.events_in in
    let to_outputs = to_events ++ map parts.HasOutput unit.outputs in
    let to_all = to_outputs ++ map parts.HasEventOut unit.events_out in
    let no_step = of_both unit_part_forms (to_all ++ optional parts.Max unit.max) (optional parts.Step unit.step) told in
    let no_max = of_both unit_part_forms to_all (optional parts.Max unit.max) no_step.0 in
    let given = of_both unit_part_forms to_outputs (map parts.HasEventOut unit.events_out) no_max.0 in
    let no_output = of_both unit_part_forms to_events (map parts.HasOutput unit.outputs) given.0 in
    let taken = of_both unit_part_forms to_inputs (map parts.HasEventIn unit.events_in) no_output.0 in
    (none_in unit.events_in taken.1, none_out unit.events_out given.1)

-- ---- A system

abbrev as_part : Unit → Part
as_part unit = parts.HasUnit unit.name (unit_parts unit)

units_have_none : (units : List Unit) → has_event (flat_map part_forms (map as_part units)) ≡ false
    → AllByRecursion (λ unit. (unit.events_in ≡ []) × (unit.events_out ≡ [])) units
units_have_none [] told = tt
units_have_none (unit ∷ units) told =
    let both = in_both (part_forms (as_part unit)) (flat_map part_forms (map as_part units)) told in
    (unit_has_none unit (in_both (flat_map unit_part_forms (unit_parts unit)) (form.End ∷ []) both.0).0, units_have_none units both.1)

-- Lines of a system that declare no event port.
without_events : (system : System) → has_event (canonical_forms system) ≡ false → HasNoEvents system
without_events system told =
    let units = map as_part system.units in
    let to_instances = units ++ map parts.HasInstance system.instances in
    let to_wires = to_instances ++ map parts.Connects system.wires in
    let to_stop = to_wires ++ optional parts.Stop system.stop in
    let to_longest = to_stop ++ optional parts.Longest system.longest in
    let to_zero = to_longest ++ optional parts.Zero system.zero in
    let to_rows = to_zero ++ optional parts.Rows system.rows in
    let no_samples = of_both part_forms to_rows (map parts.Samples system.samples) told in
    let no_rows = of_both part_forms to_zero (optional parts.Rows system.rows) no_samples.0 in
    let no_zero = of_both part_forms to_longest (optional parts.Zero system.zero) no_rows.0 in
    let no_longest = of_both part_forms to_stop (optional parts.Longest system.longest) no_zero.0 in
    let no_stop = of_both part_forms to_wires (optional parts.Stop system.stop) no_longest.0 in
    let no_wires = of_both part_forms to_instances (map parts.Connects system.wires) no_stop.0 in
    let no_instances = of_both part_forms units (map parts.HasInstance system.instances) no_wires.0 in
    units_have_none system.units no_instances.0

pub version_1_without_events : (system : System) → IsRanged system → system.version ≡ 1 → HasNoEvents system
version_1_without_events system ranged is = without_events system (ranged.events is)

-- ---- Plain forms

pub plain_form_1 : (system : System) → system.version ≡ 1 → plain_form system ≡ system
plain_form_1 system is = ap (λ version. cond (version == 2) (plain_of system) system) is

plain_units_have_none : (units : List Unit) → AllByRecursion (λ unit. (unit.events_in ≡ []) × (unit.events_out ≡ [])) (map plain_unit units)
plain_units_have_none [] = tt
plain_units_have_none (unit ∷ units) = ((refl, refl), plain_units_have_none units)

pub plain_of_without_events : (system : System) → HasNoEvents (plain_of system)
plain_of_without_events system = plain_units_have_none system.units

pub plain_form_without_events : (system : System) → IsRanged system → HasNoEvents (plain_form system)
plain_form_without_events system ranged = by_version (one_or_two system.version ranged.version.0 ranged.version.1)
  where
    by_version : (system.version ≡ 1) ⊎ (system.version ≡ 2) → HasNoEvents (plain_form system)
    by_version (inl is) = subst HasNoEvents (sym (plain_form_1 system is)) (version_1_without_events system ranged is)
    by_version (inr is) = subst (λ version. HasNoEvents (cond (version == 2) (plain_of system) system)) (sym is) (plain_of_without_events system)
