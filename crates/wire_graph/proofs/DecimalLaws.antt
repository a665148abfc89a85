-- The types of inputs in the plain form of a system in range have decimals that the language allows.
use Rattle.std.proofs.Common.{◌==◌, Bool, true, false, cond, List, [], ◌∷◌, ◌++◌, map, inl, refl}
use Rattle.std.specs.List.{AllByRecursion, flat_map}
use Rattle.fixed_words.specs.Types.{AreDecimals}
use Rattle.unit_tree.specs.Canonical.{optional, canonical_forms}
use Rattle.unit_tree.specs.Parts as parts
use Rattle.unit_tree.specs.Parts.{UnitPart, unit_part_forms}
use Rattle.unit_tree.specs.Plain.{plain_inputs, plain_unit, plain_form}
use Rattle.unit_tree.specs.Printable.{IsRanged}
use Rattle.unit_tree.specs.declared.line_form.LineForm.{LineForm}
use Rattle.unit_tree.specs.declared.line_form.LineForm.TheVariants as form
use Rattle.unit_tree.specs.declared.system.System.{System}
use Rattle.unit_tree.specs.declared.unit.EventIn.{EventIn}
use Rattle.unit_tree.specs.declared.unit.Input.{Input}
use Rattle.unit_tree.specs.declared.unit.Unit.{Unit}
use Rattle.language_laws.proofs.PlainNames.{in_range, unit_line}
use Rattle.run_laws.proofs.PlainOrders.{plain_of}
use Rattle.wire_graph.specs.Origins.{HaveDecimals}
use Rattle.list_laws.proofs.Members.{Has, has_front, has_behind, has_map, all_has}

-- ---- The lines of inputs

abbrev to_locals : Unit → List UnitPart
to_locals unit = optional parts.Resolution unit.resolution ++ map parts.HasParam unit.params ++ map parts.HasState unit.states ++ map parts.HasLocal unit.locals

abbrev to_inputs : Unit → List UnitPart
to_inputs unit = to_locals unit ++ map parts.HasInput unit.inputs

abbrev to_events : Unit → List UnitPart
to_events unit = to_inputs unit ++ map parts.HasEventIn unit.events_in

module _ (system : System) (ranged : IsRanged system) where
  early_line : (unit : Unit) (part : UnitPart) (line : LineForm) → Has system.units unit → Has (to_events unit) part → Has (unit_part_forms part) line
      → Has (canonical_forms system) line
  early_line unit part line unit_has has inside =
      let outputs = map parts.HasOutput unit.outputs in
      let events = map parts.HasEventOut unit.events_out in
      unit_line system ranged unit unit_has part line (has_front (to_events unit ++ outputs) events part (has_front (to_events unit) outputs part has)) inside

  input_decimals : (unit : Unit) (input : Input) → Has system.units unit → Has unit.inputs input → AreDecimals input.ty
  input_decimals unit input unit_has has =
      (in_range system ranged (form.Input input) (early_line unit (parts.HasInput input) (form.Input input) unit_has
      (has_front (to_inputs unit) (map parts.HasEventIn unit.events_in) (parts.HasInput input)
      (has_behind (to_locals unit) (map parts.HasInput unit.inputs) (parts.HasInput input) (has_map parts.HasInput unit.inputs input has))) (inl refl))).0

  event_decimals : (unit : Unit) (event : EventIn) → Has system.units unit → Has unit.events_in event → AreDecimals event.ty
  event_decimals unit event unit_has has =
      (in_range system ranged (form.EventInput event) (early_line unit (parts.HasEventIn event) (form.EventInput event) unit_has
      (has_behind (to_inputs unit) (map parts.HasEventIn unit.events_in) (parts.HasEventIn event) (has_map parts.HasEventIn unit.events_in event has))
      (inl refl))).0

  -- ---- In the plain form

  both_decimals : (inputs others : List Input) → HaveDecimals inputs → HaveDecimals others → HaveDecimals (inputs ++ others)
  both_decimals [] others one other = other
  both_decimals (input ∷ inputs) others one other = (one.0, both_decimals inputs others one.1 other)

  events_decimals : (events : List EventIn) → AllByRecursion (λ event. AreDecimals event.ty) events → HaveDecimals (flat_map plain_inputs events)
  events_decimals [] all = tt
  events_decimals (event ∷ events) all = (tt, (all.0, events_decimals events all.1))

  here : (unit : Unit) → Has system.units unit → HaveDecimals unit.inputs
  here unit has = all_has (λ (input : Input). AreDecimals input.ty) unit.inputs (λ input inside. input_decimals unit input has inside)

  plain_here : (unit : Unit) → Has system.units unit → HaveDecimals (plain_unit unit).inputs
  plain_here unit has =
      both_decimals unit.inputs (flat_map plain_inputs unit.events_in) (here unit has)
      (events_decimals unit.events_in
      (all_has (λ (event : EventIn). AreDecimals event.ty) unit.events_in (λ event inside. event_decimals unit event has inside)))

  plain_units : (some : List Unit) → AllByRecursion (λ unit. HaveDecimals (plain_unit unit).inputs) some
      → AllByRecursion (λ unit. HaveDecimals unit.inputs) (map plain_unit some)
  plain_units [] all = tt
  plain_units (unit ∷ some) all = (all.0, plain_units some all.1)

  by_version : (told : Bool) → AllByRecursion (λ unit. HaveDecimals unit.inputs) (cond told (plain_of system) system).units
  by_version true = plain_units system.units (all_has (λ unit. HaveDecimals (plain_unit unit).inputs) system.units plain_here)
  by_version false = all_has (λ unit. HaveDecimals unit.inputs) system.units here

  pub plain_decimals : AllByRecursion (λ unit. HaveDecimals unit.inputs) (plain_form system).units
  plain_decimals = by_version (system.version == 2)
