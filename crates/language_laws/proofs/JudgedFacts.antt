-- What follows for a judged system from the rules about inputs, connections and the names that
-- outputs use.
use Rattle.std.proofs.Common.{◌≡◌, ℕ, true, false, List, [], ◌∷◌, ◌++◌, append_assoc, map, Some, refl, ap, subst}
use Rattle.std.specs.Prelude.{is_none}
use Rattle.std.specs.List.{AllByRecursion, flat_map}
use Rattle.std.specs.Str.{bytes_eq}
use Rattle.std.proofs.lemmas.Grind.{flat_map-append}
use Rattle.std.proofs.lemmas.Bool.{or_parts}
use Rattle.unit_tree.specs.Canonical.{optional, unit_parts}
use Rattle.unit_tree.specs.Names.{Port, input_names, output_at, input_at}
use Rattle.unit_tree.specs.Parts as parts
use Rattle.unit_tree.specs.Parts.{UnitPart}
use Rattle.unit_tree.specs.Sites.{Scope, TopScope, UnitScope, Site, Headed, alone, sites, headed_unit_part, headed_part, sites_of}
use Rattle.unit_tree.specs.WellFormed.{IsWellFormed, misnames, hides_need, uses_other_input, differ, joins_other_types, redeclares, name_declared}
use Rattle.unit_tree.specs.declared.line_form.LineForm.{LineForm}
use Rattle.unit_tree.specs.declared.line_form.LineForm.TheVariants as form
use Rattle.unit_tree.specs.declared.system.System.{System}
use Rattle.unit_tree.specs.declared.system.Wire.{Wire}
use Rattle.unit_tree.specs.declared.unit.EventIn.{EventIn}
use Rattle.unit_tree.specs.declared.unit.EventOut.{EventOut}
use Rattle.unit_tree.specs.declared.unit.Input.{Input}
use Rattle.unit_tree.specs.declared.unit.Output.{Output}
use Rattle.unit_tree.specs.declared.unit.Unit.{Unit}
use Rattle.language_laws.proofs.NameLaws.{bytes_of, all_keep, Hold, hold_all, hold_front, hold_behind, apart, Keeps, name_unsaid, all_declaring, declaring_head}
use Rattle.language_laws.proofs.NameLaws.{said, said_units, drop_last, outputs_hold, kept_parts, wire_head}
use Rattle.language_laws.proofs.PartLaws.{unit_is}
use Rattle.list_laws.proofs.Members.{Distinct}

-- ---- Units

abbrev unit_sites : Unit → List Site
unit_sites unit = sites (UnitScope (said unit)) [] (flat_map (headed_unit_part (said unit)) (unit_parts unit) ++ (alone form.End ∷ []))

-- The declaration of an input.
data Asking : Type 0 where
  OfInput : Input → Asking
  OfEventIn : EventIn → Asking

abbrev asking_head : Asking → Headed
asking_head (OfInput input) = alone (form.Input input)
asking_head (OfEventIn event) = alone (form.EventInput event)

abbrev asking_name : Asking → List ℕ
asking_name (OfInput input) = input.name
asking_name (OfEventIn event) = event.name

asking_asks : (asking : Asking) → name_declared (asking_head asking).head ≡ Some (asking_name asking)
asking_asks (OfInput input) = refl
asking_asks (OfEventIn event) = refl

abbrev all_asking : List Input → List EventIn → List Asking
all_asking inputs events = map OfInput inputs ++ map OfEventIn events

input_heads : (unit : Unit) (inputs : List Input) (events : List EventIn)
    → flat_map (headed_unit_part unit) (map parts.HasInput inputs ++ map parts.HasEventIn events) ≡ map asking_head (all_asking inputs events)
input_heads unit [] [] = refl
input_heads unit [] (event ∷ events) = ap (λ rest. alone (form.EventInput event) ∷ rest) (input_heads unit [] events)
input_heads unit (input ∷ inputs) events = ap (λ rest. alone (form.Input input) ∷ rest) (input_heads unit inputs events)

asking_names : (inputs : List Input) (events : List EventIn)
    → map asking_name (all_asking inputs events)
    ≡ map (λ (port : Port). port.name)
    (map (λ (input : Input). record { name = input.name; ty = input.ty; is_event = false; needs = [] }) inputs
    ++ map (λ (event : EventIn). record { name = event.name; ty = event.ty; is_event = true; needs = [] }) events)
asking_names [] [] = refl
asking_names [] (event ∷ events) = ap (λ rest. event.name ∷ rest) (asking_names [] events)
asking_names (input ∷ inputs) events = ap (λ rest. input.name ∷ rest) (asking_names inputs events)

module _ (P : Site → Type 0) where
  -- The inputs of a unit, also event inputs.
  inputs_hold : (unit : Unit) → AllByRecursion P (unit_sites unit)
      → (before : List LineForm) × Hold P (UnitScope (said unit)) before (map asking_head (all_asking unit.inputs unit.events_in))
  inputs_hold unit all =
      let scope : Scope = UnitScope (said unit) in
      let headed : UnitPart → List Headed = headed_unit_part (said unit) in
      let before : List UnitPart =
      optional parts.Resolution unit.resolution ++ map parts.HasParam unit.params ++ map parts.HasState unit.states ++ map parts.HasLocal unit.locals in
      let inputs : List UnitPart = map parts.HasInput unit.inputs in
      let events : List UnitPart = map parts.HasEventIn unit.events_in in
      let outputs : List UnitPart = map parts.HasOutput unit.outputs in
      let events_out : List UnitPart = map parts.HasEventOut unit.events_out in
      let greatest : List UnitPart = optional parts.Max unit.max in
      let step : List UnitPart = optional parts.Step unit.step in
      let whole =
      hold_front P scope [] (flat_map headed (unit_parts unit)) (alone form.End ∷ [])
      (hold_all P scope [] (flat_map headed (unit_parts unit) ++ (alone form.End ∷ [])) all) in
      let a = drop_last P headed scope [] (((((before ++ inputs) ++ events) ++ outputs) ++ events_out) ++ greatest) step whole in
      let b = drop_last P headed scope [] ((((before ++ inputs) ++ events) ++ outputs) ++ events_out) greatest a in
      let c = drop_last P headed scope [] (((before ++ inputs) ++ events) ++ outputs) events_out b in
      let d = drop_last P headed scope [] ((before ++ inputs) ++ events) outputs c in
      let parted = subst (λ all_parts. Hold P scope [] (flat_map headed all_parts)) (append_assoc before inputs events) d in
      let here =
      hold_behind P scope [] (flat_map headed before) (flat_map headed (inputs ++ events))
      (subst (Hold P scope []) (flat_map-append headed before (inputs ++ events)) parted) in
      (here.0, subst (Hold P scope here.0) (input_heads (said unit) unit.inputs unit.events_in) here.1)

  units_along : (Q : Unit → Type 0) → ((unit : Unit) → AllByRecursion P (unit_sites unit) → Q unit) → (units : List Unit) (earlier : List LineForm)
      → Hold P TopScope earlier (flat_map headed_part (said_units units)) → AllByRecursion Q units
  units_along Q each [] earlier hold = tt
  units_along Q each (unit ∷ units) earlier hold = (each unit hold.1, units_along Q each units (earlier ++ (form.Unit unit.name ∷ [])) hold.2)

-- ---- Systems

-- The names that the outputs of a unit use.
pub record UsesNeeds (unit : Unit) : Type 0 where
  pub outputs : AllByRecursion (λ (output : Output). uses_other_input unit output.needs output.value ≡ false) unit.outputs
  pub events : AllByRecursion (λ (event : EventOut). uses_other_input unit event.needs event.value ≡ false) unit.events_out

-- Whether the ends of a connection exist, and have the same type.
pub record IsJoined (system : System) (wire : Wire) : Type 0 where
  pub from : is_none (output_at system wire.from) ≡ false
  pub to : is_none (input_at system wire.to) ≡ false
  pub same : differ (output_at system wire.from) (input_at system wire.to) ≡ false

module _ (system : System) (well_formed : IsWellFormed system) where
  pub inputs_differ : AllByRecursion (λ unit. Distinct (input_names unit)) system.units
  inputs_differ =
      let held = kept_parts (Keeps system) system (all_keep (redeclares system) 1 (sites_of system) well_formed.0) in
      units_along (Keeps system) (λ unit. Distinct (input_names unit)) each system.units (form.Header system.version ∷ []) held.units
    where
      each : (unit : Unit) → AllByRecursion (Keeps system) (unit_sites unit) → Distinct (input_names unit)
      each unit all =
          let here = inputs_hold (Keeps system) unit all in
          subst Distinct (asking_names unit.inputs unit.events_in)
          (apart (Keeps system) bytes_eq bytes_of asking_head asking_name name_declared asking_asks (name_unsaid system) (UnitScope (said unit)) here.0
          (all_asking unit.inputs unit.events_in) here.1).0

  abbrev Shows : Site → Type 0
  Shows site = hides_need site.scope site.line ≡ false

  outputs_use : (unit : Unit) (before : List LineForm) (outputs : List Output) (events : List EventOut)
      → Hold Shows (UnitScope unit) before (map declaring_head (all_declaring outputs events))
      → AllByRecursion (λ (output : Output). uses_other_input unit output.needs output.value ≡ false) outputs
      × AllByRecursion (λ (event : EventOut). uses_other_input unit event.needs event.value ≡ false) events
  outputs_use unit before [] [] hold = (tt, tt)
  outputs_use unit before [] (event ∷ events) hold = (tt, (hold.0, (outputs_use unit (before ++ (form.EventOutput event ∷ [])) [] events hold.2).1))
  outputs_use unit before (output ∷ outputs) events hold =
      let rest = outputs_use unit (before ++ (form.Output output ∷ [])) outputs events hold.2 in ((hold.0, rest.0), rest.1)

  pub uses_needs : AllByRecursion UsesNeeds system.units
  uses_needs =
      let held = kept_parts Shows system (all_keep (λ site. hides_need site.scope site.line) 1 (sites_of system) well_formed.1.1.1.1.0) in
      units_along Shows UsesNeeds each system.units (form.Header system.version ∷ []) held.units
    where
      each : (unit : Unit) → AllByRecursion Shows (unit_sites unit) → UsesNeeds unit
      each unit all =
          let here = outputs_hold Shows unit all in
          let used = outputs_use (said unit) here.0 unit.outputs unit.events_out here.1 in
          record {
            outputs =
                subst (λ (u : Unit). AllByRecursion (λ (output : Output). uses_other_input u output.needs output.value ≡ false) unit.outputs)
                (unit_is unit) used.0;
            events = subst (λ (u : Unit). AllByRecursion (λ (event : EventOut). uses_other_input u event.needs event.value ≡ false) unit.events_out)
                (unit_is unit) used.1;
          }

  abbrev NamesEnds : Site → Type 0
  NamesEnds site = misnames system site.scope site.line ≡ false

  abbrev JoinsTypes : Site → Type 0
  JoinsTypes site = joins_other_types system site.line ≡ false

  wires_joined : (wires : List Wire) (before earlier : List LineForm) → Hold NamesEnds TopScope before (map wire_head wires)
      → Hold JoinsTypes TopScope earlier (map wire_head wires) → AllByRecursion (IsJoined system) wires
  wires_joined [] before earlier named joined = tt
  wires_joined (wire ∷ wires) before earlier named joined =
      let ends = or_parts (is_none (output_at system wire.from)) (is_none (input_at system wire.to)) named.0 in (
        record { from = ends.0; to = ends.1; same = joined.0 },
        wires_joined wires (before ++ (form.Connect wire ∷ [])) (earlier ++ (form.Connect wire ∷ [])) named.2 joined.2,
      )

  pub joined_wires : AllByRecursion (IsJoined system) system.wires
  joined_wires =
      let named = kept_parts NamesEnds system (all_keep (λ site. misnames system site.scope site.line) 1 (sites_of system) well_formed.1.0) in
      let joined = kept_parts JoinsTypes system (all_keep (λ site. joins_other_types system site.line) 1 (sites_of system) well_formed.1.1.1.1.1.1.0) in
      wires_joined system.wires named.before_wires joined.before_wires named.wires joined.wires
