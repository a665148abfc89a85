-- The plain form of a judged system is linked: its connections join equal types, and its outputs use only their needs.
use Rattle.std.proofs.Common.{◌≡◌, ◌∙◌, ℕ, ℤ, Bool, true, false, cond, List, [], ◌∷◌, ◌++◌, map, Option, Some, None, inl, inr, refl, ap, sym, subst, ◌⊎◌}
use Rattle.std.proofs.lemmas.Bool.{and_parts, or_parts}
use Rattle.std.proofs.lemmas.Option.{same_Some}
use Rattle.std.specs.Prelude.{not, is_none, ◌&&◌}
use Rattle.std.specs.Bool.{beq}
use Rattle.std.specs.Cmp.{signed_Decides}
use Rattle.std.specs.List.{AllByRecursion, list_any, flat_map}
use Rattle.std.specs.Ordering.{int_eq}
use Rattle.fixed_words.specs.Types.{kind_of, lowest, highest}
use Rattle.fixed_words.specs.declared.types.Ty.TheVariants as types
use Rattle.port_solve.specs.Sound.{HaveSameWords}
use Rattle.unit_tree.specs.Canonical.{optional}
use Rattle.unit_tree.specs.Kinds.{same_kind}
use Rattle.unit_tree.specs.Names.{Port, names_in, is_among, input_ports, input_names, event_input_names, unit_named, unit_of_instance, output_at, input_at}
use Rattle.unit_tree.specs.Orders.{port_of, outputs_of}
use Rattle.unit_tree.specs.Parts as parts
use Rattle.unit_tree.specs.Parts.{UnitPart}
use Rattle.unit_tree.specs.Plain.{presence_name, plain_expression, presence_of, word_expression_of, plain_inputs, plain_need, plain_needs, plain_output}
use Rattle.unit_tree.specs.Plain.{plain_outputs, plain_unit, presence_port, is_event_output, plain_wires}
use Rattle.unit_tree.specs.Printable.{IsRanged, names_on, names_said}
use Rattle.unit_tree.specs.Tokens.{IsWord}
use Rattle.unit_tree.specs.WellFormed.{IsWellFormed, uses_other_input, same_type, differ}
use Rattle.unit_tree.specs.declared.expr.Expr.{Expr}
use Rattle.unit_tree.specs.declared.line_form.LineForm.{LineForm}
use Rattle.unit_tree.specs.declared.line_form.LineForm.TheVariants as form
use Rattle.unit_tree.specs.declared.system.Instance.{Instance}
use Rattle.unit_tree.specs.declared.system.PortName.{PortName}
use Rattle.unit_tree.specs.declared.system.System.{System}
use Rattle.unit_tree.specs.declared.system.Wire.{Wire}
use Rattle.unit_tree.specs.declared.unit.EventIn.{EventIn}
use Rattle.unit_tree.specs.declared.unit.EventOut.{EventOut}
use Rattle.unit_tree.specs.declared.unit.Input.{Input}
use Rattle.unit_tree.specs.declared.unit.Output.{Output}
use Rattle.unit_tree.specs.declared.unit.Unit.{Unit}
use Rattle.language_laws.proofs.NameLaws.{PortsDiffer, ports_differ}
use Rattle.run_laws.proofs.PlaceOrders.{has_in}
use Rattle.run_laws.proofs.PlainCycles.{of_input, of_event_in}
use Rattle.language_laws.proofs.PlainNames.{has_flat, map_has, flat_has, IsPlain, word_is_plain, same_presence, words_on, plain_on, plain_wire}
use Rattle.language_laws.proofs.PlainNames.{unit_line, output_line, event_line}
use Rattle.run_laws.proofs.PlainOrders.{plain_of, declared, named_has, output_is, plain_one, presence_one, becomes, presence_wire, wire_by, plain_named}
use Rattle.run_laws.proofs.PlainOrders.{comes_from, plain_differ, plain_unit_is, is_event_is}
use Rattle.run_laws.proofs.PortLaws.{among, has_among, output_has}
use Rattle.run_laws.proofs.SeenLaws.{and_false}
use Rattle.language_laws.proofs.JudgedFacts.{UsesNeeds, IsJoined, inputs_differ, uses_needs, joined_wires}
use Rattle.run_laws.proofs.PlainOrders.{input_is}
use Rattle.port_solve.proofs.LinkedSystems.{Joins, Linked}
use Rattle.port_solve.proofs.PlainUses.{Names, plain_names, presence_names, word_names}
use Rattle.list_laws.proofs.Members.{Has, has_front, has_behind, has_either, has_map, all_has, each_has}
use Rattle.list_laws.proofs.Truths.{not_false}

-- ---- The consequences of a rule on uses for single names

abbrev Shown : Unit → List (List ℕ) → List ℕ → Type 0
Shown unit needs name = (is_among (input_names unit) name && not (is_among needs name)) ≡ false

all_shown : (unit : Unit) (needs names : List (List ℕ)) → list_any (λ name. is_among (input_names unit) name && not (is_among needs name)) names ≡ false
    → AllByRecursion (Shown unit needs) names
all_shown unit needs [] none = tt
all_shown unit needs (name ∷ names) none =
    let both =
    or_parts (is_among (input_names unit) name && not (is_among needs name))
    (list_any (λ n. is_among (input_names unit) n && not (is_among needs n)) names) none in
    (both.0, all_shown unit needs names both.1)

none_other : (unit : Unit) (needs names : List (List ℕ)) → AllByRecursion (Shown unit needs) names
    → list_any (λ name. is_among (input_names unit) name && not (is_among needs name)) names ≡ false
none_other unit needs [] all = refl
none_other unit needs (name ∷ names) all = rw (all.0) (none_other unit needs names all.1)

shown_by : (told other : Bool) → (told ≡ true → other ≡ true) → (told && not other) ≡ false
shown_by false other holds = refl
shown_by true other holds = ap not (holds refl)

-- ---- Equal types

int_same : (one other : ℤ) → int_eq one other ≡ true → one ≡ other
int_same one other is = (signed_Decides one other).0 is

same_words : (one other : Port) → differ (Some one) (Some other) ≡ false → HaveSameWords one.ty other.ty
same_words one other is =
    let same = not_false (same_type one.ty other.ty) (or_parts (not (same_type one.ty other.ty)) (not (beq one.is_event other.is_event)) is).0 in
    let ends =
    (and_parts (same_kind (kind_of one.ty) (kind_of other.ty))
    (int_eq (lowest one.ty) (lowest other.ty) && int_eq (highest one.ty) (highest other.ty)) same).1 in
    let both = and_parts (int_eq (lowest one.ty) (lowest other.ty)) (int_eq (highest one.ty) (highest other.ty)) ends in
    (int_same (lowest one.ty) (lowest other.ty) both.0, int_same (highest one.ty) (highest other.ty) both.1)

-- The output of a connection whose input exists.
joined_by : (from : Option Port) (to : Option Port) (input : Port) → to ≡ Some input → is_none from ≡ false → differ from to ≡ false
    → (output : Port) × (from ≡ Some output) × HaveSameWords output.ty input.ty
joined_by None to input to_is some same = absurd (cc)
joined_by (Some output) to input to_is some same = (output, refl, same_words output input (subst (λ t. differ (Some output) t ≡ false) to_is same))

module _ (system : System) (ranged : IsRanged system) (kept : IsWellFormed system) where
  abbrev apart : PortsDiffer system
  apart = ports_differ system kept

  -- A connection to an input of the system comes from an output with its words.
  joins_in : (wire : Wire) → Has system.wires wire → (instance : Instance) (unit : Unit) (port : Port) → Has system.instances instance
      → unit_of_instance system instance ≡ Some unit → Has (input_ports unit) port → wire.to ≡ port_of instance port.name
      → (output : Port) × (output_at system wire.from ≡ Some output) × HaveSameWords output.ty port.ty
  joins_in wire has instance unit port instance_has unit_is port_has to_is =
      let joined = each_has (IsJoined system) system.wires wire (joined_wires system kept) has in
      let input = ap (input_at system) to_is ∙ input_is system apart.instances (inputs_differ system kept) instance unit port instance_has unit_is port_has in
      joined_by (output_at system wire.from) (input_at system wire.to) port input joined.from joined.same

  -- ---- Version 1: the system is its own plain form

  pub links_without_events : Linked system
  links_without_events = record {
    differ = apart;
    joins = λ wire has instance unit input instance_has unit_is input_has to_is.
        let port_has : Has (input_ports unit) (of_input input) =
        has_front (map of_input unit.inputs) (map of_event_in unit.events_in) (of_input input) (has_map of_input unit.inputs input input_has) in
        let from = joins_in wire has instance unit (of_input input) instance_has unit_is port_has to_is in
        record { output = from.0; is = from.1; same = from.2 };
    uses = all_has _ system.units (λ unit has. (each_has UsesNeeds system.units unit (uses_needs system kept) has).outputs);
  }

  -- ---- Version 2: names

  module _ (unit : Unit) (unit_has : Has system.units unit) where
    abbrev lines_before : List UnitPart
    lines_before =
        optional parts.Resolution unit.resolution ++ map parts.HasParam unit.params ++ map parts.HasState unit.states ++ map parts.HasLocal unit.locals

    abbrev inputs_said : List UnitPart
    inputs_said = map parts.HasInput unit.inputs

    abbrev events_said : List UnitPart
    events_said = map parts.HasEventIn unit.events_in

    abbrev outputs_said : List UnitPart
    outputs_said = map parts.HasOutput unit.outputs

    abbrev events_out_said : List UnitPart
    events_out_said = map parts.HasEventOut unit.events_out

    input_plain : (input : Input) → Has unit.inputs input → IsPlain input.name
    input_plain input has =
        let part : UnitPart = parts.HasInput input in
        let a = has_behind lines_before inputs_said part (has_map parts.HasInput unit.inputs input has) in
        let b = has_front (lines_before ++ inputs_said) events_said part a in
        let c = has_front ((lines_before ++ inputs_said) ++ events_said) outputs_said part b in
        let d = has_front (((lines_before ++ inputs_said) ++ events_said) ++ outputs_said) events_out_said part c in
        plain_on system ranged (form.Input input) input.name (unit_line system ranged unit unit_has part (form.Input input) d (inl refl)) (inl refl)

    event_plain : (event : EventIn) → Has unit.events_in event → IsPlain event.name
    event_plain event has =
        let part : UnitPart = parts.HasEventIn event in
        let b = has_behind (lines_before ++ inputs_said) events_said part (has_map parts.HasEventIn unit.events_in event has) in
        let c = has_front ((lines_before ++ inputs_said) ++ events_said) outputs_said part b in
        let d = has_front (((lines_before ++ inputs_said) ++ events_said) ++ outputs_said) events_out_said part c in
        plain_on system ranged (form.EventInput event) event.name (unit_line system ranged unit unit_has part (form.EventInput event) d (inl refl)) (inl refl)

    abbrev has_input_name : (input : Input) → Has unit.inputs input → Has (input_names unit) input.name
    has_input_name input has =
        has_map (λ (p : Port). p.name) (input_ports unit) (of_input input)
        (has_front (map of_input unit.inputs) (map of_event_in unit.events_in) (of_input input) (has_map of_input unit.inputs input has))

    abbrev has_event_name : (event : EventIn) → Has unit.events_in event → Has (input_names unit) event.name
    has_event_name event has =
        has_map (λ (p : Port). p.name) (input_ports unit) (of_event_in event)
        (has_behind (map of_input unit.inputs) (map of_event_in unit.events_in) (of_event_in event) (has_map of_event_in unit.events_in event has))

    -- The name of an input is a word of the language.
    input_name_plain : (name : List ℕ) → Has (input_names unit) name → IsPlain name
    input_name_plain name has =
        let port = map_has (λ (p : Port). p.name) (input_ports unit) name has in
        subst IsPlain port.is (elim (has_either (map of_input unit.inputs) (map of_event_in unit.events_in) port.one port.has) [
          | inl here ↦ let input = map_has of_input unit.inputs port.one here in subst (λ (p : Port). IsPlain p.name) input.is (input_plain input.one input.has)
          | inr here ↦ let event = map_has of_event_in unit.events_in port.one here in
              subst (λ (p : Port). IsPlain p.name) event.is (event_plain event.one event.has)
        ])

    -- An input of the plain form has a name of the unit, or says whether an event occurs.
    abbrev Comes : List ℕ → Type 0
    Comes name = Has (input_names unit) name ⊎ ((event : EventIn) × Has unit.events_in event × (name ≡ presence_name event.name))

    comes_of : (input : Input) → Has (unit.inputs ++ flat_map plain_inputs unit.events_in) input → Comes input.name
    comes_of input has = elim (has_either unit.inputs (flat_map plain_inputs unit.events_in) input has) [
      | inl here ↦ inl (has_input_name input here)
      | inr here ↦
          let event = flat_has plain_inputs unit.events_in input here in
          elim event.inside [
            | inl same ↦ inr (event.one, event.has, sym (ap (λ (i : Input). i.name) same))
            | inr rest ↦
                elim rest [
                  | inl same ↦
                      inl (subst (Has (input_names unit)) (ap (λ (i : Input). i.name) same) (has_event_name event.one event.has))
                  | inr none ↦ absurd none
                ]
          ]
    ]

    comes : (name : List ℕ) → Has (input_names (plain_unit unit)) name → Comes name
    comes name has =
        let port = map_has (λ (p : Port). p.name) (input_ports (plain_unit unit)) name has in
        let all : List Input = unit.inputs ++ flat_map plain_inputs unit.events_in in
        subst Comes port.is (elim (has_either (map of_input all) [] port.one port.has) [
          | inl here ↦ let input = map_has of_input all port.one here in subst (λ (p : Port). Comes p.name) input.is (comes_of input.one input.has)
          | inr none ↦ absurd none
        ])

    -- ---- Uses

    module _ (needs : List (List ℕ)) where
      abbrev Right : List ℕ → Type 0
      Right name = Shown unit needs name × IsPlain name

      abbrev PlainRight : List ℕ → Type 0
      PlainRight name = Shown (plain_unit unit) (plain_needs unit needs) name

      need_of : (name : List ℕ) → Right name → Has (input_names unit) name → Has needs name
      need_of name right has =
          among needs name (and_false (is_among (input_names unit) name) (is_among needs name) (has_among (input_names unit) name has) right.0)

      itself_in : (told : Bool) (name : List ℕ) → Has (cond told (presence_name name ∷ name ∷ []) (name ∷ [])) name
      itself_in true name = inr (inl refl)
      itself_in false name = inl refl

      presence_in : (told : Bool) (name : List ℕ) → told ≡ true → Has (cond told (presence_name name ∷ name ∷ []) (name ∷ [])) (presence_name name)
      presence_in true name is = inl refl
      presence_in false name is = absurd (cc)

      keeps_name : (name : List ℕ) → Right name → PlainRight name
      keeps_name name right =
          shown_by (is_among (input_names (plain_unit unit)) name) (is_among (plain_needs unit needs) name)
          (λ told. has_among (plain_needs unit needs) name (elim (comes name (among (input_names (plain_unit unit)) name told)) [
            | inl has ↦ has_flat (plain_need unit) needs name name (need_of name right has) (itself_in (is_among (event_input_names unit) name) name)
            | inr event ↦ absurd (right.1 event.0.name event.2)
          ]))

      keeps_presence : (name : List ℕ) → Right name → PlainRight (presence_name name)
      keeps_presence name right =
          shown_by (is_among (input_names (plain_unit unit)) (presence_name name)) (is_among (plain_needs unit needs) (presence_name name))
          (λ told. has_among (plain_needs unit needs) (presence_name name)
          (elim (comes (presence_name name) (among (input_names (plain_unit unit)) (presence_name name) told)) [
            | inl has ↦ absurd (input_name_plain (presence_name name) has name refl)
            | inr event ↦
                let same : name ≡ event.0.name = same_presence name event.0.name event.2 in
                let is_event : is_among (event_input_names unit) name ≡ true =
                has_among (event_input_names unit) name
                (subst (Has (event_input_names unit)) (sym same) (has_map (λ (e : EventIn). e.name) unit.events_in event.0 event.1)) in
                let is_input : Has (input_names unit) name = subst (Has (input_names unit)) (sym same) (has_event_name event.0 event.1) in
                has_flat (plain_need unit) needs name (presence_name name) (need_of name right is_input)
                (presence_in (is_among (event_input_names unit) name) name is_event)
          ]))

      plain_use : (value : Expr) → Names Right value → uses_other_input (plain_unit unit) (plain_needs unit needs) (plain_expression value) ≡ false
      plain_use value all =
          none_other (plain_unit unit) (plain_needs unit needs) (names_in (plain_expression value))
          (plain_names Right PlainRight keeps_name keeps_presence value all)

      both : (names : List (List ℕ)) → AllByRecursion (Shown unit needs) names → ((name : List ℕ) → Has names name → IsPlain name) → AllByRecursion Right names
      both [] all each = tt
      both (name ∷ names) all each = ((all.0, each name (inl refl)), both names all.1 (λ other has. each other (inr has)))

      right_names : (value : Expr) → uses_other_input unit needs value ≡ false → ((name : List ℕ) → Has (names_in value) name → IsPlain name)
          → Names Right value
      right_names value used each = both (names_in value) (all_shown unit needs (names_in value) used) each

    used_plain : (line : LineForm) (value : Expr) (name : List ℕ) → AllByRecursion IsWord (names_on line) → names_on line ≡ names_said line ++ names_in value
        → Has (names_in value) name → IsPlain name
    used_plain line value name words is has =
        word_is_plain name
        (each_has IsWord (names_on line) name words (subst (λ names. Has names name) (sym is) (has_behind (names_said line) (names_in value) name has)))

    output_uses : (output : Output) → Has unit.outputs output → uses_other_input unit output.needs output.value ≡ false
        → uses_other_input (plain_unit unit) (plain_output unit output).needs (plain_output unit output).value ≡ false
    output_uses output has used =
        plain_use output.needs output.value
        (right_names output.needs output.value used
        (λ name there. used_plain (form.Output output) output.value name
        (words_on system ranged (form.Output output) (output_line system ranged unit unit_has output has)) refl there))

    event_right : (event : EventOut) → Has unit.events_out event → uses_other_input unit event.needs event.value ≡ false → Names (Right event.needs) event.value
    event_right event has used =
        right_names event.needs event.value used
        (λ name there. used_plain (form.EventOutput event) event.value name
        (words_on system ranged (form.EventOutput event) (event_line system ranged unit unit_has event has)) refl there)

    event_uses : (event : EventOut) → Has unit.events_out event → uses_other_input unit event.needs event.value ≡ false → (output : Output)
        → Has (plain_outputs unit event) output → uses_other_input (plain_unit unit) output.needs output.value ≡ false
    event_uses event has used output (inl is) =
        subst (λ (o : Output). uses_other_input (plain_unit unit) o.needs o.value ≡ false) is
        (plain_use event.needs (presence_of event.value) (presence_names (Right event.needs) event.value (event_right event has used)))
    event_uses event has used output (inr (inl is)) =
        subst (λ (o : Output). uses_other_input (plain_unit unit) o.needs o.value ≡ false) is
        (plain_use event.needs (word_expression_of event.ty event.value) (word_names (Right event.needs) event.ty event.value (event_right event has used)))
    event_uses event has used output (inr (inr none)) = absurd none

    unit_uses : UsesNeeds unit
        → AllByRecursion (λ (output : Output). uses_other_input (plain_unit unit) output.needs output.value ≡ false) (plain_unit unit).outputs
    unit_uses used =
        all_has (λ (output : Output). uses_other_input (plain_unit unit) output.needs output.value ≡ false)
        (map (plain_output unit) unit.outputs ++ flat_map (plain_outputs unit) unit.events_out) (λ output has.
        elim (has_either (map (plain_output unit) unit.outputs) (flat_map (plain_outputs unit) unit.events_out) output has) [
          | inl here ↦
              let from = map_has (plain_output unit) unit.outputs output here in
              subst (λ (o : Output). uses_other_input (plain_unit unit) o.needs o.value ≡ false) from.is
              (output_uses from.one from.has
              (each_has (λ (o : Output). uses_other_input unit o.needs o.value ≡ false) unit.outputs from.one used.outputs from.has))
          | inr here ↦
              let from = flat_has (plain_outputs unit) unit.events_out output here in
              event_uses from.one from.has
              (each_has (λ (e : EventOut). uses_other_input unit e.needs e.value ≡ false) unit.events_out from.one used.events from.has) output from.inside
        ])

  plain_uses : (units : List Unit) → ((unit : Unit) → Has units unit → Has system.units unit) → AllByRecursion UsesNeeds units
      → AllByRecursion (λ unit. AllByRecursion (λ (output : Output). uses_other_input unit output.needs output.value ≡ false) unit.outputs)
      (map plain_unit units)
  plain_uses [] within used = tt
  plain_uses (unit ∷ units) within used = (unit_uses unit (within unit (inl refl)) used.0, plain_uses units (λ other has. within other (inr has)) used.1)

  -- ---- Version 2: connections

  abbrev plain : System
  plain = plain_of system

  -- What an output of the system is in the plain form.
  made_output : (port : PortName) (output : Port) → output_at system port ≡ Some output
      → (made : Port) × (output_at plain port ≡ Some made) × (made.ty ≡ output.ty)
  made_output port output is =
      let d = declared system port (has_in (outputs_of system) port (output_has system port (ap is_none is))) in
      let own = output_is system apart d.instance d.unit d.output d.instance_has d.unit_is d.has in
      let same : d.output ≡ output = same_Some d.output output (sym own ∙ ap (output_at system) d.is ∙ is) in
      let made =
      output_is plain (plain_differ system ranged kept) d.instance (plain_unit d.unit) (plain_one d.unit d.output) d.instance_has
      (plain_unit_is system ranged kept d.instance d.unit d.unit_is) (becomes d.unit d.output d.has).whole in
      (plain_one d.unit d.output, ap (output_at plain) (sym d.is) ∙ made, ap (λ (p : Port). p.ty) same)

  -- An input of the plain form: one of the unit, one that says whether an event occurs, or one with its word.
  record AskedFor (unit : Unit) (input : Input) : Type 0 where
    port : Port
    has : Has (input_ports unit) port
    name : port.name ≡ input.name
    ty : port.ty ≡ input.ty

  abbrev TellsOf : Unit → Input → Type 0
  TellsOf unit input = (event : EventIn) × Has unit.events_in event × (input.name ≡ presence_name event.name) × (input.ty ≡ types.Bool)

  asked_for : (unit : Unit) (input : Input) → Has (unit.inputs ++ flat_map plain_inputs unit.events_in) input → AskedFor unit input ⊎ TellsOf unit input
  asked_for unit input has = elim (has_either unit.inputs (flat_map plain_inputs unit.events_in) input has) [
    | inl here ↦
        inl (record {
          port = of_input input;
          has =
              has_front (map of_input unit.inputs) (map of_event_in unit.events_in) (of_input input) (has_map of_input unit.inputs input here);
          name =
              refl;
          ty = refl;
        })
    | inr here ↦
        let event = flat_has plain_inputs unit.events_in input here in
        elim event.inside [
          | inl same ↦ inr (event.one, event.has, sym (ap (λ (i : Input). i.name) same), sym (ap (λ (i : Input). i.ty) same))
          | inr rest ↦
              elim rest [
                | inl same ↦
                    inl (record {
                      port = of_event_in event.one;
                      has = has_behind (map of_input unit.inputs) (map of_event_in unit.events_in) (of_event_in event.one)
                          (has_map of_event_in unit.events_in event.one event.has);
                      name = ap (λ (i : Input). i.name) same;
                      ty = ap (λ (i : Input). i.ty) same;
                    })
                | inr none ↦ absurd none
              ]
        ]
  ]

  -- A connection of the system that is in the plain form too.
  joins_same : (wire : Wire) → Has system.wires wire → (instance : Instance) (unit : Unit) (input : Input) → Has system.instances instance
      → unit_of_instance system instance ≡ Some unit → AskedFor unit input ⊎ TellsOf unit input → wire.to ≡ port_of instance input.name
      → Joins plain wire input
  joins_same wire has instance unit input instance_has unit_is (inl asked) to_is =
      let from = joins_in wire has instance unit asked.port instance_has unit_is asked.has (to_is ∙ ap (port_of instance) (sym asked.name)) in
      let made = made_output wire.from from.0 from.1 in
      record {
        output = made.0;
        is = made.1;
        same = (ap lowest made.2 ∙ from.2.0 ∙ ap lowest asked.ty, ap highest made.2 ∙ from.2.1 ∙ ap highest asked.ty);
      }
  joins_same wire has instance unit input instance_has unit_is (inr tells) to_is =
      absurd (plain_wire system ranged wire has tells.0.name (ap (λ (p : PortName). p.port) to_is ∙ tells.2))

  -- The connection that says whether an event occurs.
  joins_presence : (wire : Wire) → Has system.wires wire → is_event_output system wire.from ≡ true → (instance : Instance) (unit : Unit) (input : Input)
      → Has system.instances instance → unit_of_instance system instance ≡ Some unit → AskedFor unit input ⊎ TellsOf unit input
      → presence_port wire.to ≡ port_of instance input.name → Joins plain (presence_wire wire) input
  joins_presence wire has event instance unit input instance_has unit_is (inl asked) to_is =
      let unit_has = named_has system.units instance.unit unit unit_is in
      let name_is : asked.port.name ≡ presence_name wire.to.port = asked.name ∙ sym (ap (λ (p : PortName). p.port) to_is) in
      absurd (input_name_plain unit unit_has asked.port.name (has_map (λ (p : Port). p.name) (input_ports unit) asked.port asked.has) wire.to.port name_is)
  joins_presence wire has event instance unit input instance_has unit_is (inr tells) to_is =
      let stands =
      has_in (outputs_of system) wire.from (output_has system wire.from (each_has (IsJoined system) system.wires wire (joined_wires system kept) has).from) in
      let d = declared system wire.from stands in
      let is_event : d.output.is_event ≡ true = sym (is_event_is system ranged kept d.output d.instance d.unit d.instance_has d.unit_is d.has)
      ∙ ap (is_event_output system) d.is ∙ event in
      let made =
      output_is plain (plain_differ system ranged kept) d.instance (plain_unit d.unit) (presence_one d.unit d.output) d.instance_has
      (plain_unit_is system ranged kept d.instance d.unit d.unit_is) ((becomes d.unit d.output d.has).presence is_event) in
      record {
        output = presence_one d.unit d.output;
        is = ap (λ port. output_at plain (presence_port port)) (sym d.is) ∙ made;
        same = (sym (ap lowest tells.3), sym (ap highest tells.3));
      }

  joins_made : (wire made : Wire) → Has system.wires wire → (wire ≡ made) ⊎ ((is_event_output system wire.from ≡ true) × (presence_wire wire ≡ made))
      → (instance : Instance) (unit : Unit) (input : Input) → Has system.instances instance → unit_of_instance system instance ≡ Some unit
      → AskedFor unit input ⊎ TellsOf unit input → made.to ≡ port_of instance input.name → Joins plain made input
  joins_made wire made has (inl same) instance unit input instance_has unit_is asked to_is =
      subst (λ w. Joins plain w input) same (joins_same wire has instance unit input instance_has unit_is asked (ap (λ (w : Wire). w.to) same ∙ to_is))
  joins_made wire made has (inr told) instance unit input instance_has unit_is asked to_is =
      subst (λ w. Joins plain w input) told.1
      (joins_presence wire has told.0 instance unit input instance_has unit_is asked (ap (λ (w : Wire). w.to) told.1 ∙ to_is))

  plain_joins : (made : Wire) → Has plain.wires made → (instance : Instance) (unit : Unit) (input : Input) → Has system.instances instance
      → unit_of_instance plain instance ≡ Some unit → Has unit.inputs input → made.to ≡ port_of instance input.name → Joins plain made input
  plain_joins made has instance unit input instance_has unit_is input_has to_is =
      let from = flat_has (plain_wires system) system.wires made has in
      let of = comes_from system.units instance.unit (unit_named system.units instance.unit) unit refl
      (sym (plain_named system.units instance.unit) ∙ unit_is) in
      let input_of : Has (plain_unit of.0).inputs input = subst (λ (u : Unit). Has u.inputs input) (sym of.2) input_has in
      joins_made from.one made from.has (wire_by (is_event_output system from.one.from) from.one made from.inside) instance of.0 input instance_has of.1
      (asked_for of.0 input input_of) to_is

  pub plain_links : Linked plain
  plain_links = record {
    differ = plain_differ system ranged kept;
    joins = λ wire has instance unit input instance_has unit_is input_has to_is. plain_joins wire has instance unit input instance_has unit_is input_has to_is;
    uses = plain_uses system.units (λ unit has. has) (uses_needs system kept);
  }
