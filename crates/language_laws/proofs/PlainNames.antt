-- Names of a system in range are words, so none is the name of a port `p?` that is true where an event
-- occurs.
use Rattle.std.proofs.Common.{◌≡◌, ℕ, true, false, List, [], ◌∷◌, ◌++◌, map, inl, inr, refl, ap, sym, subst, ◌∙◌}
use Rattle.std.proofs.lemmas.Bool.{and_parts}
use Rattle.std.specs.List.{AllByRecursion, flat_map, list_all}
use Rattle.unit_tree.specs.Canonical.{optional, unit_parts, canonical_parts, canonical_forms}
use Rattle.unit_tree.specs.Names.{Port, output_ports}
use Rattle.unit_tree.specs.Parts as parts
use Rattle.unit_tree.specs.Parts.{Part, UnitPart, unit_part_forms, part_forms}
use Rattle.unit_tree.specs.Plain.{presence_name}
use Rattle.unit_tree.specs.Printable.{IsInRange, IsRanged, names_on, names_said, names_on_expression}
use Rattle.unit_tree.specs.Names.{expression_on}
use Rattle.unit_tree.specs.Tokens.{IsWord, is_word_byte, is_letter}
use Rattle.unit_tree.specs.declared.line_form.LineForm.{LineForm}
use Rattle.unit_tree.specs.declared.line_form.LineForm.TheVariants as form
use Rattle.unit_tree.specs.declared.system.System.{System}
use Rattle.unit_tree.specs.declared.system.Wire.{Wire}
use Rattle.unit_tree.specs.declared.unit.EventOut.{EventOut}
use Rattle.unit_tree.specs.declared.unit.Output.{Output}
use Rattle.unit_tree.specs.declared.unit.Unit.{Unit}
use Rattle.list_laws.proofs.Members.{Has, has_front, has_behind, has_either, has_map, each_has}

-- ---- Lists

pub has_flat : {A B : Type 0} (f : A → List B) (xs : List A) (x : A) (y : B) → Has xs x → Has (f x) y → Has (flat_map f xs) y
has_flat f [] x y has inside = absurd has
has_flat f (first ∷ xs) x y (inl is) inside = has_front (f first) (flat_map f xs) y (subst (λ z. Has (f z) y) (sym is) inside)
has_flat f (first ∷ xs) x y (inr has) inside = has_behind (f first) (flat_map f xs) y (has_flat f xs x y has inside)

pub record Mapped {A B : Type 0} (f : A → B) (xs : List A) (y : B) : Type 0 where
  pub one : A
  pub has : Has xs one
  pub is : f one ≡ y

pub map_has : {A B : Type 0} (f : A → B) (xs : List A) (y : B) → Has (map f xs) y → Mapped f xs y
map_has f [] y has = absurd has
map_has f (first ∷ xs) y (inl is) = record { one = first; has = inl refl; is = is }
map_has f (first ∷ xs) y (inr has) = let later = map_has f xs y has in record { one = later.one; has = inr later.has; is = later.is }

pub record Flat {A B : Type 0} (f : A → List B) (xs : List A) (y : B) : Type 0 where
  pub one : A
  pub has : Has xs one
  pub inside : Has (f one) y

pub flat_has : {A B : Type 0} (f : A → List B) (xs : List A) (y : B) → Has (flat_map f xs) y → Flat f xs y
flat_has f [] y has = absurd has
flat_has f (first ∷ xs) y has = elim (has_either (f first) (flat_map f xs) y has) [
  | inl inside ↦ record { one = first; has = inl refl; inside = inside }
  | inr later ↦ let rest = flat_has f xs y later in record { one = rest.one; has = inr rest.has; inside = rest.inside }
]

-- ---- Names of `?` ports

-- The name is not that of a `?` port.
abbrev pub IsPlain : List ℕ → Type 0
IsPlain name = (other : List ℕ) → name ≡ presence_name other → ⊥

pub not_all : (other : List ℕ) → list_all is_word_byte (presence_name other) ≡ true → ⊥
not_all [] is = absurd (cc)
not_all (byte ∷ other) is = not_all other (and_parts (is_word_byte byte) (list_all is_word_byte (presence_name other)) is).1

pub letter_not : is_letter 63 ≡ true → ⊥
letter_not is = absurd (cc)

pub word_is_plain : (name : List ℕ) → IsWord name → IsPlain name
word_is_plain name word [] is = letter_not (subst IsWord is word).0
word_is_plain name word (byte ∷ other) is = not_all other (subst IsWord is word).1

pub nil_not : (name : List ℕ) → [] ≡ presence_name name → ⊥
nil_not [] is = absurd (cc)
nil_not (byte ∷ name) is = absurd (cc)

pub same_presence : (one other : List ℕ) → presence_name one ≡ presence_name other → one ≡ other
same_presence [] [] is = refl
same_presence [] (byte ∷ other) is = let later : [] ≡ presence_name other = cc in absurd (nil_not other later)
same_presence (byte ∷ one) [] is = let later : [] ≡ presence_name one = cc in absurd (nil_not one later)
same_presence (byte ∷ one) (byte' ∷ other) is =
    let first : byte ≡ byte' = cc in
    let later : presence_name one ≡ presence_name other = cc in
    ap (λ b. b ∷ one) first ∙ ap (λ name. byte' ∷ name) (same_presence one other later)

-- ---- Systems in range

abbrev pub of_output : Output → Port
of_output output = record { name = output.name; ty = output.ty; is_event = false; needs = output.needs }

abbrev pub of_event : EventOut → Port
of_event event = record { name = event.name; ty = event.ty; is_event = true; needs = event.needs }

-- The names of an output and of its needs are not those of `?` ports.
pub record PlainNames (port : Port) : Type 0 where
  pub name : IsPlain port.name
  pub needs : (need : List ℕ) → Has port.needs need → IsPlain need

module _ (system : System) (ranged : IsRanged system) where
  pub words_on : (line : LineForm) → Has (canonical_forms system) line → AllByRecursion IsWord (names_on line)
  words_on line has = each_has (λ l. AllByRecursion IsWord (names_on l)) (canonical_forms system) line ranged.names has

  pub in_range : (line : LineForm) → Has (canonical_forms system) line → IsInRange line
  in_range line has = each_has IsInRange (canonical_forms system) line ranged.numbers has

  pub plain_on : (line : LineForm) (name : List ℕ) → Has (canonical_forms system) line → Has (names_said line) name → IsPlain name
  plain_on line name has said =
      word_is_plain name
      (each_has IsWord (names_on line) name (words_on line has) (has_front (names_said line) (names_on_expression (expression_on line)) name said))

  abbrev pub units : List Part
  units = map (λ unit. parts.HasUnit unit.name (unit_parts unit)) system.units

  abbrev pub instances : List Part
  instances = map parts.HasInstance system.instances

  abbrev pub wires : List Part
  wires = map parts.Connects system.wires

  abbrev pub stop : List Part
  stop = optional parts.Stop system.stop

  abbrev pub longest : List Part
  longest = optional parts.Longest system.longest

  abbrev pub zero_steps : List Part
  zero_steps = optional parts.Zero system.zero

  abbrev pub rows : List Part
  rows = optional parts.Rows system.rows

  abbrev pub samples : List Part
  samples = map parts.Samples system.samples

  pub has_part : (part : Part) (line : LineForm) → Has ((units ++ instances) ++ wires) part → Has (part_forms part) line → Has (canonical_forms system) line
  has_part part line has inside =
      let a = has_front ((units ++ instances) ++ wires) stop part has in
      let b = has_front (((units ++ instances) ++ wires) ++ stop) longest part a in
      let c = has_front ((((units ++ instances) ++ wires) ++ stop) ++ longest) zero_steps part b in
      let d = has_front (((((units ++ instances) ++ wires) ++ stop) ++ longest) ++ zero_steps) rows part c in
      let e = has_front ((((((units ++ instances) ++ wires) ++ stop) ++ longest) ++ zero_steps) ++ rows) samples part d in
      inr (has_flat part_forms (canonical_parts system) part line e inside)

  pub plain_wire : (wire : Wire) → Has system.wires wire → IsPlain wire.to.port
  plain_wire wire has =
      plain_on (form.Connect wire) wire.to.port
      (has_part (parts.Connects wire) (form.Connect wire)
      (has_behind (units ++ instances) wires (parts.Connects wire) (has_map parts.Connects system.wires wire has)) (inl refl))
      (inr (inr (inr (inl refl))))

  module _ (unit : Unit) (declared : Has system.units unit) where
    abbrev pub before : List UnitPart
    before =
        optional parts.Resolution unit.resolution ++ map parts.HasParam unit.params ++ map parts.HasState unit.states ++ map parts.HasLocal unit.locals
        ++ map parts.HasInput unit.inputs ++ map parts.HasEventIn unit.events_in

    abbrev pub outputs : List UnitPart
    outputs = map parts.HasOutput unit.outputs

    abbrev pub events : List UnitPart
    events = map parts.HasEventOut unit.events_out

    pub unit_line : (part : UnitPart) (line : LineForm) → Has ((before ++ outputs) ++ events) part → Has (unit_part_forms part) line
        → Has (canonical_forms system) line
    unit_line part line has inside =
        let a = has_front ((before ++ outputs) ++ events) (optional parts.Max unit.max) part has in
        let b = has_front (((before ++ outputs) ++ events) ++ optional parts.Max unit.max) (optional parts.Step unit.step) part a in
        let here = has_flat unit_part_forms (unit_parts unit) part line b inside in
        let unit_part : Part = parts.HasUnit unit.name (unit_parts unit) in
        has_part unit_part line
        (has_front (units ++ instances) wires unit_part
        (has_front units instances unit_part (has_map (λ (u : Unit). parts.HasUnit u.name (unit_parts u)) system.units unit declared)))
        (inr (has_front (flat_map unit_part_forms (unit_parts unit)) (form.End ∷ []) line here))

    pub output_line : (output : Output) → Has unit.outputs output → Has (canonical_forms system) (form.Output output)
    output_line output has =
        unit_line (parts.HasOutput output) (form.Output output)
        (has_front (before ++ outputs) events (parts.HasOutput output)
        (has_behind before outputs (parts.HasOutput output) (has_map parts.HasOutput unit.outputs output has)))
        (inl refl)

    pub event_line : (event : EventOut) → Has unit.events_out event → Has (canonical_forms system) (form.EventOutput event)
    event_line event has =
        unit_line (parts.HasEventOut event) (form.EventOutput event)
        (has_behind (before ++ outputs) events (parts.HasEventOut event) (has_map parts.HasEventOut unit.events_out event has)) (inl refl)

    pub plain_port_names : (port : Port) → Has (output_ports unit) port → PlainNames port
    plain_port_names port has = elim (has_either (map of_output unit.outputs) (map of_event unit.events_out) port has) [
      | inl here ↦
          let from = map_has of_output unit.outputs port here in
          let line = output_line from.one from.has in
          subst PlainNames from.is
          (record {
            name = plain_on (form.Output from.one) from.one.name line (inl refl);
            needs =
                λ need stands. plain_on (form.Output from.one) need line (inr stands);
          })
      | inr here ↦
          let from = map_has of_event unit.events_out port here in
          let line = event_line from.one from.has in
          subst PlainNames from.is
          (record {
            name = plain_on (form.EventOutput from.one) from.one.name line (inl refl);
            needs =
                λ need stands. plain_on (form.EventOutput from.one) need line (inr stands);
          })
    ]
