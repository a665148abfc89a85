-- No field of a trace has a byte by which a table is cut.
use Rattle.std.proofs.Common.{◌≡◌, ℕ, zero, ◌+◌, ◌≤◌, ◌==◌, Bool, true, false, ℤ, pos, List, [], ◌∷◌, ◌++◌, map, Option, Some, None, refl, subst, arith}
use Rattle.std.specs.Prelude.{codes, if◌then◌else◌, slice_get, slice_index_or}
use Rattle.std.specs.Fmt.{decimal}
use Rattle.std.specs.List.{AllByRecursion, cons_option, filter_map, flat_map, list_all}
use Rattle.std.specs.Option.{option_and_then, option_map}
use Rattle.std.proofs.lemmas.Bool.{and_parts}
use Rattle.std.proofs.lemmas.Bool.Decides.{nat_tests}
use Rattle.fixed_words.specs.Texts.{fixed_text, text_of}
use Rattle.fixed_words.specs.declared.types.Ty.TheVariants as types
use Rattle.list_laws.proofs.Lists.{each_append, each_map, each_part, each_so, of_flat, of_mapped}
use Rattle.list_laws.proofs.Members.{Has, each_has, has_at}
use Rattle.trace_csv.specs.Columns.{port_title, title_in}
use Rattle.trace_csv.specs.TraceText.{field_of, is_absent, row_fields}
use Rattle.trace_verify.specs.TraceLines.{IsPlain, is_special}
use Rattle.run_laws.proofs.PlainOrders.{named_has}
use Rattle.trace_csv.proofs.HighTexts.{AreHigh, high_decimal, high_fixed, high_word, high_append}
use Rattle.unit_tree.specs.Canonical.{canonical_parts, optional, unit_parts}
use Rattle.unit_tree.specs.Names.{unit_of_instance}
use Rattle.unit_tree.specs.Parts as parts
use Rattle.unit_tree.specs.Parts.{Part, UnitPart, part_forms, unit_part_forms}
use Rattle.unit_tree.specs.Plain.{plain_form, plain_output, plain_outputs, plain_unit, plain_wires, samples_or_all}
use Rattle.unit_tree.specs.Printable.{IsRanged, names_on}
use Rattle.unit_tree.specs.Tokens.{IsWord, is_letter, is_word_byte}
use Rattle.unit_tree.specs.declared.line_form.LineForm.{LineForm}
use Rattle.unit_tree.specs.declared.line_form.LineForm.TheVariants as form
use Rattle.unit_tree.specs.declared.system.Column.{Column}
use Rattle.unit_tree.specs.declared.system.Instance.{Instance}
use Rattle.unit_tree.specs.declared.system.System.{System}
use Rattle.unit_tree.specs.declared.unit.EventOut.{EventOut}
use Rattle.unit_tree.specs.declared.unit.Output.{Output}
use Rattle.unit_tree.specs.declared.unit.Unit.{Unit}

-- ---- Bytes after the comma

high_plain : (byte : ℕ) → 45 ≤ byte → is_special byte ≡ false
high_plain byte high = grind (arith, nat_tests)

pub plain_of : (bytes : List ℕ) → AreHigh bytes → IsPlain bytes
plain_of bytes high = each_so (λ byte. 45 ≤ byte) (λ byte. is_special byte ≡ false) high_plain bytes high

-- ---- Rows

field_plain : (words : List ℤ) (column : Column) → IsPlain (field_of words column)
field_plain words column = by (is_absent words column)
  where
    by : (b : Bool) → IsPlain (if b then [] else text_of column.ty (slice_index_or words column.place (pos 0)))
    by true = tt
    by false = plain_of (text_of column.ty (slice_index_or words column.place (pos 0))) (high_word column.ty (slice_index_or words column.place (pos 0)))

pub row_plain : (resolution t n : ℕ) (columns : List Column) (words : List ℤ) → AllByRecursion IsPlain (row_fields resolution columns (record { t = t; n = n }) words)
row_plain resolution t n columns words =
    (plain_of (fixed_text resolution t) (high_fixed resolution t), (plain_of (decimal n) (high_decimal n), each_map IsPlain (field_of words) columns (field_plain words)))

-- ---- Names

word_high : (name : List ℕ) → IsWord name → AreHigh name
word_high [] is = absurd is
word_high (first ∷ others) is = (letter first is.0, bytes others is.1)
  where
    letter : (byte : ℕ) → is_letter byte ≡ true → 45 ≤ byte
    letter byte told = grind (arith, told)

    one : (byte : ℕ) → is_word_byte byte ≡ true → 45 ≤ byte
    one byte told = grind (arith, told)

    bytes : (rest : List ℕ) → list_all is_word_byte rest ≡ true → AreHigh rest
    bytes [] told = tt
    bytes (byte ∷ rest) told = let both = and_parts (is_word_byte byte) (list_all is_word_byte rest) told in (one byte both.0, bytes rest both.1)

-- The names of instances and of outputs.
pub record AreNamed (system : System) : Type 0 where
  pub instances : AllByRecursion (λ (i : Instance). AreHigh i.name) system.instances
  pub outputs : AllByRecursion (λ (unit : Unit). AllByRecursion (λ (o : Output). AreHigh o.name) unit.outputs) system.units

abbrev HasWords : LineForm → Type 0
HasWords line = AllByRecursion IsWord (names_on line)

module _ (unit : Unit) (all : AllByRecursion HasWords (flat_map unit_part_forms (unit_parts unit))) where
  abbrev before_outputs : List UnitPart
  before_outputs =
      optional parts.Resolution unit.resolution ++ map parts.HasParam unit.params ++ map parts.HasState unit.states ++ map parts.HasLocal unit.locals
      ++ map parts.HasInput unit.inputs ++ map parts.HasEventIn unit.events_in

  abbrev PartWords : UnitPart → Type 0
  PartWords part = AllByRecursion HasWords (unit_part_forms part)

  without_step : AllByRecursion PartWords (((before_outputs ++ map parts.HasOutput unit.outputs) ++ map parts.HasEventOut unit.events_out) ++ optional parts.Max unit.max)
  without_step =
      (each_part PartWords (((before_outputs ++ map parts.HasOutput unit.outputs) ++ map parts.HasEventOut unit.events_out) ++ optional parts.Max unit.max)
      (optional parts.Step unit.step) (of_flat HasWords unit_part_forms (unit_parts unit) all)).0

  with_events : AllByRecursion PartWords ((before_outputs ++ map parts.HasOutput unit.outputs) ++ map parts.HasEventOut unit.events_out)
  with_events = (each_part PartWords ((before_outputs ++ map parts.HasOutput unit.outputs) ++ map parts.HasEventOut unit.events_out) (optional parts.Max unit.max) without_step).0

  both : AllByRecursion PartWords (before_outputs ++ map parts.HasOutput unit.outputs) × AllByRecursion PartWords (map parts.HasEventOut unit.events_out)
  both = each_part PartWords (before_outputs ++ map parts.HasOutput unit.outputs) (map parts.HasEventOut unit.events_out) with_events

  pub output_names : AllByRecursion (λ (o : Output). AreHigh o.name) unit.outputs
  output_names =
      each_so (λ (o : Output). PartWords (parts.HasOutput o)) (λ (o : Output). AreHigh o.name) (λ o words. word_high o.name words.0.0) unit.outputs
      (of_mapped PartWords parts.HasOutput unit.outputs (each_part PartWords before_outputs (map parts.HasOutput unit.outputs) both.0).1)

  pub event_names : AllByRecursion (λ (o : EventOut). AreHigh o.name) unit.events_out
  event_names =
      each_so (λ (o : EventOut). PartWords (parts.HasEventOut o)) (λ (o : EventOut). AreHigh o.name) (λ o words. word_high o.name words.0.0) unit.events_out
      (of_mapped PartWords parts.HasEventOut unit.events_out both.1)

module _ (system : System) (ranged : IsRanged system) where
  abbrev PartNames : Part → Type 0
  PartNames part = AllByRecursion HasWords (part_forms part)

  abbrev units_said : List Part
  units_said = map (λ (unit : Unit). parts.HasUnit unit.name (unit_parts unit)) system.units

  abbrev front : List Part
  front = units_said ++ map parts.HasInstance system.instances

  whole : AllByRecursion PartNames (canonical_parts system)
  whole = of_flat HasWords part_forms (canonical_parts system) ranged.names.1

  in_front : AllByRecursion PartNames front
  in_front =
      let a = (each_part PartNames ((((((front ++ map parts.Connects system.wires) ++ optional parts.Stop system.stop) ++ optional parts.Longest system.longest) ++ optional parts.Zero system.zero) ++ optional parts.Rows system.rows)) (map parts.Samples system.samples) whole).0 in
      let b = (each_part PartNames (((((front ++ map parts.Connects system.wires) ++ optional parts.Stop system.stop) ++ optional parts.Longest system.longest) ++ optional parts.Zero system.zero)) (optional parts.Rows system.rows) a).0 in
      let c = (each_part PartNames ((((front ++ map parts.Connects system.wires) ++ optional parts.Stop system.stop) ++ optional parts.Longest system.longest)) (optional parts.Zero system.zero) b).0 in
      let d = (each_part PartNames (((front ++ map parts.Connects system.wires) ++ optional parts.Stop system.stop)) (optional parts.Longest system.longest) c).0 in
      let e = (each_part PartNames ((front ++ map parts.Connects system.wires)) (optional parts.Stop system.stop) d).0 in
      (each_part PartNames front (map parts.Connects system.wires) e).0

  instance_names : AllByRecursion (λ (i : Instance). AreHigh i.name) system.instances
  instance_names =
      each_so (λ (i : Instance). PartNames (parts.HasInstance i)) (λ (i : Instance). AreHigh i.name) (λ i words. word_high i.name words.0.0) system.instances
      (of_mapped PartNames parts.HasInstance system.instances (each_part PartNames units_said (map parts.HasInstance system.instances) in_front).1)

  abbrev UnitWords : Unit → Type 0
  UnitWords unit = AllByRecursion HasWords (flat_map unit_part_forms (unit_parts unit))

  unit_words : AllByRecursion UnitWords system.units
  unit_words =
      each_so (λ (unit : Unit). PartNames (parts.HasUnit unit.name (unit_parts unit))) UnitWords
      (λ unit words. (each_part HasWords (flat_map unit_part_forms (unit_parts unit)) (form.End ∷ []) words.1).0) system.units
      (of_mapped PartNames (λ (unit : Unit). parts.HasUnit unit.name (unit_parts unit)) system.units
      (each_part PartNames units_said (map parts.HasInstance system.instances) in_front).0)

  events_named : (unit : Unit) (events : List EventOut) → AllByRecursion (λ (o : EventOut). AreHigh o.name) events
      → AllByRecursion (λ (o : Output). AreHigh o.name) (flat_map (plain_outputs unit) events)
  events_named unit [] named = tt
  events_named unit (event ∷ events) named = (high_append event.name (63 ∷ []) named.0 (omega arith, tt), (named.0, events_named unit events named.1))

  outputs_named : (unit : Unit) (outputs : List Output) → AllByRecursion (λ (o : Output). AreHigh o.name) outputs
      → AllByRecursion (λ (o : Output). AreHigh o.name) (map (plain_output unit) outputs)
  outputs_named unit [] named = tt
  outputs_named unit (output ∷ outputs) named = (named.0, outputs_named unit outputs named.1)

  plain_named : (units : List Unit) → AllByRecursion UnitWords units → AllByRecursion (λ (unit : Unit). AllByRecursion (λ (o : Output). AreHigh o.name) unit.outputs) (map plain_unit units)
  plain_named [] words = tt
  plain_named (unit ∷ units) words = (
    each_append (λ (o : Output). AreHigh o.name) (map (plain_output unit) unit.outputs) (flat_map (plain_outputs unit) unit.events_out)
        (outputs_named unit unit.outputs (output_names unit words.0))
        (events_named unit unit.events_out (event_names unit words.0)),
    plain_named units words.1,
  )

  pub are_named : AreNamed (plain_form system)
  are_named = by (system.version == 2)
    where
      by : (b : Bool) → AreNamed (if b then record system {
        units = map plain_unit system.units;
        wires = flat_map (plain_wires system) system.wires;
        samples = samples_or_all system;
      } else system)
      by true = record { instances = instance_names; outputs = plain_named system.units unit_words }
      by false = record {
        instances = instance_names;
        outputs = each_so UnitWords (λ (unit : Unit). AllByRecursion (λ (o : Output). AreHigh o.name) unit.outputs) (λ unit words. output_names unit words) system.units unit_words;
      }

-- ---- Titles

module _ (system : System) (named : AreNamed system) where
  by_output : (instance : Instance) (unit : Unit) (told : Option Output) (place : ℕ) → AreHigh instance.name → slice_get unit.outputs place ≡ told → Has system.units unit
      → (title : List ℕ) → option_map (port_title instance) told ≡ Some title → AreHigh title
  by_output instance unit None place high is has title some = absurd (cc some)
  by_output instance unit (Some output) place high is has title some =
      subst AreHigh (inside some)
      (high_append (instance.name ++ codes ".") output.name (high_append instance.name (codes ".") high (search arith))
      (each_has (λ (o : Output). AreHigh o.name) unit.outputs output
      (each_has (λ (u : Unit). AllByRecursion (λ (o : Output). AreHigh o.name) u.outputs) system.units unit named.outputs has)
      (has_at unit.outputs place output is)))
    where
      inside : Some (port_title instance output) ≡ Some title → port_title instance output ≡ title
      inside same = cc same

  by_unit : (instance : Instance) (told : Option Unit) (place : ℕ) → AreHigh instance.name → unit_of_instance system instance ≡ told → (title : List ℕ)
      → option_and_then (λ (unit : Unit). option_map (port_title instance) (slice_get unit.outputs place)) told ≡ Some title → AreHigh title
  by_unit instance None place high is title some = absurd (cc some)
  by_unit instance (Some unit) place high is title some =
      by_output instance unit (slice_get unit.outputs place) place high refl (named_has system.units instance.unit unit is) title some

  by_instance : (column : Column) (told : Option Instance) → slice_get system.instances column.instance ≡ told → (title : List ℕ)
      → option_and_then (λ (instance : Instance). option_and_then (λ (unit : Unit). option_map (port_title instance) (slice_get unit.outputs column.output)) (unit_of_instance system instance)) told ≡ Some title
      → AreHigh title
  by_instance column None is title some = absurd (cc some)
  by_instance column (Some instance) is title some =
      by_unit instance (unit_of_instance system instance) column.output
      (each_has (λ (i : Instance). AreHigh i.name) system.instances instance named.instances (has_at system.instances column.instance instance is)) refl title some

  title_high : (column : Column) (title : List ℕ) → title_in system column ≡ Some title → AreHigh title
  title_high column title some = by_instance column (slice_get system.instances column.instance) refl title some

  titles_more : (told : Option (List ℕ)) (titles : List (List ℕ)) → ((title : List ℕ) → told ≡ Some title → IsPlain title) → AllByRecursion IsPlain titles
      → AllByRecursion IsPlain (cons_option told titles)
  titles_more None titles first others = others
  titles_more (Some title) titles first others = (first title refl, others)

  pub titles_plain : (columns : List Column) → AllByRecursion IsPlain (filter_map (title_in system) columns)
  titles_plain [] = tt
  titles_plain (column ∷ columns) =
      titles_more (title_in system column) (filter_map (title_in system) columns) (λ title some. plain_of title (title_high column title some)) (titles_plain columns)
