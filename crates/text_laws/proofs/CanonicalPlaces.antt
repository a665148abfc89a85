-- Each canonical line is allowed where it is.
use Rattle.std.proofs.Common.{◌≡◌, ℕ, Bool, true, false, cond, not, nat_le, List, [], ◌∷◌, ◌++◌, append_assoc, map, Option, Some, None, IsTrue, refl, ap, sym}
use Rattle.std.proofs.Common.{subst, ◌∙◌}
use Rattle.std.specs.Prelude.{◌||◌}
use Rattle.std.specs.List.{flat_map, list_any, list_all}
use Rattle.std.proofs.lemmas.Bool.{and_parts, and_from, or_parts}
use Rattle.std.proofs.lemmas.List.{append-nil}
use Rattle.std.proofs.lemmas.List.Folds.{list_any-append}
use Rattle.std.proofs.lemmas.List.Sums.{fold-append}
use Rattle.std.proofs.lemmas.Grind.{flat_map-append}
use Rattle.fixed_words.specs.declared.types.Literal.{Literal}
use Rattle.unit_tree.specs.Blocks.{opens_unit, Before, no_lines, and_line, and_lines, has_rival, are_placed}
use Rattle.unit_tree.specs.Canonical.{optional, unit_parts, canonical_parts, canonical_forms}
use Rattle.unit_tree.specs.LineForms.{are_alike}
use Rattle.unit_tree.specs.Parts as parts
use Rattle.unit_tree.specs.Parts.{Part, UnitPart, line_forms, unit_part_forms, part_forms}
use Rattle.unit_tree.specs.Printable.{step_depth}
use Rattle.unit_tree.specs.Sites.{is_step_line}
use Rattle.unit_tree.specs.declared.expr.Expr.{Expr}
use Rattle.unit_tree.specs.declared.line.Line.{Line}
use Rattle.unit_tree.specs.declared.line_form.LineForm.{LineForm}
use Rattle.unit_tree.specs.declared.line_form.LineForm.TheVariants as form
use Rattle.unit_tree.specs.declared.system.Instance.{Instance}
use Rattle.unit_tree.specs.declared.system.Setting.{Setting}
use Rattle.unit_tree.specs.declared.system.System.{System}
use Rattle.unit_tree.specs.declared.system.Wire.{Wire}
use Rattle.unit_tree.specs.declared.unit.Unit.{Unit}
use Rattle.language_laws.proofs.BlockLaws.{all_step_lines}
use Rattle.language_laws.proofs.OpenBlocks.{all_in_text}
use Rattle.text_laws.proofs.PlacedParts.{may_follow, is_shallow, unit_part_may_stand, inside_may_stand, part_may_stand, parts_may_stand, parts_placed, headed}
use Rattle.text_laws.proofs.SpelledBytes.{all_pass}
use Rattle.list_laws.proofs.Lists.{all_of_two}

-- ---- Parts after others

-- Parts are allowed in a row if the first ones are, and the others after them.
may_follow_both : {P : Type 0} (forms : P → List LineForm) (may : Before → P → Bool) (xs ys : List P) (before : Before)
    → may_follow forms may before xs ≡ true → may_follow forms may (and_lines before (flat_map forms xs)) ys ≡ true
    → may_follow forms may before (xs ++ ys) ≡ true
may_follow_both forms may [] ys before on_xs on_ys = on_ys
may_follow_both forms may (part ∷ xs) ys before on_xs on_ys =
    let after = and_lines before (forms part) in
    let both = and_parts (may before part) (may_follow forms may after xs) on_xs in
    and_from (may before part) (may_follow forms may after (xs ++ ys)) both.0
    (may_follow_both forms may xs ys after both.1
    (subst (λ now. may_follow forms may now ys ≡ true) (fold-append and_line before (forms part) (flat_map forms xs)) on_ys))

-- Parts that are allowed after any lines.
each_follows : {A P : Type 0} (forms : P → List LineForm) (may : Before → P → Bool) (part : A → P)
    → ((one : A) (before : Before) → may before (part one) ≡ true) → (all : List A) (before : Before) → may_follow forms may before (map part all) ≡ true
each_follows forms may part free [] before = refl
each_follows forms may part free (one ∷ all) before =
    and_from (may before (part one)) (may_follow forms may (and_lines before (forms (part one))) (map part all)) (free one before)
    (each_follows forms may part free all (and_lines before (forms (part one))))

-- An optional part that is allowed there.
optional_follows : {A P : Type 0} (forms : P → List LineForm) (may : Before → P → Bool) (part : A → P) (given : Option A) (before : Before)
    → ((one : A) → may before (part one) ≡ true) → may_follow forms may before (optional part given) ≡ true
optional_follows forms may part None before free = refl
optional_follows forms may part (Some one) before free = and_from (may before (part one)) true (free one) refl

-- ---- Lines of which none passes a test

-- No line of parts passes the test.
abbrev NonePasses : {P : Type 0} → (LineForm → Bool) → (P → List LineForm) → List P → Type 0
NonePasses test forms all = list_any test (flat_map forms all) ≡ false

-- The same for two lists in a row.
none_of_both : {P : Type 0} (test : LineForm → Bool) (forms : P → List LineForm) (xs ys : List P) → NonePasses test forms xs → NonePasses test forms ys
    → NonePasses test forms (xs ++ ys)
none_of_both test forms xs ys on_xs on_ys =
    ap (list_any test) (flat_map-append forms xs ys)
    ∙ list_any-append test (flat_map forms xs) (flat_map forms ys)
    ∙ ap (λ told. told || list_any test (flat_map forms ys)) on_xs
    ∙ on_ys

-- The same for parts of one kind.
none_of_each : {A P : Type 0} (test : LineForm → Bool) (forms : P → List LineForm) (part : A → P) → ((one : A) → list_any test (forms (part one)) ≡ false)
    → (all : List A) → NonePasses test forms (map part all)
none_of_each test forms part none [] = refl
none_of_each test forms part none (one ∷ all) =
    list_any-append test (forms (part one)) (flat_map forms (map part all))
    ∙ ap (λ told. told || list_any test (flat_map forms (map part all))) (none one)
    ∙ none_of_each test forms part none all

-- The same for a part that may be missing.
none_of_optional : {A P : Type 0} (test : LineForm → Bool) (forms : P → List LineForm) (part : A → P) → ((one : A) → list_any test (forms (part one)) ≡ false)
    → (given : Option A) → NonePasses test forms (optional part given)
none_of_optional test forms part none None = refl
none_of_optional test forms part none (Some one) = ap (list_any test) (append-nil (forms (part one))) ∙ none one

-- ---- In a unit

-- The lines of a unit so far, where none of them begins another.
pub all_in_unit : (lines : List LineForm) (before : Before) → list_any opens_unit lines ≡ false → (and_lines before lines).in_unit ≡ before.in_unit ++ lines
all_in_unit [] before none = sym (append-nil before.in_unit)
all_in_unit (some ∷ lines) before none =
    let both = or_parts (opens_unit some) (list_any opens_unit lines) none in
    all_in_unit lines (and_line before some) both.1
    ∙ ap (λ told. cond told [] (before.in_unit ++ (some ∷ [])) ++ lines) both.0
    ∙ append_assoc before.in_unit (some ∷ []) lines

-- Parts at the beginning of a unit, with no `max` and no `step` yet.
record IsBare (start : Before) (front : List UnitPart) : Type 0 where
  stands : inside_may_stand start front ≡ true
  no_unit : NonePasses opens_unit unit_part_forms front
  no_max : (value : Expr) → NonePasses (are_alike (form.Max value)) unit_part_forms front
  no_step : NonePasses (are_alike form.Step) unit_part_forms front

-- A part that declares a name.
record Declares {A : Type 0} (part : A → UnitPart) : Type 0 where
  free : (one : A) (before : Before) → unit_part_may_stand before (part one) ≡ true
  no_unit : (one : A) → list_any opens_unit (unit_part_forms (part one)) ≡ false
  no_max : (one : A) (value : Expr) → list_any (are_alike (form.Max value)) (unit_part_forms (part one)) ≡ false
  no_step : (one : A) → list_any (are_alike form.Step) (unit_part_forms (part one)) ≡ false

-- One more declaration of the kind.
and_declared : {A : Type 0} (part : A → UnitPart) (all : List A) (start : Before) (front : List UnitPart) → Declares part → IsBare start front
    → IsBare start (front ++ map part all)
and_declared part all start front declares bare = record {
  stands = may_follow_both unit_part_forms unit_part_may_stand front (map part all) start bare.stands
      (each_follows unit_part_forms unit_part_may_stand part declares.free all (and_lines start (flat_map unit_part_forms front)));
  no_unit = none_of_both opens_unit unit_part_forms front (map part all) bare.no_unit (none_of_each opens_unit unit_part_forms part declares.no_unit all);
  no_max = λ value.
      none_of_both (are_alike (form.Max value)) unit_part_forms front (map part all) (bare.no_max value)
      (none_of_each (are_alike (form.Max value)) unit_part_forms part (λ one. declares.no_max one value) all);
  no_step =
      none_of_both (are_alike form.Step) unit_part_forms front (map part all) bare.no_step
      (none_of_each (are_alike form.Step) unit_part_forms part declares.no_step all);
}

-- The resolution is the first line of a unit.
resolution_is_bare : (given : Option ℕ) (start : Before) → start.in_unit ≡ [] → IsBare start (optional parts.Resolution given)
resolution_is_bare given start first = record {
  stands = optional_follows unit_part_forms unit_part_may_stand parts.Resolution given start
      (λ decimals. ap (λ lines. not (list_any (are_alike (form.Resolution decimals)) lines)) first);
  no_unit = none_of_optional opens_unit unit_part_forms parts.Resolution (λ decimals. refl) given;
  no_max = λ value. none_of_optional (are_alike (form.Max value)) unit_part_forms parts.Resolution (λ decimals. refl) given;
  no_step = none_of_optional (are_alike form.Step) unit_part_forms parts.Resolution (λ decimals. refl) given;
}

-- No line of the unit so far has the keyword of another.
no_rival_in_unit : (key : LineForm) (start : Before) (front : List UnitPart) → start.in_unit ≡ [] → NonePasses opens_unit unit_part_forms front
    → NonePasses (are_alike key) unit_part_forms front → not (list_any (are_alike key) (and_lines start (flat_map unit_part_forms front)).in_unit) ≡ true
no_rival_in_unit key start front first no_unit lack =
    ap (λ lines. not (list_any (are_alike key) lines))
    (all_in_unit (flat_map unit_part_forms front) start no_unit ∙ ap (λ lines. lines ++ flat_map unit_part_forms front) first)
    ∙ ap not lack

-- The parts that follow the declarations of a unit.
with_max_and_step : (front : List UnitPart) (start : Before) (limit : Option Expr) (lines : Option (List Line)) → start.in_unit ≡ [] → IsBare start front
    → nat_le (step_depth lines) 16 ≡ true → inside_may_stand start ((front ++ optional parts.Max limit) ++ optional parts.Step lines) ≡ true
with_max_and_step front start limit lines first bare shallow =
    let limited = front ++ optional parts.Max limit in
    let stands : inside_may_stand start limited ≡ true =
    may_follow_both unit_part_forms unit_part_may_stand front (optional parts.Max limit) start bare.stands
    (optional_follows unit_part_forms unit_part_may_stand parts.Max limit (and_lines start (flat_map unit_part_forms front))
    (λ value. no_rival_in_unit (form.Max value) start front first bare.no_unit (bare.no_max value))) in
    let no_unit =
    none_of_both opens_unit unit_part_forms front (optional parts.Max limit) bare.no_unit
    (none_of_optional opens_unit unit_part_forms parts.Max (λ value. refl) limit) in
    let no_step =
    none_of_both (are_alike form.Step) unit_part_forms front (optional parts.Max limit) bare.no_step
    (none_of_optional (are_alike form.Step) unit_part_forms parts.Max (λ value. refl) limit) in
    may_follow_both unit_part_forms unit_part_may_stand limited (optional parts.Step lines) start stands
    (step_follows lines (and_lines start (flat_map unit_part_forms limited)) shallow (no_rival_in_unit form.Step start limited first no_unit no_step))
  where
    step_follows : (lines : Option (List Line)) (before : Before) → nat_le (step_depth lines) 16 ≡ true
        → not (list_any (are_alike form.Step) before.in_unit) ≡ true → inside_may_stand before (optional parts.Step lines) ≡ true
    step_follows None before shallow none = refl
    step_follows (Some all) before shallow none =
        and_from (unit_part_may_stand before (parts.Step all)) true (and_from (not (has_rival before form.Step)) (is_shallow all) none shallow) refl

-- A part that declares a name is allowed everywhere in a unit, and begins with other keywords than
-- those.
declares : {A : Type 0} (part : A → UnitPart) → ((one : A) (before : Before) → unit_part_may_stand before (part one) ≡ true)
    → ((one : A) → list_any opens_unit (unit_part_forms (part one)) ≡ false)
    → ((one : A) (value : Expr) → list_any (are_alike (form.Max value)) (unit_part_forms (part one)) ≡ false)
    → ((one : A) → list_any (are_alike form.Step) (unit_part_forms (part one)) ≡ false) → Declares part
declares part free no_unit no_max no_step = record { free = free; no_unit = no_unit; no_max = no_max; no_step = no_step }

-- The canonical parts of a unit are allowed in it.
unit_parts_may_stand : (unit : Unit) (start : Before) → start.in_unit ≡ [] → nat_le (step_depth unit.step) 16 ≡ true
    → inside_may_stand start (unit_parts unit) ≡ true
unit_parts_may_stand unit start first shallow =
    let zero = optional parts.Resolution unit.resolution in
    let one = zero ++ map parts.HasParam unit.params in
    let two = one ++ map parts.HasState unit.states in
    let three = two ++ map parts.HasLocal unit.locals in
    let four = three ++ map parts.HasInput unit.inputs in
    let five = four ++ map parts.HasEventIn unit.events_in in
    let six = five ++ map parts.HasOutput unit.outputs in
    let seven = six ++ map parts.HasEventOut unit.events_out in
    let bare_zero : IsBare start zero = resolution_is_bare unit.resolution start first in
    let bare_one : IsBare start one =
    and_declared parts.HasParam unit.params start zero (declares parts.HasParam (λ x before. refl) (λ x. refl) (λ x value. refl) (λ x. refl)) bare_zero in
    let bare_two : IsBare start two =
    and_declared parts.HasState unit.states start one (declares parts.HasState (λ x before. refl) (λ x. refl) (λ x value. refl) (λ x. refl)) bare_one in
    let bare_three : IsBare start three =
    and_declared parts.HasLocal unit.locals start two (declares parts.HasLocal (λ x before. refl) (λ x. refl) (λ x value. refl) (λ x. refl)) bare_two in
    let bare_four : IsBare start four =
    and_declared parts.HasInput unit.inputs start three (declares parts.HasInput (λ x before. refl) (λ x. refl) (λ x value. refl) (λ x. refl)) bare_three in
    let bare_five : IsBare start five =
    and_declared parts.HasEventIn unit.events_in start four
    (declares parts.HasEventIn (λ x before. refl) (λ x. refl) (λ x value. refl) (λ x. refl)) bare_four in
    let bare_six : IsBare start six =
    and_declared parts.HasOutput unit.outputs start five (declares parts.HasOutput (λ x before. refl) (λ x. refl) (λ x value. refl) (λ x. refl)) bare_five in
    let bare_seven : IsBare start seven =
    and_declared parts.HasEventOut unit.events_out start six
    (declares parts.HasEventOut (λ x before. refl) (λ x. refl) (λ x value. refl) (λ x. refl)) bare_six in
    with_max_and_step seven start unit.max unit.step first bare_seven shallow

-- ---- Lines that may occur more than once

-- Whether any number of such lines is allowed in a text.
abbrev is_common : LineForm → Bool
is_common (form.Header version) = false
is_common (form.Stop seconds) = false
is_common (form.Longest seconds) = false
is_common (form.Zero count) = false
is_common (form.Rows count) = false
is_common _ = true

-- Step lines may occur any number of times.
step_line_is_common : (some : LineForm) → is_step_line some ≡ true → is_common some ≡ true
step_line_is_common (form.Header version) is = absurd (cc)
step_line_is_common (form.Stop seconds) is = absurd (cc)
step_line_is_common (form.Longest seconds) is = absurd (cc)
step_line_is_common (form.Zero count) is = absurd (cc)
step_line_is_common (form.Rows count) is = absurd (cc)
step_line_is_common _ is = refl

-- Lines of several elements may, if those of each may.
all_common : {A : Type 0} (forms : A → List LineForm) → ((one : A) → list_all is_common (forms one) ≡ true) → (all : List A)
    → list_all is_common (flat_map forms all) ≡ true
all_common forms common [] = refl
all_common forms common (one ∷ all) = all_of_two is_common (forms one) (flat_map forms all) (common one) (all_common forms common all)

-- Lines of a part of a unit may.
unit_part_is_common : (part : UnitPart) → list_all is_common (unit_part_forms part) ≡ true
unit_part_is_common (parts.Step lines) =
    all_of_two is_common (flat_map line_forms lines) (form.End ∷ [])
    (all_pass is_step_line is_common step_line_is_common (flat_map line_forms lines) (all_step_lines lines)) refl
unit_part_is_common _ = refl

-- Lines of a unit may.
unit_is_common : (name : List ℕ) (inside : List UnitPart) → list_all is_common (part_forms (parts.HasUnit name inside)) ≡ true
unit_is_common name inside = all_of_two is_common (flat_map unit_part_forms inside) (form.End ∷ []) (all_common unit_part_forms unit_part_is_common inside) refl

-- Settings may.
settings_are_common : (settings : List Setting) → list_all is_common (map form.Setting settings) ≡ true
settings_are_common [] = refl
settings_are_common (setting ∷ settings) = settings_are_common settings

-- The lines of an instance may.
instance_is_common : (instance : Instance) → list_all is_common (part_forms (parts.HasInstance instance)) ≡ true
instance_is_common instance = all_of_two is_common (map form.Setting instance.settings) (form.End ∷ []) (settings_are_common instance.settings) refl

-- Lines of parts of one kind may, if those of each may.
mapped_are_common : {A : Type 0} (part : A → Part) → ((one : A) → list_all is_common (part_forms (part one)) ≡ true) → (all : List A)
    → list_all is_common (flat_map part_forms (map part all)) ≡ true
mapped_are_common part common [] = refl
mapped_are_common part common (one ∷ all) =
    all_of_two is_common (part_forms (part one)) (flat_map part_forms (map part all)) (common one) (mapped_are_common part common all)

-- Those of two lists in a row may.
both_are_common : (xs ys : List Part) → list_all is_common (flat_map part_forms xs) ≡ true → list_all is_common (flat_map part_forms ys) ≡ true
    → list_all is_common (flat_map part_forms (xs ++ ys)) ≡ true
both_are_common xs ys on_xs on_ys = ap (list_all is_common) (flat_map-append part_forms xs ys)
    ∙ all_of_two is_common (flat_map part_forms xs) (flat_map part_forms ys) on_xs on_ys

-- Units, instances and connections have only such lines.
many_are_common : (units : List Unit) (instances : List Instance) (wires : List Wire)
    → list_all is_common
    (flat_map part_forms ((map (λ unit. parts.HasUnit unit.name (unit_parts unit)) units ++ map parts.HasInstance instances) ++ map parts.Connects wires))
    ≡ true
many_are_common units instances wires =
    both_are_common (map (λ unit. parts.HasUnit unit.name (unit_parts unit)) units ++ map parts.HasInstance instances) (map parts.Connects wires)
    (both_are_common (map (λ unit. parts.HasUnit unit.name (unit_parts unit)) units) (map parts.HasInstance instances)
    (mapped_are_common (λ unit. parts.HasUnit unit.name (unit_parts unit)) (λ unit. unit_is_common unit.name (unit_parts unit)) units)
    (mapped_are_common parts.HasInstance instance_is_common instances))
    (mapped_are_common parts.Connects (λ wire. refl) wires)

-- ---- Lines that occur at most once in a text

-- A line that begins with another keyword than each line that may occur more than once, and than the
-- header.
record IsRare (key : LineForm) : Type 0 where
  rival : (before : Before) → has_rival before key ≡ list_any (are_alike key) before.in_text
  header : (version : ℕ) → are_alike key (form.Header version) ≡ false
  other : (some : LineForm) → is_common some ≡ true → are_alike key some ≡ false

-- A line with the keyword of a `stop` is a `stop`.
rare-Stop : (seconds : Literal) → IsRare (form.Stop seconds)
rare-Stop seconds = record { rival = λ before. refl; header = λ version. refl; other = other }
  where
    other : (some : LineForm) → is_common some ≡ true → are_alike (form.Stop seconds) some ≡ false
    other (form.Stop value) is = absurd (cc)
    other _ is = refl

-- A line with the keyword of a `longest` is a `longest`.
rare-Longest : (seconds : Literal) → IsRare (form.Longest seconds)
rare-Longest seconds = record { rival = λ before. refl; header = λ version. refl; other = other }
  where
    other : (some : LineForm) → is_common some ≡ true → are_alike (form.Longest seconds) some ≡ false
    other (form.Longest value) is = absurd (cc)
    other _ is = refl

-- A line with the keyword of a `zero` is a `zero`.
rare-Zero : (count : ℕ) → IsRare (form.Zero count)
rare-Zero count = record { rival = λ before. refl; header = λ version. refl; other = other }
  where
    other : (some : LineForm) → is_common some ≡ true → are_alike (form.Zero count) some ≡ false
    other (form.Zero value) is = absurd (cc)
    other _ is = refl

-- A line with the keyword of a `rows` is a `rows`.
rare-Rows : (count : ℕ) → IsRare (form.Rows count)
rare-Rows count = record { rival = λ before. refl; header = λ version. refl; other = other }
  where
    other : (some : LineForm) → is_common some ≡ true → are_alike (form.Rows count) some ≡ false
    other (form.Rows value) is = absurd (cc)
    other _ is = refl

-- No line that may occur any number of times has its keyword.
common_lack : (key : LineForm) → IsRare key → (lines : List LineForm) → list_all is_common lines ≡ true → list_any (are_alike key) lines ≡ false
common_lack key rare [] common = refl
common_lack key rare (some ∷ lines) common =
    let both = and_parts (is_common some) (list_all is_common lines) common in
    ap (λ told. told || list_any (are_alike key) lines) (rare.other some both.0) ∙ common_lack key rare lines both.1

-- None of the lines of parts has its keyword.
abbrev Lack : LineForm → List Part → Type 0
Lack key front = NonePasses (are_alike key) part_forms front

-- It has no rival after the header and such parts.
no_rival : (version : ℕ) (front : List Part) (key : LineForm) → IsRare key → Lack key front
    → not (has_rival (and_lines (headed version) (flat_map part_forms front)) key) ≡ true
no_rival version front key rare lack =
    ap not (
    rare.rival (and_lines (headed version) (flat_map part_forms front))
    ∙ ap (list_any (are_alike key)) (all_in_text (flat_map part_forms front) (headed version))
    ∙ ap (λ told. told || list_any (are_alike key) (flat_map part_forms front)) (rare.header version)
    ∙ lack
    )

-- ---- A text

-- Units whose steps are shallow are allowed in a row.
units_follow : (units : List Unit) (before : Before) → list_all (λ unit. nat_le (step_depth unit.step) 16) units ≡ true
    → parts_may_stand before (map (λ unit. parts.HasUnit unit.name (unit_parts unit)) units) ≡ true
units_follow [] before shallow = refl
units_follow (unit ∷ units) before shallow =
    let part = parts.HasUnit unit.name (unit_parts unit) in
    let both = and_parts (nat_le (step_depth unit.step) 16) (list_all (λ one. nat_le (step_depth one.step) 16) units) shallow in
    let after = and_lines before (part_forms part) in
    and_from (part_may_stand before part) (parts_may_stand after (map (λ one. parts.HasUnit one.name (unit_parts one)) units))
    (unit_parts_may_stand unit (and_line before (form.Unit unit.name)) refl both.0) (units_follow units after both.1)

-- An optional part that may occur once, after parts without a line of its keyword.
and_once : {A : Type 0} (version : ℕ) (front : List Part) (part : A → Part) (given : Option A) → parts_may_stand (headed version) front ≡ true
    → ((one : A) → part_may_stand (and_lines (headed version) (flat_map part_forms front)) (part one) ≡ true)
    → parts_may_stand (headed version) (front ++ optional part given) ≡ true
and_once version front part given stands may =
    may_follow_both part_forms part_may_stand front (optional part given) (headed version) stands
    (optional_follows part_forms part_may_stand part given (and_lines (headed version) (flat_map part_forms front)) may)

-- The canonical parts of a system with such units are allowed after its header.
canonical_parts_may_stand : (system : System) → list_all (λ unit. nat_le (step_depth unit.step) 16) system.units ≡ true
    → parts_may_stand (headed system.version) (canonical_parts system) ≡ true
canonical_parts_may_stand system shallow =
    let start = headed system.version in
    let units = map (λ unit. parts.HasUnit unit.name (unit_parts unit)) system.units in
    let instances = map parts.HasInstance system.instances in
    let wires = map parts.Connects system.wires in
    let stop = optional parts.Stop system.stop in
    let longest = optional parts.Longest system.longest in
    let zero = optional parts.Zero system.zero in
    let rows = optional parts.Rows system.rows in
    let many = (units ++ instances) ++ wires in
    let common : list_all is_common (flat_map part_forms many) ≡ true = many_are_common system.units system.instances system.wires in
    let lack : (key : LineForm) → IsRare key → Lack key many = λ key rare. common_lack key rare (flat_map part_forms many) common in
    let many_stand : parts_may_stand start many ≡ true =
    may_follow_both part_forms part_may_stand (units ++ instances) wires start
    (may_follow_both part_forms part_may_stand units instances start (units_follow system.units start shallow)
    (each_follows part_forms part_may_stand parts.HasInstance (λ one before. refl) system.instances (and_lines start (flat_map part_forms units))))
    (each_follows part_forms part_may_stand parts.Connects (λ one before. refl) system.wires (and_lines start (flat_map part_forms (units ++ instances)))) in
    let stop_stands : parts_may_stand start (many ++ stop) ≡ true =
    and_once system.version many parts.Stop system.stop many_stand
    (λ seconds. no_rival system.version many (form.Stop seconds) (rare-Stop seconds) (lack (form.Stop seconds) (rare-Stop seconds))) in
    let no_stop : (key : LineForm) → IsRare key → ((seconds : Literal) → list_any (are_alike key) (form.Stop seconds ∷ []) ≡ false) → Lack key (many ++ stop) =
    λ key rare none.
    none_of_both (are_alike key) part_forms many stop (lack key rare) (none_of_optional (are_alike key) part_forms parts.Stop none system.stop) in
    let longest_stands : parts_may_stand start ((many ++ stop) ++ longest) ≡ true =
    and_once system.version (many ++ stop) parts.Longest system.longest stop_stands
    (λ seconds.
    no_rival system.version (many ++ stop) (form.Longest seconds) (rare-Longest seconds)
    (no_stop (form.Longest seconds) (rare-Longest seconds) (λ other. refl))) in
    let zero_lacks : (count : ℕ) → Lack (form.Zero count) ((many ++ stop) ++ longest) =
    λ count. none_of_both (are_alike (form.Zero count)) part_forms (many ++ stop) longest (no_stop (form.Zero count) (rare-Zero count) (λ other. refl))
    (none_of_optional (are_alike (form.Zero count)) part_forms parts.Longest (λ other. refl) system.longest) in
    let zero_stands : parts_may_stand start (((many ++ stop) ++ longest) ++ zero) ≡ true =
    and_once system.version ((many ++ stop) ++ longest) parts.Zero system.zero longest_stands
    (λ count. no_rival system.version ((many ++ stop) ++ longest) (form.Zero count) (rare-Zero count) (zero_lacks count)) in
    let rows_lack : (count : ℕ) → Lack (form.Rows count) (((many ++ stop) ++ longest) ++ zero) =
    λ count.
    none_of_both (are_alike (form.Rows count)) part_forms ((many ++ stop) ++ longest) zero
    (none_of_both (are_alike (form.Rows count)) part_forms (many ++ stop) longest (no_stop (form.Rows count) (rare-Rows count) (λ other. refl))
    (none_of_optional (are_alike (form.Rows count)) part_forms parts.Longest (λ other. refl) system.longest))
    (none_of_optional (are_alike (form.Rows count)) part_forms parts.Zero (λ other. refl) system.zero) in
    let rows_stand : parts_may_stand start ((((many ++ stop) ++ longest) ++ zero) ++ rows) ≡ true =
    and_once system.version (((many ++ stop) ++ longest) ++ zero) parts.Rows system.rows zero_stands
    (λ count. no_rival system.version (((many ++ stop) ++ longest) ++ zero) (form.Rows count) (rare-Rows count) (rows_lack count)) in
    may_follow_both part_forms part_may_stand ((((many ++ stop) ++ longest) ++ zero) ++ rows) (map parts.Samples system.samples) start rows_stand
    (each_follows part_forms part_may_stand parts.Samples (λ one before. refl) system.samples
    (and_lines start (flat_map part_forms ((((many ++ stop) ++ longest) ++ zero) ++ rows))))

-- The canonical lines of a system whose steps are not too deep are placed.
pub canonical_is_placed : (system : System) → IsTrue (list_all (λ unit. nat_le (step_depth unit.step) 16) system.units)
    → IsTrue (are_placed no_lines (canonical_forms system))
canonical_is_placed system shallow = parts_placed (canonical_parts system) (headed system.version) refl ∙ canonical_parts_may_stand system shallow
