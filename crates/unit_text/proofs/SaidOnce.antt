-- Lines that may occur once: the system, or the unit, shows whether one with the same keyword came before.
use Rattle.std.proofs.Common.{◌≡◌, ℕ, Bool, true, false, List, [], ◌∷◌, ◌++◌, map, Some, None, refl, ap, sym, subst, ◌∙◌}
use Rattle.std.specs.Prelude.{◌||◌, is_some}
use Rattle.std.specs.List.{flat_map, list_any}
use Rattle.std.proofs.lemmas.List.Folds.{list_any-append}
use Rattle.std.proofs.lemmas.Grind.{fold-append}
use Rattle.fixed_words.specs.declared.types.Literal.{Literal}
use Rattle.unit_tree.specs.Blocks.{Before, no_lines, and_line, and_lines, opens_unit}
use Rattle.unit_tree.specs.LineForms.{are_alike}
use Rattle.unit_tree.specs.Parts as parts
use Rattle.unit_tree.specs.Parts.{Part, UnitPart, block_forms, joined, line_forms, unit_part_forms, part_forms, text_forms, unit_of, system_of}
use Rattle.unit_tree.specs.Sites.{is_step_line}
use Rattle.unit_tree.specs.declared.expr.Expr.{Expr}
use Rattle.unit_tree.specs.declared.line.Line.{Line}
use Rattle.unit_tree.specs.declared.line.Line.TheFolds.{ind-Line, map-Line}
use Rattle.unit_tree.specs.declared.line.Line.TheOpen.{Line-F}
use Rattle.unit_tree.specs.declared.line.Line.TheVariants.{rolls-Assign, rolls-If, rolls-Repeat, rolls-Accept}
use Rattle.unit_tree.specs.declared.line.Line.TheViews.{roll-Line}
use Rattle.unit_tree.specs.declared.line_form.LineForm.{LineForm}
use Rattle.unit_tree.specs.declared.line_form.LineForm.TheVariants as form
use Rattle.unit_tree.specs.declared.system.Instance.{Instance}
use Rattle.unit_tree.specs.declared.system.Setting.{Setting}
use Rattle.unit_tree.proofs.FoldLemmas.{fold-Assign, fold-If, fold-Repeat, fold-Accept}
use Rattle.text_laws.proofs.CanonicalPlaces.{all_in_unit}
use Rattle.language_laws.proofs.OpenBlocks.{all_in_text}

-- ---- Tests that no step line passes

-- No step line passes the test, also no `end`.
abbrev IsApart : (LineForm → Bool) → Type 0
IsApart test = (some : LineForm) → is_step_line some ≡ true → test some ≡ false

none_of_two : (test : LineForm → Bool) (xs ys : List LineForm) → list_any test xs ≡ false → list_any test ys ≡ false → list_any test (xs ++ ys) ≡ false
none_of_two test xs ys none none_too = list_any-append test xs ys ∙ ap (λ told. told || list_any test ys) none ∙ none_too

-- a first line that does not pass
none_first : (test : LineForm → Bool) (first : LineForm) (lines : List LineForm) → test first ≡ false → list_any test lines ≡ false
    → list_any test (first ∷ lines) ≡ false
none_first test first lines is none = ap (λ told. told || list_any test lines) is ∙ none

abbrev HasNone : (LineForm → Bool) → Line → Type 0
HasNone test some = list_any test (line_forms some) ≡ false

abbrev Bare : (LineForm → Bool) → Type 0
Bare test = (some : Line) × HasNone test some

abbrev bare_line : (test : LineForm → Bool) → Bare test → Line
bare_line test one = one.0

none_joined : (test : LineForm → Bool) (lines : List (Bare test)) → list_any test (joined (map line_forms (map (bare_line test) lines))) ≡ false
none_joined test [] = refl
none_joined test (one ∷ lines) = none_of_two test (line_forms one.0) (joined (map line_forms (map (bare_line test) lines))) one.1 (none_joined test lines)

none_node : (test : LineForm → Bool) → IsApart test → (y : Line-F (Bare test)) → HasNone test (roll-Line (map-Line (Bare test) Line (bare_line test) y))
none_node test apart (Line-F.Assign target value) =
    subst (HasNone test) (sym (rolls-Assign target value))
    (ap (list_any test) (fold-Assign (List LineForm) block_forms target value)
    ∙ none_first test (form.Assign target value) [] (apart (form.Assign target value) refl) refl)
none_node test apart (Line-F.Accept value) =
    subst (HasNone test) (sym (rolls-Accept value))
    (ap (list_any test) (fold-Accept (List LineForm) block_forms value) ∙ none_first test (form.Accept value) [] (apart (form.Accept value) refl) refl)
none_node test apart (Line-F.Repeat count body) =
    subst (HasNone test) (sym (rolls-Repeat count (map (bare_line test) body)))
    (ap (list_any test) (fold-Repeat (List LineForm) block_forms count (map (bare_line test) body))
    ∙ none_first test (form.Repeat count) (joined (map line_forms (map (bare_line test) body)) ++ (form.End ∷ [])) (apart (form.Repeat count) refl)
    (none_of_two test (joined (map line_forms (map (bare_line test) body))) (form.End ∷ []) (none_joined test body)
    (none_first test form.End [] (apart form.End refl) refl)))
none_node test apart (Line-F.If condition then_lines None) =
    let lines = joined (map line_forms (map (bare_line test) then_lines)) in
    subst (HasNone test) (sym (rolls-If condition (map (bare_line test) then_lines) None))
    (ap (list_any test) (fold-If (List LineForm) block_forms condition (map (bare_line test) then_lines) None)
    ∙ none_first test (form.If condition) ((lines ++ []) ++ (form.End ∷ [])) (apart (form.If condition) refl)
    (none_of_two test (lines ++ []) (form.End ∷ []) (none_of_two test lines [] (none_joined test then_lines) refl)
    (none_first test form.End [] (apart form.End refl) refl)))
none_node test apart (Line-F.If condition then_lines (Some else_lines)) =
    let lines = joined (map line_forms (map (bare_line test) then_lines)) in
    let others = joined (map line_forms (map (bare_line test) else_lines)) in
    subst (HasNone test) (sym (rolls-If condition (map (bare_line test) then_lines) (Some (map (bare_line test) else_lines))))
    (ap (list_any test) (fold-If (List LineForm) block_forms condition (map (bare_line test) then_lines) (Some (map (bare_line test) else_lines)))
    ∙ none_first test (form.If condition) ((lines ++ (form.Else ∷ others)) ++ (form.End ∷ [])) (apart (form.If condition) refl)
    (none_of_two test (lines ++ (form.Else ∷ others)) (form.End ∷ [])
    (none_of_two test lines (form.Else ∷ others) (none_joined test then_lines)
    (none_first test form.Else others (apart form.Else refl) (none_joined test else_lines)))
    (none_first test form.End [] (apart form.End refl) refl)))

none_in_line : (test : LineForm → Bool) → IsApart test → (some : Line) → HasNone test some
none_in_line test apart = ind-Line (HasNone test) (λ x y is. subst (λ z. HasNone test (roll-Line z)) is (none_node test apart y))

none_in_all : {A : Type 0} (test : LineForm → Bool) (forms : A → List LineForm) → ((one : A) → list_any test (forms one) ≡ false) → (all : List A)
    → list_any test (flat_map forms all) ≡ false
none_in_all test forms none [] = refl
none_in_all test forms none (one ∷ all) = none_of_two test (forms one) (flat_map forms all) (none one) (none_in_all test forms none all)

-- the lines of a step, with its first line and its `end`
none_in_step : (test : LineForm → Bool) → IsApart test → (lines : List Line) → test form.Step ≡ false
    → list_any test (unit_part_forms (parts.Step lines)) ≡ false
none_in_step test apart lines step =
    none_first test form.Step (flat_map line_forms lines ++ (form.End ∷ [])) step
    (none_of_two test (flat_map line_forms lines) (form.End ∷ []) (none_in_all test line_forms (none_in_line test apart) lines)
    (none_first test form.End [] (apart form.End refl) refl))

-- ---- In a text

abbrev pub is_stop : LineForm → Bool
is_stop (form.Stop seconds) = true
is_stop _ = false

abbrev pub is_longest : LineForm → Bool
is_longest (form.Longest seconds) = true
is_longest _ = false

abbrev pub is_zero : LineForm → Bool
is_zero (form.Zero count) = true
is_zero _ = false

abbrev pub is_rows : LineForm → Bool
is_rows (form.Rows count) = true
is_rows _ = false

like_stop : (seconds : Literal) (some : LineForm) → are_alike (form.Stop seconds) some ≡ is_stop some
like_stop seconds (form.Stop other) = refl
like_stop seconds _ = refl

like_longest : (seconds : Literal) (some : LineForm) → are_alike (form.Longest seconds) some ≡ is_longest some
like_longest seconds (form.Longest other) = refl
like_longest seconds _ = refl

like_zero : (count : ℕ) (some : LineForm) → are_alike (form.Zero count) some ≡ is_zero some
like_zero count (form.Zero other) = refl
like_zero count _ = refl

like_rows : (count : ℕ) (some : LineForm) → are_alike (form.Rows count) some ≡ is_rows some
like_rows count (form.Rows other) = refl
like_rows count _ = refl

any_alike : (one other : LineForm → Bool) → ((some : LineForm) → one some ≡ other some) → (lines : List LineForm) → list_any one lines ≡ list_any other lines
any_alike one other same [] = refl
any_alike one other same (some ∷ lines) = ap (λ told. told || list_any one lines) (same some) ∙ ap (λ told. other some || told) (any_alike one other same lines)

-- A test that no line of a unit or of an instance passes.
record IsOfText (test : LineForm → Bool) : Type 0 where
  apart : IsApart test
  unit : (name : List ℕ) → test (form.Unit name) ≡ false
  in_unit : (part : UnitPart) → list_any test (unit_part_forms part) ≡ false
  instance : (name unit : List ℕ) → test (form.Instance name unit) ≡ false
  setting : (setting : Setting) → test (form.Setting setting) ≡ false

none_in_unit : (test : LineForm → Bool) → IsOfText test → (name : List ℕ) (inside : List UnitPart)
    → list_any test (part_forms (parts.HasUnit name inside)) ≡ false
none_in_unit test is name inside =
    none_first test (form.Unit name) (flat_map unit_part_forms inside ++ (form.End ∷ [])) (is.unit name)
    (none_of_two test (flat_map unit_part_forms inside) (form.End ∷ []) (none_in_all test unit_part_forms is.in_unit inside)
    (none_first test form.End [] (is.apart form.End refl) refl))

none_in_settings : (test : LineForm → Bool) → IsOfText test → (settings : List Setting) → list_any test (map form.Setting settings) ≡ false
none_in_settings test is [] = refl
none_in_settings test is (setting ∷ settings) =
    none_first test (form.Setting setting) (map form.Setting settings) (is.setting setting) (none_in_settings test is settings)

none_in_instance : (test : LineForm → Bool) → IsOfText test → (instance : Instance) → list_any test (part_forms (parts.HasInstance instance)) ≡ false
none_in_instance test is instance =
    none_first test (form.Instance instance.name instance.unit) (map form.Setting instance.settings ++ (form.End ∷ []))
    (is.instance instance.name instance.unit)
    (none_of_two test (map form.Setting instance.settings) (form.End ∷ []) (none_in_settings test is instance.settings)
    (none_first test form.End [] (is.apart form.End refl) refl))

apart_stop : IsApart is_stop
apart_stop (form.Stop seconds) is = absurd (cc)
apart_stop _ is = refl

in_unit_stop : (part : UnitPart) → list_any is_stop (unit_part_forms part) ≡ false
in_unit_stop (parts.Step lines) = none_in_step is_stop apart_stop lines refl
in_unit_stop _ = refl

of_text_stop : IsOfText is_stop
of_text_stop = record { apart = apart_stop; unit = λ name. refl; in_unit = in_unit_stop; instance = λ name unit. refl; setting = λ setting. refl }

-- a line of the kind is among those of parts exactly where their system has it
stop_in : (version : ℕ) (all : List Part) → list_any is_stop (flat_map part_forms all) ≡ is_some (system_of version all).stop
stop_in version [] = refl
stop_in version (parts.HasUnit name inside ∷ all) =
    list_any-append is_stop (part_forms (parts.HasUnit name inside)) (flat_map part_forms all)
    ∙ ap (λ told. told || list_any is_stop (flat_map part_forms all)) (none_in_unit is_stop of_text_stop name inside) ∙ stop_in version all
stop_in version (parts.HasInstance instance ∷ all) =
    list_any-append is_stop (part_forms (parts.HasInstance instance)) (flat_map part_forms all)
    ∙ ap (λ told. told || list_any is_stop (flat_map part_forms all)) (none_in_instance is_stop of_text_stop instance) ∙ stop_in version all
stop_in version (parts.Stop seconds ∷ all) = refl
stop_in version (_ ∷ all) = stop_in version all

pub stop_said : (version : ℕ) (all : List Part) (seconds : Literal)
    → list_any (are_alike (form.Stop seconds)) (text_forms version all) ≡ is_some (system_of version all).stop
stop_said version all seconds = any_alike (are_alike (form.Stop seconds)) is_stop (like_stop seconds) (text_forms version all) ∙ stop_in version all

apart_longest : IsApart is_longest
apart_longest (form.Longest seconds) is = absurd (cc)
apart_longest _ is = refl

in_unit_longest : (part : UnitPart) → list_any is_longest (unit_part_forms part) ≡ false
in_unit_longest (parts.Step lines) = none_in_step is_longest apart_longest lines refl
in_unit_longest _ = refl

of_text_longest : IsOfText is_longest
of_text_longest = record { apart = apart_longest; unit = λ name. refl; in_unit = in_unit_longest; instance = λ name unit. refl; setting = λ setting. refl }

-- a line of the kind is among those of parts exactly where their system has it
longest_in : (version : ℕ) (all : List Part) → list_any is_longest (flat_map part_forms all) ≡ is_some (system_of version all).longest
longest_in version [] = refl
longest_in version (parts.HasUnit name inside ∷ all) =
    list_any-append is_longest (part_forms (parts.HasUnit name inside)) (flat_map part_forms all)
    ∙ ap (λ told. told || list_any is_longest (flat_map part_forms all)) (none_in_unit is_longest of_text_longest name inside) ∙ longest_in version all
longest_in version (parts.HasInstance instance ∷ all) =
    list_any-append is_longest (part_forms (parts.HasInstance instance)) (flat_map part_forms all)
    ∙ ap (λ told. told || list_any is_longest (flat_map part_forms all)) (none_in_instance is_longest of_text_longest instance) ∙ longest_in version all
longest_in version (parts.Longest seconds ∷ all) = refl
longest_in version (_ ∷ all) = longest_in version all

pub longest_said : (version : ℕ) (all : List Part) (seconds : Literal)
    → list_any (are_alike (form.Longest seconds)) (text_forms version all) ≡ is_some (system_of version all).longest
longest_said version all seconds = any_alike (are_alike (form.Longest seconds)) is_longest (like_longest seconds) (text_forms version all)
    ∙ longest_in version all

apart_zero : IsApart is_zero
apart_zero (form.Zero count) is = absurd (cc)
apart_zero _ is = refl

in_unit_zero : (part : UnitPart) → list_any is_zero (unit_part_forms part) ≡ false
in_unit_zero (parts.Step lines) = none_in_step is_zero apart_zero lines refl
in_unit_zero _ = refl

of_text_zero : IsOfText is_zero
of_text_zero = record { apart = apart_zero; unit = λ name. refl; in_unit = in_unit_zero; instance = λ name unit. refl; setting = λ setting. refl }

-- a line of the kind is among those of parts exactly where their system has it
zero_in : (version : ℕ) (all : List Part) → list_any is_zero (flat_map part_forms all) ≡ is_some (system_of version all).zero
zero_in version [] = refl
zero_in version (parts.HasUnit name inside ∷ all) =
    list_any-append is_zero (part_forms (parts.HasUnit name inside)) (flat_map part_forms all)
    ∙ ap (λ told. told || list_any is_zero (flat_map part_forms all)) (none_in_unit is_zero of_text_zero name inside) ∙ zero_in version all
zero_in version (parts.HasInstance instance ∷ all) =
    list_any-append is_zero (part_forms (parts.HasInstance instance)) (flat_map part_forms all)
    ∙ ap (λ told. told || list_any is_zero (flat_map part_forms all)) (none_in_instance is_zero of_text_zero instance) ∙ zero_in version all
zero_in version (parts.Zero count ∷ all) = refl
zero_in version (_ ∷ all) = zero_in version all

pub zero_said : (version : ℕ) (all : List Part) (count : ℕ)
    → list_any (are_alike (form.Zero count)) (text_forms version all) ≡ is_some (system_of version all).zero
zero_said version all count = any_alike (are_alike (form.Zero count)) is_zero (like_zero count) (text_forms version all) ∙ zero_in version all

apart_rows : IsApart is_rows
apart_rows (form.Rows count) is = absurd (cc)
apart_rows _ is = refl

in_unit_rows : (part : UnitPart) → list_any is_rows (unit_part_forms part) ≡ false
in_unit_rows (parts.Step lines) = none_in_step is_rows apart_rows lines refl
in_unit_rows _ = refl

of_text_rows : IsOfText is_rows
of_text_rows = record { apart = apart_rows; unit = λ name. refl; in_unit = in_unit_rows; instance = λ name unit. refl; setting = λ setting. refl }

-- a line of the kind is among those of parts exactly where their system has it
rows_in : (version : ℕ) (all : List Part) → list_any is_rows (flat_map part_forms all) ≡ is_some (system_of version all).rows
rows_in version [] = refl
rows_in version (parts.HasUnit name inside ∷ all) =
    list_any-append is_rows (part_forms (parts.HasUnit name inside)) (flat_map part_forms all)
    ∙ ap (λ told. told || list_any is_rows (flat_map part_forms all)) (none_in_unit is_rows of_text_rows name inside) ∙ rows_in version all
rows_in version (parts.HasInstance instance ∷ all) =
    list_any-append is_rows (part_forms (parts.HasInstance instance)) (flat_map part_forms all)
    ∙ ap (λ told. told || list_any is_rows (flat_map part_forms all)) (none_in_instance is_rows of_text_rows instance) ∙ rows_in version all
rows_in version (parts.Rows count ∷ all) = refl
rows_in version (_ ∷ all) = rows_in version all

pub rows_said : (version : ℕ) (all : List Part) (count : ℕ)
    → list_any (are_alike (form.Rows count)) (text_forms version all) ≡ is_some (system_of version all).rows
rows_said version all count = any_alike (are_alike (form.Rows count)) is_rows (like_rows count) (text_forms version all) ∙ rows_in version all

-- ---- In a unit

abbrev pub is_resolution : LineForm → Bool
is_resolution (form.Resolution decimals) = true
is_resolution _ = false

abbrev pub is_max : LineForm → Bool
is_max (form.Max value) = true
is_max _ = false

abbrev pub is_step : LineForm → Bool
is_step form.Step = true
is_step _ = false

like_resolution : (decimals : ℕ) (some : LineForm) → are_alike (form.Resolution decimals) some ≡ is_resolution some
like_resolution decimals (form.Resolution other) = refl
like_resolution decimals _ = refl

like_max : (value : Expr) (some : LineForm) → are_alike (form.Max value) some ≡ is_max some
like_max value (form.Max other) = refl
like_max value _ = refl

like_step : (some : LineForm) → are_alike form.Step some ≡ is_step some
like_step form.Step = refl
like_step _ = refl

apart_resolution : IsApart is_resolution
apart_resolution (form.Resolution decimals) is = absurd (cc)
apart_resolution _ is = refl

resolution_in : (name : List ℕ) (inside : List UnitPart) → list_any is_resolution (flat_map unit_part_forms inside) ≡ is_some (unit_of name inside).resolution
resolution_in name [] = refl
resolution_in name (parts.Resolution decimals ∷ inside) = refl
resolution_in name (parts.Step lines ∷ inside) =
    list_any-append is_resolution (unit_part_forms (parts.Step lines)) (flat_map unit_part_forms inside)
    ∙ ap (λ told. told || list_any is_resolution (flat_map unit_part_forms inside)) (none_in_step is_resolution apart_resolution lines refl)
    ∙ resolution_in name inside
resolution_in name (_ ∷ inside) = resolution_in name inside

apart_max : IsApart is_max
apart_max (form.Max value) is = absurd (cc)
apart_max _ is = refl

max_in : (name : List ℕ) (inside : List UnitPart) → list_any is_max (flat_map unit_part_forms inside) ≡ is_some (unit_of name inside).max
max_in name [] = refl
max_in name (parts.Max value ∷ inside) = refl
max_in name (parts.Step lines ∷ inside) =
    list_any-append is_max (unit_part_forms (parts.Step lines)) (flat_map unit_part_forms inside)
    ∙ ap (λ told. told || list_any is_max (flat_map unit_part_forms inside)) (none_in_step is_max apart_max lines refl) ∙ max_in name inside
max_in name (_ ∷ inside) = max_in name inside

pub resolution_said : (name : List ℕ) (inside : List UnitPart) (decimals : ℕ)
    → list_any (are_alike (form.Resolution decimals)) (flat_map unit_part_forms inside) ≡ is_some (unit_of name inside).resolution
resolution_said name inside decimals =
    any_alike (are_alike (form.Resolution decimals)) is_resolution (like_resolution decimals) (flat_map unit_part_forms inside) ∙ resolution_in name inside

pub max_said : (name : List ℕ) (inside : List UnitPart) (value : Expr)
    → list_any (are_alike (form.Max value)) (flat_map unit_part_forms inside) ≡ is_some (unit_of name inside).max
max_said name inside value = any_alike (are_alike (form.Max value)) is_max (like_max value) (flat_map unit_part_forms inside) ∙ max_in name inside

step_in : (name : List ℕ) (inside : List UnitPart) → list_any is_step (flat_map unit_part_forms inside) ≡ is_some (unit_of name inside).step
step_in name [] = refl
step_in name (parts.Step lines ∷ inside) = refl
step_in name (_ ∷ inside) = step_in name inside

pub step_said : (name : List ℕ) (inside : List UnitPart) → list_any (are_alike form.Step) (flat_map unit_part_forms inside) ≡ is_some (unit_of name inside).step
step_said name inside = any_alike (are_alike form.Step) is_step like_step (flat_map unit_part_forms inside) ∙ step_in name inside

-- ---- What comes before a line

pub text_before : (lines : List LineForm) → (and_lines no_lines lines).in_text ≡ lines
text_before lines = all_in_text lines no_lines

apart_unit : IsApart opens_unit
apart_unit (form.Unit name) is = absurd (cc)
apart_unit _ is = refl

no_unit_inside : (part : UnitPart) → list_any opens_unit (unit_part_forms part) ≡ false
no_unit_inside (parts.Step lines) = none_in_step opens_unit apart_unit lines refl
no_unit_inside _ = refl

-- After the line of a unit, and lines that its parts have.
pub unit_before : (front : List LineForm) (name : List ℕ) (inside : List UnitPart)
    → (and_lines no_lines (front ++ (form.Unit name ∷ flat_map unit_part_forms inside))).in_unit ≡ flat_map unit_part_forms inside
unit_before front name inside =
    ap (λ (before : Before). before.in_unit) (fold-append and_line no_lines front (form.Unit name ∷ flat_map unit_part_forms inside))
    ∙ all_in_unit (flat_map unit_part_forms inside) (and_line (and_lines no_lines front) (form.Unit name))
    (none_in_all opens_unit unit_part_forms no_unit_inside inside)
