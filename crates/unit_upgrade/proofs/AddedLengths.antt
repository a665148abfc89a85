-- The length of a line with a count, and how much longer the text of an upgrade is.
use Rattle.std.proofs.Common.{◌≡◌, ℕ, ◌+◌, ◌-◌, ◌^◌, ◌<◌, ◌≤◌, Bool, true, false, List, [], ◌∷◌, ◌++◌, append-nil, length, take, drop, replicate}
use Rattle.std.proofs.Common.{codes, decimal, if◌then◌else◌, Option, Some, None, refl, ap, ◌∙◌, arith, unwrap_or, ◌&&◌}
use Rattle.std.specs.Fmt.{digits}
use Rattle.std.specs.List.{flat_map}
use Rattle.std.proofs.Math.Seq.{take-length, drop-length}
use Rattle.std.proofs.lemmas.Fmt.{decimal_nonempty, length-decimal-le}
use Rattle.std.proofs.lemmas.Grind.{flat_map-append}
use Rattle.std.proofs.lemmas.List.{length-append}
use Rattle.fixed_words.specs.Digits.{pointed}
use Rattle.fixed_words.specs.Texts.{fixed_text, pointed_before}
use Rattle.unit_print.proofs.GrowingTexts.{number_behind}
use Rattle.unit_tree.specs.Canonical.{canonical_text, ends_in_word, line_text, spaced}
use Rattle.model_rules.specs.Limits.{default_zeros}
use Rattle.unit_tree.specs.Compositions.{default_rows}
use Rattle.unit_tree.specs.declared.line_form.LineForm.{LineForm}
use Rattle.unit_tree.specs.declared.line_form.LineForm.TheVariants as form
use Rattle.unit_tree.specs.declared.system.System.{System}
use Rattle.unit_upgrade.specs.Added.{lines_text, rows_added, unless_given, zeros_added}
use Rattle.unit_upgrade.specs.Upgrades.{in_version_2}
use Rattle.unit_upgrade.proofs.Parted.{front_lines, lines_are, row_lines, sample_lines, zero_lines}

-- ---- A line with a count

cut_nowhere : (all : List ℕ) → pointed_before 0 all ≡ all
cut_nowhere all =
    let place : length all - 0 ≡ length all = omega arith in
    ap (λ n. take n all ++ pointed (drop n all)) place
    ∙ ap (λ front. front ++ pointed (drop (length all) all)) (take-length all)
    ∙ ap (λ rest. all ++ pointed rest) (drop-length all)
    ∙ append-nil all

-- A whole number is written as its digits.
whole_text : (n : ℕ) → n < 2 ^ 64 → fixed_text 0 n ≡ decimal n
whole_text n fits =
    let none : 0 + 1 - length (decimal n) ≡ 0 = omega (arith, decimal_nonempty n fits) in
    ap (λ zeros. pointed_before 0 (replicate {A = ℕ} zeros 48 ++ decimal n)) none ∙ cut_nowhere (decimal n)

nothing_behind : (text : List ℕ) → spaced text [] ≡ text
nothing_behind text = by (ends_in_word text)
  where
    by : (ends : Bool) → (if ends && false then text ++ (32 ∷ []) else text ++ []) ≡ text
    by true = append-nil text
    by false = append-nil text

-- A word, a space and the digits.
with_count : (word : List ℕ) (n : ℕ) → ends_in_word word ≡ true → n < 2 ^ 64
    → length (spaced word (spaced (fixed_text 0 n) [])) ≡ length word + 1 + length (decimal n)
with_count word n ends fits =
    let all : spaced word (spaced (fixed_text 0 n) []) ≡ (word ++ (32 ∷ [])) ++ decimal n =
    ap (spaced word) (nothing_behind (fixed_text 0 n)) ∙ number_behind word 0 n fits
    ∙ ap (λ (told : Bool). (if told then word ++ (32 ∷ []) else word) ++ fixed_text 0 n) ends
    ∙ ap (λ text. (word ++ (32 ∷ [])) ++ text) (whole_text n fits) in
    omega (arith, ap length all, length-append (word ++ (32 ∷ [])) (decimal n), length-append word (32 ∷ []))

pub rows_text : (n : ℕ) → n < 2 ^ 64 → length (line_text (form.Rows n)) ≡ 5 + length (decimal n)
rows_text n fits = with_count (codes "rows") n refl fits

pub zero_text : (n : ℕ) → n < 2 ^ 64 → length (line_text (form.Zero n)) ≡ 5 + length (decimal n)
zero_text n fits = with_count (codes "zero") n refl fits

-- ---- Lines

abbrev size : List LineForm → ℕ
size lines = length (lines_text lines)

size_of_two : (one other : List LineForm) → size (one ++ other) ≡ size one + size other
size_of_two one other =
    ap length (flat_map-append (λ some. line_text some ++ (10 ∷ [])) one other) ∙ length-append (lines_text one) (lines_text other)

size_of_one : (line : LineForm) → size (line ∷ []) ≡ length (line_text line) + 1
size_of_one line = omega (arith, length-append (line_text line ++ (10 ∷ [])) [], length-append (line_text line) (10 ∷ []))

-- ---- Lines that are added

pub zeros_length : (given : Option ℕ) → given ≡ None → length (lines_text (unless_given form.Zero given (default_zeros 1))) ≡ 9
unfolding digits
zeros_length None is = refl
zeros_length (Some count) is = absurd (cc)

pub rows_length : (given : Option ℕ) (count : ℕ) → given ≡ None → count < 2 ^ 64
    → length (lines_text (unless_given form.Rows given count)) ≡ 6 + length (decimal count)
rows_length None count is fits = omega (arith, size_of_one (form.Rows count), rows_text count fits)
rows_length (Some other) count is fits = absurd (cc)

-- They are short.
pub zeros_few : (given : Option ℕ) → length (lines_text (unless_given form.Zero given (default_zeros 1))) ≤ 9
zeros_few None = omega (arith, zeros_length None refl)
zeros_few (Some count) = omega arith

pub rows_few : (given : Option ℕ) (count : ℕ) → count ≤ 100000 → length (lines_text (unless_given form.Rows given count)) ≤ 12
rows_few None count low =
    omega (arith, rows_length None count refl (omega arith), length-decimal-le 6 count (omega arith) (omega arith) (omega arith))
rows_few (Some other) count low = omega arith

zeros_grow : (given : Option ℕ) (default : ℕ)
    → size (zero_lines (Some (unwrap_or given default))) ≡ size (zero_lines given) + size (unless_given form.Zero given default)
zeros_grow None default = omega arith
zeros_grow (Some count) default = omega arith

rows_grow : (given : Option ℕ) (default : ℕ)
    → size (row_lines (Some (unwrap_or given default))) ≡ size (row_lines given) + size (unless_given form.Rows given default)
rows_grow None default = omega arith
rows_grow (Some count) default = omega arith

-- ---- The whole text

same_header : size (form.Header 1 ∷ []) ≡ size (form.Header 2 ∷ [])
unfolding digits
same_header = refl

length_is : (system : System)
    → length (canonical_text system)
    ≡ size (form.Header system.version ∷ []) + (size (front_lines system)
    + (size (zero_lines system.zero) + (size (row_lines system.rows) + size (sample_lines system))))
length_is system =
    ap size (lines_are system)
    ∙ size_of_two (form.Header system.version ∷ []) (front_lines system ++ (zero_lines system.zero ++ (row_lines system.rows ++ sample_lines system)))
    ∙ ap (λ n. size (form.Header system.version ∷ []) + n)
    (size_of_two (front_lines system) (zero_lines system.zero ++ (row_lines system.rows ++ sample_lines system)))
    ∙ ap (λ n. size (form.Header system.version ∷ []) + (size (front_lines system) + n))
    (size_of_two (zero_lines system.zero) (row_lines system.rows ++ sample_lines system))
    ∙ ap (λ n. size (form.Header system.version ∷ []) + (size (front_lines system) + (size (zero_lines system.zero) + n)))
    (size_of_two (row_lines system.rows) (sample_lines system))

-- The text of an upgrade also has the added lines.
pub grown : (system : System) → system.version ≡ 1
    → length (canonical_text (in_version_2 system))
    ≡ length (canonical_text system) + length (lines_text (zeros_added system)) + length (lines_text (rows_added system))
grown system first =
    let zeros = unwrap_or system.zero (default_zeros 1) in
    let default = default_rows 1 (length system.instances) in
    let rows = unwrap_or system.rows default in
    let made : length (canonical_text (in_version_2 system))
    ≡ size (form.Header 2 ∷ []) + (size (front_lines system)
    + (size (zero_lines (Some zeros)) + (size (row_lines (Some rows)) + size (sample_lines system)))) =
    length_is (in_version_2 system) in
    let header : size (form.Header system.version ∷ []) ≡ size (form.Header 2 ∷ []) =
    ap (λ version. size (form.Header version ∷ [])) first ∙ same_header in
    omega (arith, made, length_is system, header, zeros_grow system.zero (default_zeros 1), rows_grow system.rows default)
