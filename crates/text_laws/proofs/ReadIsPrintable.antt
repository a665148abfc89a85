-- The system of a text has a canonical text, and is in range.
use Rattle.std.proofs.Common.{◌≡◌, ℕ, ◌+◌, ◌≤◌, Bool, true, false, cond, not, nat_le, ◌==◌, List, [], ◌∷◌, ◌++◌, map, length, length-append, IsTrue, refl, ap}
use Rattle.std.proofs.Common.{sym, subst, ◌∙◌, arith}
use Rattle.std.specs.Prelude.{◌||◌}
use Rattle.std.specs.List.{AllByRecursion, AllZip, filter, flat_map, list_all, list_any, sum_by}
use Rattle.std.proofs.lemmas.Bool.{and_parts, and_from, false_from_ne_true}
use Rattle.std.proofs.lemmas.Bool.Decides.{nat_tests}
use Rattle.std.proofs.lemmas.List.Concat.{length-flat_map}
use Rattle.std.proofs.lemmas.List.Elements.{filter-append}
use Rattle.std.proofs.lemmas.List.Sorted.{sum_by-IsPermutation}
use Rattle.std.proofs.lemmas.List.Sums.{sum_by-cons}
use Rattle.unit_tree.specs.Blocks.{no_lines, are_placed}
use Rattle.unit_tree.specs.Canonical.{canonical_forms, canonical_text, line_text}
use Rattle.unit_tree.specs.LineForms.{HasForm, is_of_version_2, tail_of}
use Rattle.unit_tree.specs.Lines.{lines_of, source_lines, size_of, without_return, code_of, is_blank_line}
use Rattle.unit_tree.specs.Parts.{Part, part_forms, text_forms, system_of}
use Rattle.unit_tree.specs.Printable.{IsInRange, is_event_port, is_writable, names_on, step_depth}
use Rattle.model_rules.specs.Limits.{line_limit}
use Rattle.unit_tree.specs.Texts.{BeginsVersion2, HasFormIn, HaveForms}
use Rattle.unit_tree.specs.Tokens.{IsWord, IsName}
use Rattle.unit_tree.specs.declared.line_form.LineForm.{LineForm}
use Rattle.unit_tree.specs.declared.line_form.LineForm.TheVariants as form
use Rattle.text_tokens.proofs.TokenLemmas.{spells_one}
use Rattle.text_laws.specs.Laws.{WhatIsReadIsPrintable}
use Rattle.text_laws.proofs.TokensApart.{starts_with}
use Rattle.text_laws.proofs.CanonicalBytes.{not_blank}
use Rattle.text_laws.proofs.FormsInOrder.{forms_in_order, each_in_order}
use Rattle.text_laws.proofs.PlacedParts.{parts_keep_depth}
use Rattle.text_laws.proofs.ShortestLines.{shortest}
use Rattle.text_laws.proofs.WrittenForms.{IsPrintableForm, form_is_printable}
use Rattle.list_laws.proofs.Lists.{each_so}

-- The line is not blank.
abbrev is_written : List ℕ → Bool
is_written line = not (is_blank_line line)

-- ---- Lists and tests

-- All pass a test where each does.
all_tell : {A : Type 0} (test : A → Bool) (xs : List A) → AllByRecursion (λ x. test x ≡ true) xs → list_all test xs ≡ true
all_tell test [] all = refl
all_tell test (x ∷ xs) all = and_from (test x) (list_all test xs) all.0 (all_tell test xs all.1)

-- None passes a test where each fails it.
none_tells : {A : Type 0} (test : A → Bool) (xs : List A) → AllByRecursion (λ x. test x ≡ false) xs → list_any test xs ≡ false
none_tells test [] all = refl
none_tells test (x ∷ xs) all = ap (λ told. told || list_any test xs) all.0 ∙ none_tells test xs all.1

-- By whether the first line is kept.
kept_by : (told : Bool) (test : List ℕ → Bool) (line : List ℕ) (kept : List (List ℕ)) → test line ≡ true → list_all test kept ≡ true
    → list_all test (cond told (line ∷ kept) kept) ≡ true
kept_by true test line kept here rest = and_from (test line) (list_all test kept) here rest
kept_by false test line kept here rest = rest

-- Lines that are kept pass a test that all lines pass.
all_kept : (test keep : List ℕ → Bool) (lines : List (List ℕ)) → list_all test lines ≡ true → list_all test (filter keep lines) ≡ true
all_kept test keep [] all = refl
all_kept test keep (line ∷ lines) all =
    let both = and_parts (test line) (list_all test lines) all in
    kept_by (keep line) test line (filter keep lines) both.0 (all_kept test keep lines both.1)

-- ---- The header

-- A line is not a header of two different versions.
headers_are_same : (line : List ℕ) (version by : ℕ) → HasForm (form.Header version) line → HasForm (form.Header by) line → version ≡ by
headers_are_same line version by one other =
    let same = sym one.written.spelled ∙ spells_one one.tokens other.tokens (code_of line) one.spelled other.spelled ∙ other.written.spelled in
    cc

-- A header is not blank.
header_is_written : (line : List ℕ) (version : ℕ) → HasForm (form.Header version) line → is_written line ≡ true
header_is_written line version has =
    ap not (not_blank has.tokens (code_of line) (is_blank_line line) refl (ap (starts_with (λ first. true)) has.written.spelled) has.spelled)

-- Of blank lines none is kept.
pub none_written : (lines : List (List ℕ)) → list_all is_blank_line lines ≡ true → filter is_written lines ≡ []
none_written [] blank = refl
none_written (line ∷ lines) blank =
    let both = and_parts (is_blank_line line) (list_all is_blank_line lines) blank in
    ap (λ here. cond (not here) (line ∷ filter is_written lines) (filter is_written lines)) both.0 ∙ none_written lines both.1

-- The first written line of a text that begins version 2.
first_written : (text : List (List ℕ)) (begins : BeginsVersion2 text) → filter is_written text ≡ begins.line ∷ filter is_written begins.later
first_written text begins =
    ap (filter is_written) begins.cut
    ∙ filter-append is_written begins.before (begins.line ∷ begins.later)
    ∙ ap (λ front. front ++ filter is_written (begins.line ∷ begins.later)) (none_written begins.before begins.before_is_blank)
    ∙ ap (λ here. cond here (begins.line ∷ filter is_written begins.later) (filter is_written begins.later)) (header_is_written begins.line 2 begins.is_header)

-- A text with a header of one version begins no other.
begins_its_version : (text : List (List ℕ)) (version : ℕ) (rest : List LineForm)
    → AllZip (HasFormIn text) (form.Header version ∷ rest) (filter is_written text) → BeginsVersion2 text → version ≡ 2
begins_its_version text version rest have begins =
    let first = subst (AllZip (HasFormIn text) (form.Header version ∷ rest)) (first_written text begins) have in
    headers_are_same begins.line version 2 first.0.has_form begins.is_header

-- Its version is 1 or 2.
version_in_range : (text written : List (List ℕ)) (version : ℕ) (rest : List LineForm) → AllZip (HasFormIn text) (form.Header version ∷ rest) written
    → (1 ≤ version) × (version ≤ 2)
version_in_range text [] version rest have = absurd have
version_in_range text (line ∷ written) version rest have = have.0.has_form.written.counts

-- ---- Each line

-- What is known of a form of a text of that version.
record IsGood (version : ℕ) (some : LineForm) : Type 0 where
  printable : IsPrintableForm some
  short : nat_le (length (line_text some)) line_limit ≡ true
  of_version : version ≡ 1 → is_of_version_2 some ≡ false

-- A canonical line is short enough if the line that it came from is.
short_too : (some : LineForm) (line : List ℕ) → HasForm some line → nat_le (length line) line_limit ≡ true → nat_le (length (line_text some)) line_limit ≡ true
short_too some line has short = within (length (line_text some)) (length line) (shortest some line has) short
  where
    within : (canonical written : ℕ) → canonical ≤ written → nat_le written line_limit ≡ true → nat_le canonical line_limit ≡ true
    within canonical written less short = grind (arith, nat_tests)

-- This is known of each form of a text.
all_are_good : (text : List (List ℕ)) (version : ℕ) → (BeginsVersion2 text → version ≡ 2) → (forms : List LineForm) (written : List (List ℕ))
    → AllZip (HasFormIn text) forms written → list_all (λ line. nat_le (length line) line_limit) written ≡ true → AllByRecursion (IsGood version) forms
all_are_good text version begins [] written have short = _
all_are_good text version begins (some ∷ forms) [] have short = absurd have
all_are_good text version begins (some ∷ forms) (line ∷ written) have short =
    let both = and_parts (nat_le (length line) line_limit) (list_all (λ one. nat_le (length one) line_limit) written) short in (
      record {
        printable = form_is_printable some line have.0.has_form;
        short = short_too some line have.0.has_form both.0;
        of_version = λ is. false_from_ne_true (is_of_version_2 some) (λ told. let two = begins (have.0.of_version told) in absurd (omega (arith, is, two)));
      },
      all_are_good text version begins forms written have.1 both.1,
    )

-- ---- Sizes

-- A canonical line with its end.
abbrev ended : LineForm → List ℕ
ended some = line_text some ++ (10 ∷ [])

-- A line with its end counted.
abbrev size : List ℕ → ℕ
size line = length line + 1

-- Canonical lines take no more bytes than the lines that they came from.
forms_within : (text : List (List ℕ)) (forms : List LineForm) (written : List (List ℕ)) → AllZip (HasFormIn text) forms written
    → sum_by (λ some. length (ended some)) forms ≤ sum_by size written
forms_within text [] [] have = omega arith
forms_within text [] (line ∷ written) have = absurd have
forms_within text (some ∷ forms) [] have = absurd have
forms_within text (some ∷ forms) (line ∷ written) have =
    let rest = forms_within text forms written have.1 in
    let here = shortest some line have.0.has_form in
    omega (arith, rest, here, length-append (line_text some) (10 ∷ []), sum_by-cons (λ one. length (ended one)) some forms, sum_by-cons size line written)

-- By whether the first line is kept.
kept_within_by : (told : Bool) (line : List ℕ) (kept lines : List (List ℕ)) → sum_by size kept ≤ sum_by size lines
    → sum_by size (cond told (line ∷ kept) kept) ≤ sum_by size (line ∷ lines)
kept_within_by true line kept lines less = omega (arith, less, sum_by-cons size line kept, sum_by-cons size line lines)
kept_within_by false line kept lines less = omega (arith, less, sum_by-cons size line lines)

-- The lines that are kept take no more bytes than all lines.
kept_within : (keep : List ℕ → Bool) (lines : List (List ℕ)) → sum_by size (filter keep lines) ≤ sum_by size lines
kept_within keep [] = omega arith
kept_within keep (line ∷ lines) = kept_within_by (keep line) line (filter keep lines) lines (kept_within keep lines)

-- A last byte that may be left out.
last_within : (told : Bool) (byte : ℕ) → length (cond told [] (byte ∷ [])) ≤ 1
last_within true byte = omega arith
last_within false byte = omega arith

-- A line without its CR is no longer.
return_within : (line : List ℕ) → length (without_return line) ≤ length line
return_within [] = omega arith
return_within (byte ∷ []) = last_within (byte == 13) byte
return_within (byte ∷ next ∷ line) = let rest = return_within (next ∷ line) in omega (arith, rest)

-- Lines without their CRs take no more bytes.
returns_within : (lines : List (List ℕ)) → sum_by size (map without_return lines) ≤ sum_by size lines
returns_within [] = omega arith
returns_within (line ∷ lines) =
    let rest = returns_within lines in
    omega (arith, rest, return_within line, sum_by-cons size line lines, sum_by-cons size (without_return line) (map without_return lines))

-- ---- A text

-- The canonical text of a text's system is no longer than this text.
text_within : (text : List ℕ) (version : ℕ) (all : List Part) → HaveForms (source_lines text) (text_forms version all) (source_lines text)
    → IsTrue (are_placed no_lines (text_forms version all)) → length (canonical_text (system_of version all)) ≤ size_of text
text_within text version all have placed =
    let canonical = canonical_forms (system_of version all) in
    let forms = text_forms version all in
    let one = length-flat_map ended canonical in
    let two = sum_by-IsPermutation (λ some. length (ended some)) canonical forms (forms_in_order version all placed) in
    let three = forms_within (source_lines text) forms (filter is_written (source_lines text)) have in
    let four = kept_within is_written (source_lines text) in
    let five = returns_within (lines_of text) in
    omega (arith, one, two, three, four, five)

-- Event ports are of version 2.
pub no_event_port : (some : LineForm) → is_of_version_2 some ≡ false → is_event_port some ≡ false
no_event_port (form.EventInput event) is = absurd (cc)
no_event_port (form.EventOutput event) is = absurd (cc)
no_event_port _ is = refl

-- Each canonical line keeps what the line that it came from keeps, and all together take no more
-- bytes.
pub read_is_printable : WhatIsReadIsPrintable
read_is_printable text system reads =
    let lines = source_lines text in
    let version = system.version in
    let forms = text_forms version reads.parts in
    let good_forms : AllByRecursion (IsGood version) forms =
    all_are_good lines version (begins_its_version lines version (flat_map part_forms reads.parts) reads.lines) forms (filter is_written lines) reads.lines
    (all_kept (λ line. nat_le (length line) line_limit) is_written lines reads.lines_short) in
    let good : AllByRecursion (IsGood version) (canonical_forms system) =
    subst (λ said. AllByRecursion (IsGood version) (canonical_forms said)) reads.says
    (each_in_order (IsGood version) version reads.parts reads.placed good_forms) in
    let within : length (canonical_text system) ≤ size_of text =
    subst (λ said. length (canonical_text said) ≤ size_of text) reads.says (text_within text version reads.parts reads.lines reads.placed) in
    record {
      ranged = record {
        version = version_in_range lines (filter is_written lines) version (flat_map part_forms reads.parts) reads.lines;
        events = λ is.
            none_tells is_event_port (canonical_forms system)
            (each_so (IsGood version) (λ some. is_event_port some ≡ false) (λ some one. no_event_port some (one.of_version is)) (canonical_forms system) good);
        names = each_so (IsGood version) (λ some. AllByRecursion IsWord (names_on some))
            (λ some one. each_so IsName IsWord (λ name is. is.0) (names_on some) one.printable.names) (canonical_forms system) good;
        numbers = each_so (IsGood version) IsInRange (λ some one. one.printable.in_range) (canonical_forms system) good;
      };
      of_version =
          λ is. none_tells is_of_version_2 (canonical_forms system)
          (each_so (IsGood version) (λ some. is_of_version_2 some ≡ false) (λ some one. one.of_version is) (canonical_forms system) good);
      names = each_so (IsGood version) (λ some. AllByRecursion IsName (names_on some)) (λ some one. one.printable.names) (canonical_forms system) good;
      tails = all_tell (λ some. is_writable (tail_of some)) (canonical_forms system)
          (each_so (IsGood version) (λ some. is_writable (tail_of some) ≡ true) (λ some one. one.printable.writable) (canonical_forms system) good);
      blocks = subst (λ said. list_all (λ unit. nat_le (step_depth unit.step) 16) said.units ≡ true) reads.says
          (parts_keep_depth version reads.parts reads.placed);
      lines = all_tell (λ some. nat_le (length (line_text some)) line_limit) (canonical_forms system)
          (each_so (IsGood version) (λ some. nat_le (length (line_text some)) line_limit ≡ true) (λ some one. one.short) (canonical_forms system) good);
      text = let short = reads.short in omega (arith, within, short);
    }
