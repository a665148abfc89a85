-- A system is printable exactly where its lines, its blocks and its text pass their tests.
use Rattle.std.proofs.Common.{◌≡◌, ◌≤◌, ◌+◌, ◌↔◌, ℕ, suc, Bool, true, false, List, []}
use Rattle.std.proofs.Common.{◌∷◌, ◌++◌, length, IsTrue, refl, sym, ap, subst, ◌∙◌, arith, append_assoc}
use Rattle.std.specs.Prelude.{not, nat_le, nat_lt, ◌&&◌, ◌||◌, ◌==◌}
use Rattle.std.specs.List.{AllByRecursion, list_all, list_any, flat_map}
use Rattle.std.proofs.lemmas.Bool.{and_parts, and_from, or_parts}
use Rattle.std.proofs.lemmas.Bool.Decides.{nat_tests}
use Rattle.std.proofs.lemmas.List.Folds.{list_all-append}
use Rattle.list_laws.proofs.Lists.{each_so}
use Rattle.list_laws.proofs.Truths.{le_told, le_asked, or_nothing}
use Rattle.unit_tree.specs.Canonical.{canonical_forms, canonical_text, line_text, form_tokens}
use Rattle.unit_tree.specs.LineForms.{tail_of, is_of_version_2, tail_speaks_of_events}
use Rattle.unit_tree.specs.Names.{expression_on}
use Rattle.unit_tree.specs.Printable.{IsPrintable, IsInRange, is_writable, is_event_port, names_on, names_said, names_on_expression, step_depth}
use Rattle.unit_tree.specs.Tokens.{IsWord, IsName}
use Rattle.unit_tree.specs.declared.line_form.LineForm.{LineForm}
use Rattle.unit_tree.specs.declared.line_form.LineForm.TheVariants as form
use Rattle.unit_tree.specs.declared.system.System.{System}
use Rattle.text_laws.proofs.SpelledBytes.{is_spelled_byte, spelled_bytes, spelled_no_end}
use Rattle.text_laws.proofs.TokenTexts.{line_is_spelled}
use Rattle.text_laws.proofs.ReadIsPrintable.{no_event_port}
use Rattle.unit_print.specs.Fitting.{is_name, counts_fit, tail_fits, begins_in_version_2, line_fits, are_short}
use Rattle.unit_print.proofs.LineTests.{tail_told, tail_asked, names_told, names_asked, counts_told, counts_asked}

-- ---- One line

-- What is known of a line that is allowed in a text of the version.
pub record Fits (version : ℕ) (some : LineForm) : Type 0 where
  pub names : AllByRecursion IsName (names_on some)
  pub in_range : IsInRange some
  pub writable : is_writable (tail_of some) ≡ true
  pub of_version : (not (is_of_version_2 some) || (version == 2)) ≡ true

-- A line is of version 2 by its first tokens or by its expression.
by_parts : (some : LineForm) → is_of_version_2 some ≡ (begins_in_version_2 some || tail_speaks_of_events (tail_of some))
by_parts (form.Header version) = or_nothing (version == 2)
by_parts _ = refl

both_of_version : (begins speaks second : Bool) → (not begins || second) ≡ true → (not speaks || second) ≡ true → (not (begins || speaks) || second) ≡ true
both_of_version true speaks second first other = first
both_of_version false speaks second first other = other

first_of_version : (begins speaks second : Bool) → (not (begins || speaks) || second) ≡ true → (not begins || second) ≡ true
first_of_version true speaks second both = both
first_of_version false speaks second both = refl

other_of_version : (begins speaks second : Bool) → (not (begins || speaks) || second) ≡ true → (not speaks || second) ≡ true
other_of_version true true second both = both
other_of_version true false second both = refl
other_of_version false speaks second both = both

fits_told : (version : ℕ) (some : LineForm) → line_fits version some ≡ true → Fits version some
fits_told version some is =
    let said = and_parts (list_all is_name (names_said some)) _ is in
    let counts = and_parts (counts_fit some) _ said.1 in
    let tails = and_parts (tail_fits version (tail_of some)) _ counts.1 in
    let tail = tail_told version (tail_of some) tails.0 in
    record {
      names = names_told (names_on some) (list_all-append is_name (names_said some) (names_on_expression (expression_on some))
          ∙ and_from _ _ said.0 tail.names);
      in_range = (counts_told some counts.0, tail.in_range);
      writable = tail.writable;
      of_version = ap (λ told. not told || (version == 2)) (by_parts some)
          ∙ both_of_version (begins_in_version_2 some) (tail_speaks_of_events (tail_of some)) (version == 2) tails.1 tail.of_version;
    }

fits_asked : (version : ℕ) (some : LineForm) → Fits version some → line_fits version some ≡ true
fits_asked version some fits =
    let names = and_parts _ _ (sym (list_all-append is_name (names_said some) (names_on_expression (expression_on some))) ∙ names_asked
    (names_on some) fits.names) in
    let second = ap (λ told. not told || (version == 2)) (sym (by_parts some)) ∙ fits.of_version in
    let tail = tail_asked version (tail_of some) (record {
      names = names.1;
      in_range = fits.in_range.1;
      writable = fits.writable;
      of_version = other_of_version (begins_in_version_2 some) (tail_speaks_of_events (tail_of some)) (version == 2) second;
    }) in
    and_from _ _ names.0 (and_from _ _ (counts_asked some fits.in_range.0) (and_from _ _ tail (first_of_version (begins_in_version_2 some)
    (tail_speaks_of_events (tail_of some)) (version == 2) second)))

-- ---- All lines

all_told : (version : ℕ) (lines : List LineForm) → list_all (line_fits version) lines ≡ true → AllByRecursion (Fits version) lines
all_told version [] is = _
all_told version (first ∷ others) is =
    let parts = and_parts (line_fits version first) (list_all (line_fits version) others) is in
    (fits_told version first parts.0, all_told version others parts.1)

all_asked : (version : ℕ) (lines : List LineForm) → AllByRecursion (Fits version) lines → list_all (line_fits version) lines ≡ true
all_asked version [] all = refl
all_asked version (first ∷ others) all = and_from _ _ (fits_asked version first all.0) (all_asked version others all.1)

all_writable : (version : ℕ) (lines : List LineForm) → AllByRecursion (Fits version) lines → list_all (λ some. is_writable (tail_of some)) lines ≡ true
all_writable version [] all = refl
all_writable version (first ∷ others) all = and_from _ _ all.0.writable (all_writable version others all.1)

-- In a text of version 1 no line is of version 2, or declares an event port.
not_second : (told : Bool) → (not told || false) ≡ true → told ≡ false
not_second false is = refl
not_second true is = absurd (cc)

none_second : (lines : List LineForm) → AllByRecursion (Fits 1) lines → list_any is_of_version_2 lines ≡ false
none_second [] all = refl
none_second (first ∷ others) all = rw (not_second (is_of_version_2 first) all.0.of_version) (none_second others all.1)

no_events : (lines : List LineForm) → list_any is_of_version_2 lines ≡ false → list_any is_event_port lines ≡ false
no_events [] is = refl
no_events (first ∷ others) is =
    let parts = or_parts (is_of_version_2 first) (list_any is_of_version_2 others) is in
    rw (no_event_port first parts.0) (no_events others parts.1)

-- The lines of a printable system fit.
lines_fit : (version : ℕ) (lines : List LineForm) → (1 ≤ version) × (version ≤ 2) → (version ≡ 1 → list_any is_of_version_2 lines ≡ false)
    → AllByRecursion (λ line. AllByRecursion IsName (names_on line)) lines → AllByRecursion IsInRange lines
    → list_all (λ line. is_writable (tail_of line)) lines ≡ true
    → AllByRecursion (Fits version) lines
lines_fit version [] range second names ranged writable = _
lines_fit version (first ∷ others) range second names ranged writable =
    let parts = and_parts _ _ writable in
    let here : version ≡ 1 → is_of_version_2 first ≡ false = λ one. (or_parts (is_of_version_2 first) (list_any is_of_version_2 others) (second one)).0 in
    let later : version ≡ 1 → list_any is_of_version_2 others ≡ false = λ one. (or_parts (is_of_version_2 first) (list_any is_of_version_2 others)
    (second one)).1 in (
      record { names = names.0; in_range = ranged.0; writable = parts.0; of_version = suits version (is_of_version_2 first) (version == 2) refl range here },
      lines_fit version others range later names.1 ranged.1 parts.1,
    )
  where
    suits : (version : ℕ) (told second : Bool) → (version == 2) ≡ second → (1 ≤ version) × (version ≤ 2) → (version ≡ 1 → told ≡ false) →
        (not told || second) ≡ true
    suits version told true is range one = let told_or : (told : Bool) → (not told || true) ≡ true = λ told. elim told as (λ t.
        (not t || true) ≡ true) [ false ↦ refl | true ↦ refl ] in told_or told
    suits version told false is range one =
        let first : version ≡ 1 = grind (arith, nat_tests) in
        rw (one first) refl

-- ---- Lengths

-- One more byte, where the rest of the line is measured from there on.
one_byte : (before : ℕ) (line rest : List ℕ) (room : Bool) → nat_lt before 1000 ≡ room
    → (suc before ≤ 1000 → are_short (suc before) (line ++ (10 ∷ rest)) ≡ (nat_le (suc before + length line) 1000 && are_short 0 rest))
    → (room && are_short (suc before) (line ++ (10 ∷ rest))) ≡ (nat_le (before + suc (length line)) 1000 && are_short 0 rest)
one_byte before line rest true is later =
    let same : suc before + length line ≡ before + suc (length line) = omega arith in
    later (grind (arith, nat_tests)) ∙ ap (λ sum. nat_le sum 1000 && are_short 0 rest) same
one_byte before line rest false is later =
    let long : nat_le (before + suc (length line)) 1000 ≡ false = grind (arith, nat_tests) in
    sym (ap (λ told. told && are_short 0 rest) long)

-- A line without LF is measured up to its end.
short_line : (before : ℕ) (line rest : List ℕ) → before ≤ 1000 → list_all is_spelled_byte line ≡ true
    → are_short before (line ++ (10 ∷ rest)) ≡ (nat_le (before + length line) 1000 && are_short 0 rest)
short_line before [] rest within spelled = sym (ap (λ told. told && are_short 0 rest) (le_asked (before + 0) 1000 (omega arith)))
short_line before (byte ∷ line) rest within spelled =
    let parts = and_parts (is_spelled_byte byte) (list_all is_spelled_byte line) spelled in
    rw (spelled_no_end byte parts.0) (one_byte before line rest (nat_lt before 1000) refl (λ room. short_line (suc before) line rest room parts.1))

-- Lines, each ended by LF.
abbrev ended : List LineForm → List ℕ
ended lines = flat_map (λ some. line_text some ++ (10 ∷ [])) lines

lines_short : (version : ℕ) (lines : List LineForm) → AllByRecursion (Fits version) lines
    → are_short 0 (ended lines) ≡ list_all (λ some. nat_le (length (line_text some)) 1000) lines
lines_short version [] all = refl
lines_short version (first ∷ others) all =
    let spelled = line_is_spelled first all.0.names all.0.in_range all.0.writable in
    let whole : 0 + length (line_text first) ≡ length (line_text first) = omega arith in
    ap (are_short 0) (append_assoc (line_text first) (10 ∷ []) (ended others))
    ∙ short_line 0 (line_text first) (ended others) (omega arith) (spelled_bytes (form_tokens first) (line_text first) spelled)
    ∙ ap (λ sum. nat_le sum 1000 && are_short 0 (ended others)) whole
    ∙ ap (λ told. nat_le (length (line_text first)) 1000 && told) (lines_short version others all.1)

-- ---- The system

-- Whether the lines, the blocks and the text of a system pass their tests.
pub record Passes (system : System) : Type 0 where
  pub lines : list_all (line_fits system.version) (canonical_forms system) ≡ true
  pub blocks : list_all (λ unit. nat_le (step_depth unit.step) 16) system.units ≡ true
  pub text : length (canonical_text system) ≤ 1048576
  pub short : are_short 0 (canonical_text system) ≡ true

pub printable_told : (system : System) → Passes system → IsPrintable system
printable_told system passes =
    let fits = all_told system.version (canonical_forms system) passes.lines in
    let second : system.version ≡ 1 → list_any is_of_version_2 (canonical_forms system) ≡ false =
    λ one. none_second (canonical_forms system) (subst (λ version. AllByRecursion (Fits version) (canonical_forms system)) one fits) in
    let names = each_so (Fits system.version) (λ some. AllByRecursion IsName (names_on some)) (λ some one. one.names) (canonical_forms system) fits in
    record {
      ranged = record {
        version = fits.0.in_range.0;
        events = λ one. no_events (canonical_forms system) (second one);
        names = each_so (λ some. AllByRecursion IsName (names_on some)) (λ some. AllByRecursion IsWord (names_on some))
            (λ some all. each_so IsName IsWord (λ name one. one.0) (names_on some) all) (canonical_forms system) names;
        numbers = each_so (Fits system.version) IsInRange (λ some one. one.in_range) (canonical_forms system) fits;
      };
      of_version = second;
      names = names;
      tails = all_writable system.version (canonical_forms system) fits;
      blocks = passes.blocks;
      lines = sym (lines_short system.version (canonical_forms system) fits) ∙ passes.short;
      text = passes.text;
    }

pub printable_passes : (system : System) → IsPrintable system → Passes system
printable_passes system printable =
    let fits = lines_fit system.version
    (canonical_forms system) printable.ranged.version printable.of_version printable.names printable.ranged.numbers printable.tails in
    record {
      lines = all_asked system.version (canonical_forms system) fits;
      blocks = printable.blocks;
      text = printable.text;
      short = lines_short system.version (canonical_forms system) fits ∙ printable.lines;
    }

-- ---- Results

-- Where a line or a block fails its test the system is not printable.
pub refused : (system : System) (told : Bool)
    → told ≡ (list_all (line_fits system.version) (canonical_forms system) && list_all (λ unit. nat_le (step_depth unit.step) 16) system.units)
    → told ≡ false → IsTrue false ↔ IsPrintable system
refused system told is isnt =
    (λ never. absurd (cc), λ printable. let passes = printable_passes system printable in sym isnt ∙ (is ∙ and_from _ _ passes.lines passes.blocks))

-- Else the text decides.
pub decided : (system : System) (parts told : Bool) (text : List ℕ)
    → parts ≡ (list_all (line_fits system.version) (canonical_forms system) && list_all (λ unit. nat_le (step_depth unit.step) 16) system.units)
    → parts ≡ true → text ≡ canonical_text system → told ≡ (nat_le (length text) 1048576 && are_short 0 text) → IsTrue told ↔ IsPrintable system
decided system parts told text is fit is_text judged =
    let asked : told ≡ (nat_le (length (canonical_text system)) 1048576 && are_short 0 (canonical_text system)) = judged ∙ ap (λ all. nat_le
    (length all) 1048576 && are_short 0 all) is_text in (
      λ holds.
          let forms = and_parts _ _ (sym is ∙ fit) in
          let lengths = and_parts _ _ (sym asked ∙ holds) in
          printable_told system (record {
            lines = forms.0;
            blocks = forms.1;
            text = le_told (length
                (canonical_text system)) 1048576 lengths.0;
            short = lengths.1;
          }),
      λ printable.
          let passes = printable_passes system printable in
          asked ∙ and_from _ _ (le_asked (length (canonical_text system)) 1048576 passes.text) passes.short,
    )
