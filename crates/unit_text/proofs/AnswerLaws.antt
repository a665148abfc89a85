-- Each text has one system, or is refused at one line by one rule.
use Rattle.std.proofs.Common.{◌≡◌, cond, ℕ, suc, ◌<◌, ◌≤◌, Bool, true, false, not, List, [], ◌∷◌, ◌++◌, append_assoc, length, ◌⊎◌, inl, inr, refl, ap, sym}
use Rattle.std.proofs.Common.{subst, ◌∙◌, arith}
use Rattle.std.specs.Prelude.{◌&&◌, nat_le, nat_lt, ◌≢◌}
use Rattle.std.specs.List.{list_all, filter, AllZip}
use Rattle.std.proofs.lemmas.Bool.{and_parts, cases_Bool, cases_lt, true≢false}
use Rattle.std.proofs.lemmas.Bool.Decides.{nat_tests}
use Rattle.std.proofs.lemmas.List.{append-nil}
use Rattle.std.proofs.lemmas.List.Elements.{filter-append}
use Rattle.language_laws.proofs.RefusalLaws.{refused_once}
use Rattle.unit_tree.specs.LineForms.{HasForm}
use Rattle.unit_tree.specs.Blocks.{Block, Before, no_lines, and_line, and_lines, open_blocks, may_stand, are_placed}
use Rattle.unit_tree.specs.Lines.{source_lines, size_of, code_of, is_code_byte, is_blank_line, has_forbidden_byte}
use Rattle.unit_tree.specs.Parts.{Part, text_forms, system_of}
use Rattle.model_rules.specs.Limits.{line_limit, text_limit}
use Rattle.unit_tree.specs.Texts.{Breaks, HaveForms, HasFormIn, LineBreaks, Reads, IsFirstBroken, IsUnended, IsRefused}
use Rattle.unit_tree.specs.Tokens.{is_blank}
use Rattle.unit_tree.specs.declared.line_form.LineForm.{LineForm}
use Rattle.unit_tree.specs.declared.line_form.LineForm.TheVariants as form
use Rattle.unit_tree.specs.declared.system.System.{System}
use Rattle.unit_text.specs.Laws.{IsAnswered, HasOneReading, SaysOneSystem, EveryTextIsAnsweredOnce}
use Rattle.unit_text.specs.Reading.{blank_rule}
use Rattle.text_lines.specs.LineClass.{IsClean}
use Rattle.unit_text.specs.Nesting.{Nested, headed_by, and_form, nested_forms}
use Rattle.unit_text.proofs.NestingLaws.{before_next, same_parts, whole_forms, parts_close}
use Rattle.text_laws.proofs.RefusalSteps.{unbroken, IsUnbroken, AreUnbroken, IsLeast, first_broken, no_break}
use Rattle.unit_text.proofs.TextWalks.{FormsAreKnown, Decided, first_line, version_known, FormIn, form_in, same_forms, AreBlank, NestTo, are_short, blank_more}
use Rattle.unit_text.proofs.TextWalks.{nest_blank, header_begins, line_nests, BreaksLeast, bytes_break, length_breaks, formless_breaks, place_breaks}
use Rattle.unit_text.proofs.TextWalks.{first_place_breaks, headless_breaks, blank_unbroken, is_written, blank_have_none, one_in}
use Rattle.text_laws.proofs.SpelledBytes.{none_forbidden}
use Rattle.unit_tree.specs.Texts.{BeginsVersion2}
use Rattle.text_laws.proofs.ReadIsPrintable.{none_written}
use Rattle.language_laws.proofs.SourceLaws.{version_is}
use Rattle.list_laws.proofs.Lists.{none_cut}

-- ---- Any line

-- What is known of a line by its bytes.
pub data LineClass (line : List ℕ) : Type 0 where
  HasForbidden : has_forbidden_byte line ≡ true → LineClass line
  IsLong : has_forbidden_byte line ≡ false → line_limit < length line → LineClass line
  IsBlank : IsClean line → is_blank_line line ≡ true → LineClass line
  IsWritten : IsClean line → is_blank_line line ≡ false → LineClass line

seen : (line : List ℕ) → LineClass line
seen line = elim (cases_Bool (has_forbidden_byte line)) [
  | inl told ↦ HasForbidden told
  | inr clean ↦ elim (cases_lt line_limit (length line)) [
    | inl long ↦ IsLong clean long
    | inr short ↦ elim (cases_Bool (is_blank_line line)) [
      | inl blank ↦ IsBlank (record { bytes = clean; short = short }) blank
      | inr written ↦ IsWritten (record { bytes = clean; short = short }) written
    ]
  ]
]

-- ---- The first broken line

pub broken_at : (text before : List (List ℕ)) (line : List ℕ) (later : List (List ℕ)) (rule : ℕ) → before ++ (line ∷ later) ≡ text
    → list_all is_blank_line text ≡ false → AreUnbroken text [] before → BreaksLeast text before line rule → IsFirstBroken text (suc (length before)) rule
broken_at text before line later rule cut written kept broken =
    subst (λ all. IsFirstBroken all (suc (length before)) rule) cut
    (first_broken before line later rule
    (subst (λ all. AreUnbroken all [] before) (sym cut) kept)
    (subst (λ all. LineBreaks all rule before line) (sym cut) broken.breaks)
    (subst (λ all. IsLeast all rule before line) (sym cut) broken.is_least)
    (ap (list_all is_blank_line) cut ∙ written))

-- In a text whose lines are not all blank, one of them is broken first, or they nest.
pub data Judged (text : List (List ℕ)) : Type 0 where
  Broken : (number rule : ℕ) → IsFirstBroken text number rule → Judged text
  Nests : (nested : Nested) → NestTo text text nested → Judged text

abbrev Versioned : List (List ℕ) → Type 0
Versioned text = Decided (BeginsVersion2 text)

-- One more line after lines that nest.
pub data OneMore (text before : List (List ℕ)) (line : List ℕ) : Type 0 where
  Stops : (rule : ℕ) → BreaksLeast text before line rule → OneMore text before line
  GoesOn : (next : Nested) → NestTo text (before ++ (line ∷ [])) next → OneMore text before line

one_more : FormsAreKnown → (text : List (List ℕ)) → Versioned text → (before : List (List ℕ)) (nested : Nested) (line : List ℕ) → NestTo text before nested
    → OneMore text before line
one_more known text version before nested line so_far = by_bytes (seen line)
  where
    by_place : IsClean line → (some : LineForm) → HasFormIn text some line
        → (may_stand (before_next nested) some ≡ true) ⊎ (may_stand (before_next nested) some ≡ false) → OneMore text before line
    by_place clean some has (inl may) = GoesOn (and_form nested some) (line_nests known text before line nested some so_far clean has may)
    by_place clean some has (inr off) = Stops 5 (place_breaks text before line nested some so_far clean has off)

    by_form : IsClean line → is_blank_line line ≡ false → FormIn text line → OneMore text before line
    by_form clean here (inr none) = Stops 4 (formless_breaks text before line clean here none)
    by_form clean here (inl found) = by_place clean found.0 found.1 (cases_Bool (may_stand (before_next nested) found.0))

    by_bytes : LineClass line → OneMore text before line
    by_bytes (HasForbidden told) = Stops 1 (bytes_break text before line told)
    by_bytes (IsLong bytes long) = Stops 3 (length_breaks text before line bytes long)
    by_bytes (IsBlank clean blank) = GoesOn nested (nest_blank text before line nested so_far clean blank)
    by_bytes (IsWritten clean here) = by_form clean here (form_in known text version line)

along : FormsAreKnown → (text : List (List ℕ)) → Versioned text → list_all is_blank_line text ≡ false → (later before : List (List ℕ)) (nested : Nested)
    → before ++ later ≡ text → NestTo text before nested → Judged text
along known text version some_written [] before nested cut so_far =
    Nests nested (subst (λ all. NestTo text all nested) (sym (append-nil before) ∙ cut) so_far)
along known text version some_written (line ∷ later) before nested cut so_far = elim (one_more known text version before nested line so_far) [
  | Stops rule broken ↦ Broken (suc (length before)) rule (broken_at text before line later rule cut some_written so_far.kept broken)
  | GoesOn next more ↦ along known text version some_written later (before ++ (line ∷ [])) next (append_assoc before (line ∷ []) later ∙ cut) more
]

-- Whether a form is a header.
pub data Heads (some : LineForm) : Type 0 where
  IsHeader : (version : ℕ) → some ≡ form.Header version → Heads some
  IsOther : ((version : ℕ) → some ≡ form.Header version → ⊥) → Heads some

pub heads : (some : LineForm) → Heads some
heads (form.Header version) = IsHeader version refl
heads (form.Unit name) = IsOther (λ version is. cc)
heads (form.Resolution decimals) = IsOther (λ version is. cc)
heads (form.Param param) = IsOther (λ version is. cc)
heads (form.State state) = IsOther (λ version is. cc)
heads (form.Local local) = IsOther (λ version is. cc)
heads (form.Input input) = IsOther (λ version is. cc)
heads (form.EventInput event) = IsOther (λ version is. cc)
heads (form.Output output) = IsOther (λ version is. cc)
heads (form.EventOutput event) = IsOther (λ version is. cc)
heads (form.Max value) = IsOther (λ version is. cc)
heads form.Step = IsOther (λ version is. cc)
heads form.End = IsOther (λ version is. cc)
heads (form.Assign target value) = IsOther (λ version is. cc)
heads (form.If condition) = IsOther (λ version is. cc)
heads form.Else = IsOther (λ version is. cc)
heads (form.Repeat count) = IsOther (λ version is. cc)
heads (form.Accept value) = IsOther (λ version is. cc)
heads (form.Instance name unit) = IsOther (λ version is. cc)
heads (form.Setting setting) = IsOther (λ version is. cc)
heads (form.Connect wire) = IsOther (λ version is. cc)
heads (form.Stop seconds) = IsOther (λ version is. cc)
heads (form.Longest seconds) = IsOther (λ version is. cc)
heads (form.Zero count) = IsOther (λ version is. cc)
heads (form.Rows count) = IsOther (λ version is. cc)
heads (form.Sample port) = IsOther (λ version is. cc)

-- One more line after lines that are blank.
pub data OneFirst (text before : List (List ℕ)) (line : List ℕ) : Type 0 where
  Stops : (rule : ℕ) → BreaksLeast text before line rule → OneFirst text before line
  StaysBlank : AreBlank text (before ++ (line ∷ [])) → OneFirst text before line
  Begins : (version : ℕ) → NestTo text (before ++ (line ∷ [])) (headed_by version) → OneFirst text before line

one_first : FormsAreKnown → (text : List (List ℕ)) → Versioned text → (before : List (List ℕ)) (line : List ℕ) → AreBlank text before
    → OneFirst text before line
one_first known text version before line so_far = by_bytes (seen line)
  where
    by_head : IsClean line → (some : LineForm) → HasFormIn text some line → Heads some → (may_stand no_lines some ≡ true) ⊎ (may_stand no_lines some ≡ false)
        → OneFirst text before line
    by_head clean some has (IsHeader by is) told =
        Begins by (header_begins known text before line by so_far clean (subst (λ one. HasFormIn text one line) is has))
    by_head clean some has (IsOther other) (inl may) = Stops 7 (headless_breaks known text before line some so_far clean has may other)
    by_head clean some has (IsOther other) (inr off) = Stops 5 (first_place_breaks text before line some so_far clean has off)

    by_form : IsClean line → is_blank_line line ≡ false → FormIn text line → OneFirst text before line
    by_form clean here (inr none) = Stops 4 (formless_breaks text before line clean here none)
    by_form clean here (inl found) = by_head clean found.0 found.1 (heads found.0) (cases_Bool (may_stand no_lines found.0))

    by_bytes : LineClass line → OneFirst text before line
    by_bytes (HasForbidden told) = Stops 1 (bytes_break text before line told)
    by_bytes (IsLong bytes long) = Stops 3 (length_breaks text before line bytes long)
    by_bytes (IsBlank clean blank) = StaysBlank (blank_more text before line so_far clean blank)
    by_bytes (IsWritten clean here) = by_form clean here (form_in known text version line)

from_top : FormsAreKnown → (text : List (List ℕ)) → Versioned text → list_all is_blank_line text ≡ false → (later before : List (List ℕ))
    → before ++ later ≡ text → AreBlank text before → Judged text
from_top known text version some_written [] before cut so_far =
    absurd (true≢false (sym (ap (list_all is_blank_line) (sym cut ∙ append-nil before) ∙ so_far.blank) ∙ some_written))
from_top known text version some_written (line ∷ later) before cut so_far = elim (one_first known text version before line so_far) [
  | Stops rule broken ↦ Broken (suc (length before)) rule (broken_at text before line later rule cut some_written so_far.kept broken)
  | StaysBlank more ↦ from_top known text version some_written later (before ++ (line ∷ [])) (append_assoc before (line ∷ []) later ∙ cut) more
  | Begins by more ↦ along known text version some_written later (before ++ (line ∷ [])) (headed_by by) (append_assoc before (line ∷ []) later ∙ cut) more
]

pub judged : FormsAreKnown → (text : List (List ℕ)) → list_all is_blank_line text ≡ false → Judged text
judged known text some_written =
    from_top known text (version_known known text (first_line text some_written)) some_written text [] refl (record { kept = tt; short = refl; blank = refl })

-- ---- Blank texts

blanks_are_code : (code : List ℕ) → list_all is_blank code ≡ true → list_all is_code_byte code ≡ true
blanks_are_code [] blank = refl
blanks_are_code (byte ∷ code) blank =
    let both = and_parts (is_blank byte) (list_all is_blank code) blank in
    ap (λ here. here && list_all is_code_byte code) (blank_is_code byte both.0) ∙ blanks_are_code code both.1
  where
    blank_is_code : (byte : ℕ) → is_blank byte ≡ true → is_code_byte byte ≡ true
    blank_is_code byte is = grind (arith, nat_tests)

blank_has_bytes : (line : List ℕ) → is_blank_line line ≡ true → has_forbidden_byte line ≡ false
blank_has_bytes line blank = ap not (blanks_are_code (code_of line) blank)

-- A text of blank lines is refused at line 1: for its length if that line is too long, else for its header.
pub blank_is_refused : (text : List (List ℕ)) → list_all is_blank_line text ≡ true → IsFirstBroken text 1 (blank_rule text)
blank_is_refused [] blank = record {
  breaks = inr (refl, refl, refl);
  first = λ other by found. elim found [
    | inl at ↦ absurd (none_cut at.before at.line at.later at.cut)
    | inr told ↦ inr (sym told.1, omega (arith, told.2))
  ];
}
blank_is_refused (line ∷ lines) blank = by_length (nat_lt line_limit (length line)) refl
  where
    text : List (List ℕ)
    text = line ∷ lines

    here : is_blank_line line ≡ true
    here = (and_parts (is_blank_line line) (list_all is_blank_line lines) blank).0

    least_at : (rule : ℕ) → rule ≤ 7 → IsLeast text rule [] line → (other by : ℕ) → Breaks text other by → (1 < other) ⊎ ((1 ≡ other) × (rule ≤ by))
    least_at rule within is_least other by (inr told) = inr (sym told.1, omega (arith, told.2, within))
    least_at rule within is_least other by (inl at) = by_place at.before at.cut at.is_number at.breaks
      where
        by_place : (before : List (List ℕ)) → text ≡ before ++ (at.line ∷ at.later) → other ≡ suc (length before) → LineBreaks text by before at.line
            → (1 < other) ⊎ ((1 ≡ other) × (rule ≤ by))
        by_place [] cut number breaks =
            let same : at.line ≡ line = cc in
            inr (sym number, is_least by (subst (λ l. LineBreaks text by [] l) same breaks))
        by_place (first ∷ before) cut number breaks = inl (omega (arith, number))

    by_length : (long : Bool) → nat_lt line_limit (length line) ≡ long → IsFirstBroken text 1 (cond long 3 7)
    by_length true is =
        let long : line_limit < length line = grind (arith, nat_tests, is) in
        let broken = length_breaks text [] line (blank_has_bytes line here) long in
        record {
          breaks = inl (record { before = []; line = line; later = lines; cut = refl; is_number = refl; breaks = broken.breaks });
          first = least_at 3 (omega arith) broken.is_least;
        }
    by_length false is =
        let short : length line ≤ line_limit = grind (arith, nat_tests, is) in
        record {
          breaks = inr (blank, refl, refl);
          first = least_at 7 (omega arith)
              (λ by breaks. absurd (blank_unbroken text [] line (record { bytes = blank_has_bytes line here; short = short }) here by breaks));
        }

-- ---- The end of a text

-- Lines that nest and leave no block open have the system of their parts.
unfoldable pub ends_whole : (text : List ℕ) (nested : Nested) → size_of text ≤ text_limit → NestTo (source_lines text) (source_lines text) nested
    → nested_forms nested ≡ text_forms nested.version nested.parts → Reads text (system_of nested.version nested.parts)
ends_whole text nested fits so_far whole = record {
  parts = nested.parts;
  says = ap (λ version. system_of version nested.parts) (version_is nested.version nested.parts);
  lines = subst (λ forms. HaveForms (source_lines text) forms (source_lines text)) forms so_far.forms;
  placed = ap (are_placed no_lines) (sym forms) ∙ so_far.placed;
  short = fits;
  lines_short = so_far.short;
}
  where
    forms : nested_forms nested ≡ text_forms (system_of nested.version nested.parts).version nested.parts
    forms = whole ∙ ap (λ version. text_forms version nested.parts) (sym (version_is nested.version nested.parts))

pub ends_open : (lines : List (List ℕ)) (nested : Nested) → list_all is_blank_line lines ≡ false → NestTo lines lines nested
    → open_blocks (nested_forms nested) ≢ [] → IsUnended lines (length lines) 6
ends_open lines nested some_written so_far is_open = record {
  forms = nested_forms nested;
  have_forms = so_far.forms;
  is_open = is_open;
  unbroken = no_break lines so_far.kept some_written;
  is_rule = refl;
  is_last = refl;
}

-- ---- A text that has a system breaks no rule

-- Related lists, split where the second one is.
record ZipCut {A B : Type 0} (R : A → B → Type 0) (xs : List A) (ys zs : List B) : Type 0 where
  front : List A
  back : List A
  cut : xs ≡ front ++ back
  on_front : AllZip R front ys
  on_back : AllZip R back zs

zip_cut : {A B : Type 0} (R : A → B → Type 0) (xs : List A) (ys zs : List B) → AllZip R xs (ys ++ zs) → ZipCut R xs ys zs
zip_cut R xs [] zs all = record { front = []; back = xs; cut = refl; on_front = tt; on_back = all }
zip_cut R [] (y ∷ ys) zs all = absurd all
zip_cut R (x ∷ xs) (y ∷ ys) zs all =
    let rest = zip_cut R xs ys zs all.1 in
    record { front = x ∷ rest.front; back = rest.back; cut = ap (λ more. x ∷ more) rest.cut; on_front = (all.0, rest.on_front); on_back = rest.on_back }

pub placed_at : (front : List LineForm) (some : LineForm) (others : List LineForm) (before : Before) → are_placed before (front ++ (some ∷ others)) ≡ true
    → may_stand (and_lines before front) some ≡ true
placed_at [] some others before placed = (and_parts (may_stand before some) (are_placed (and_line before some) others) placed).0
placed_at (first ∷ front) some others before placed =
    placed_at front some others (and_line before first)
    (and_parts (may_stand before first) (are_placed (and_line before first) (front ++ (some ∷ others))) placed).1

short_at : (before : List (List ℕ)) (line : List ℕ) (later : List (List ℕ)) → are_short (before ++ (line ∷ later)) ≡ true → length line ≤ line_limit
short_at [] line later short =
    let here = (and_parts (nat_le (length line) line_limit) (are_short later) short).0 in
    grind (arith, nat_tests, here)
short_at (first ∷ before) line later short =
    short_at before line later (and_parts (nat_le (length first) line_limit) (are_short (before ++ (line ∷ later))) short).1

-- What is known of the lines of a text that has a system.
record Says (text : List (List ℕ)) (version : ℕ) (all : List Part) : Type 0 where
  forms : HaveForms text (text_forms version all) text
  placed : are_placed no_lines (text_forms version all) ≡ true
  short : are_short text ≡ true

-- A line that is not blank, among those of such a text.
record StandsInText (text before : List (List ℕ)) (line : List ℕ) (version : ℕ) (all : List Part) : Type 0 where
  front : List LineForm
  some : LineForm
  others : List LineForm
  cut : text_forms version all ≡ front ++ (some ∷ others)
  have : HaveForms text front before
  has : HasFormIn text some line

stands_at : (text before : List (List ℕ)) (line : List ℕ) (later : List (List ℕ)) (version : ℕ) (all : List Part) → Says text version all
    → text ≡ before ++ (line ∷ later) → is_blank_line line ≡ false → StandsInText text before line version all
stands_at text before line later version all says cut here =
    let lines = ap (filter is_written) cut ∙ filter-append is_written before (line ∷ later)
    ∙ ap (λ told. filter is_written before ++ cond (not told) (line ∷ filter is_written later) (filter is_written later)) here in
    by_cut (zip_cut (HasFormIn text) (text_forms version all) (filter is_written before) (line ∷ filter is_written later)
    (subst (AllZip (HasFormIn text) (text_forms version all)) lines says.forms))
  where
    by_back : (front back : List LineForm) → text_forms version all ≡ front ++ back → HaveForms text front before
        → AllZip (HasFormIn text) back (line ∷ filter is_written later) → StandsInText text before line version all
    by_back front [] is have on_back = absurd on_back
    by_back front (some ∷ others) is have on_back = record { front = front; some = some; others = others; cut = is; have = have; has = on_back.0 }

    by_cut : ZipCut (HasFormIn text) (text_forms version all) (filter is_written before) (line ∷ filter is_written later)
        → StandsInText text before line version all
    by_cut found = by_back found.front found.back found.cut found.on_front found.on_back

line_keeps : FormsAreKnown → (text before : List (List ℕ)) (line : List ℕ) (later : List (List ℕ)) (version : ℕ) (all : List Part) → Says text version all
    → text ≡ before ++ (line ∷ later) → IsUnbroken text before line
line_keeps known text before line later version all says cut = elim (cases_Bool (is_blank_line line)) [
  | inl blank ↦ blank_unbroken text before line (record { bytes = blank_has_bytes line blank; short = short }) blank
  | inr here ↦ by_form (stands_at text before line later version all says cut here)
]
  where
    short : length line ≤ line_limit
    short = short_at before line later (ap are_short (sym cut) ∙ says.short)

    first_is_header : (front : List LineForm) (some : LineForm) (others : List LineForm) → text_forms version all ≡ front ++ (some ∷ others) → front ≡ []
        → some ≡ form.Header version
    first_is_header front some others is none = let whole = is ∙ ap (λ all_front. all_front ++ (some ∷ others)) none in cc

    by_form : StandsInText text before line version all → IsUnbroken text before line
    by_form at = unbroken text before line (none_forbidden at.has.has_form.tokens line at.has.has_form.spelled) short
        (λ none. none.1 at.some at.has)
        (λ off.
        let forms = same_forms known text before off.forms at.front off.lines at.have in
        let one = one_in known text off.some at.some line off.has_form at.has in
        let may = placed_at at.front at.some at.others no_lines (ap (are_placed no_lines) (sym at.cut) ∙ says.placed) in
        true≢false
        (sym (ap (λ all_forms. may_stand (and_lines no_lines all_forms) off.some) forms ∙ ap (may_stand (and_lines no_lines at.front)) one ∙ may)
        ∙ off.misplaced))
        (λ lacks.
        let none = same_forms known text before at.front [] at.have (blank_have_none text before lacks.before_is_blank) in
        lacks.is_other version (subst (λ some. HasForm some line) (first_is_header at.front at.some at.others at.cut none) at.has.has_form))

nothing_broken : FormsAreKnown → (text : List (List ℕ)) (version : ℕ) (all : List Part) → Says text version all → (number rule : ℕ) → Breaks text number rule
    → ⊥
nothing_broken known text version all says number rule (inl at) = line_keeps known text at.before at.line at.later version all says at.cut rule at.breaks
nothing_broken known text version all says number rule (inr blank) =
    subst (AllZip (HasFormIn text) (text_forms version all)) (none_written text blank.0) says.forms

says_of : (text : List ℕ) (system : System) (reads : Reads text system) → Says (source_lines text) system.version reads.parts
says_of text system reads = record { forms = reads.lines; placed = reads.placed; short = reads.lines_short }

-- ---- Each text has one result

answered_by : FormsAreKnown → (text : List ℕ) → size_of text ≤ text_limit → Judged (source_lines text) → list_all is_blank_line (source_lines text) ≡ false
    → IsAnswered text
answered_by known text fits (Broken number rule broken) some_written = inr (number, rule, inr (fits, inl broken))
answered_by known text fits (Nests nested so_far) some_written = by_blocks (open_blocks (nested_forms nested)) refl
  where
    by_blocks : (open_after : List Block) → open_blocks (nested_forms nested) ≡ open_after → IsAnswered text
    by_blocks [] is = inl (system_of nested.version nested.parts, ends_whole text nested fits so_far (whole_forms nested is))
    by_blocks (block ∷ others) is =
        inr (
          length (source_lines text),
          6,
          inr (fits, inr (ends_open (source_lines text) nested some_written so_far (λ none. let whole = sym is ∙ none in absurd (cc)))),
        )

answered : FormsAreKnown → (text : List ℕ) → IsAnswered text
answered known text = elim (cases_lt text_limit (size_of text)) [
  | inl long ↦ inr (1, 2, inl (long, refl, refl))
  | inr fits ↦ elim (cases_Bool (list_all is_blank_line (source_lines text))) [
    | inl blank ↦ inr (1, blank_rule (source_lines text), inr (fits, inl (blank_is_refused (source_lines text) blank)))
    | inr some_written ↦ answered_by known text fits (judged known (source_lines text) some_written) some_written
  ]
]

one_reading : FormsAreKnown → (text : List ℕ) → HasOneReading text
one_reading known text version by one other have have_too =
    let same =
    same_parts version by one other (same_forms known (source_lines text) (source_lines text) (text_forms version one) (text_forms by other) have have_too) in
    (same.version_is, same.parts_are)

one_system : FormsAreKnown → (text : List ℕ) → SaysOneSystem text
one_system known text one other reads reads_too =
    let same = one_reading known text one.version other.version reads.parts reads_too.parts reads.lines reads_too.lines in
    sym reads.says ∙ ap (λ version. system_of version reads.parts) same.0 ∙ ap (system_of other.version) same.1 ∙ reads_too.says

not_both : FormsAreKnown → (text : List ℕ) (system : System) (line rule : ℕ) → Reads text system → IsRefused text line rule → ⊥
not_both known text system line rule reads (inl refused) = omega (arith, refused.0, reads.short)
not_both known text system line rule reads (inr (fits, inl broken)) =
    nothing_broken known (source_lines text) system.version reads.parts (says_of text system reads) line rule broken.breaks
not_both known text system line rule reads (inr (fits, inr unended)) =
    unended.is_open
    (ap open_blocks
    (same_forms known (source_lines text) (source_lines text) unended.forms (text_forms system.version reads.parts) unended.have_forms reads.lines)
    ∙ parts_close system.version reads.parts)

pub answered_once : FormsAreKnown → EveryTextIsAnsweredOnce
answered_once known text = record {
  answered = answered known text;
  one_reading = one_reading known text;
  one_system = one_system known text;
  not_both = not_both known text;
  one_refusal = refused_once text;
}
