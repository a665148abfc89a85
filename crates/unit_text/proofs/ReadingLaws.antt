-- The code reads the lines as the definitions of texts state.
use Rattle.std.proofs.Common.{◌≡◌, cond, ℕ, suc, ◌+◌, ◌<◌, ◌≤◌, Bool, true, false, List, [], ◌∷◌, ◌++◌, append_assoc, map, length, Option, Some, None}
use Rattle.std.proofs.Common.{Result, Ok, Err, ◌⊎◌, inl, inr, refl, ap, sym, subst, ◌∙◌, arith}
use Rattle.std.specs.Prelude.{◌&&◌, not, IsTrue}
use Rattle.std.specs.Result.{IsErrAnd}
use Rattle.std.specs.List.{AllByRecursion, enumerate_from, filter, list_all}
use Rattle.std.specs.Option.{option_map}
use Rattle.std.proofs.lemmas.Bool.{and_parts, true≢false, eqb-true}
use Rattle.std.proofs.lemmas.List.{append-nil, map-append}
use Rattle.std.proofs.lemmas.List.Elements.{filter-append}
use Rattle.std.proofs.lemmas.Option.{same_Some}
use Rattle.unit_tree.specs.Blocks.{no_lines, may_stand, are_placed}
use Rattle.unit_tree.specs.LineForms.{HasForm, is_of_version_2}
use Rattle.unit_tree.specs.Lines.{lines_of, without_return, source_lines, size_of, is_blank_line}
use Rattle.unit_tree.specs.Parts.{system_of}
use Rattle.unit_tree.specs.SourceLines as source_numbers
use Rattle.unit_tree.specs.SourceLines.{ReadsFrom}
use Rattle.model_rules.specs.Limits.{text_limit}
use Rattle.unit_tree.specs.Texts.{BeginsVersion2, HasFormIn, IsFirstBroken, IsUnended, IsRefused}
use Rattle.unit_tree.specs.declared.line_form.LineForm.{LineForm}
use Rattle.unit_tree.specs.declared.line_form.LineForm.TheVariants as form
use Rattle.unit_tree.specs.declared.system.System.{System}
use Rattle.unit_text.specs.Drafts.{bare_draft, with_form, whole_by, whole_system}
use Rattle.unit_text.specs.Nesting.{Open, AtTop, InUnit, InStep, InInstance, Inner, Nested, headed_by, and_step_form, in_step, and_form_in, and_form}
use Rattle.unit_text.specs.Nesting.{nested_forms, blocks_of}
use Rattle.unit_text.specs.Numbering.{place_in, place_of, group_of, bare_numbers, with_group, with_line, marks_of, with_marks, in_order}
use Rattle.unit_text.specs.Reading.{IsWritten, IsHeadless, FirstGives, FormIn, LineGives, WholeGives, blank_rule, FirstAt, HeadsText, HeadBreaks, HeaderGives}
use Rattle.unit_text.specs.Reading.{AnswersAt, AnswersText}
use Rattle.text_lines.specs.LineClass.{IsClean, TellsOf}
use Rattle.unit_text.specs.declared.draft.Draft.{Draft}
use Rattle.unit_text.specs.declared.fault.TextFault.{TextFault}
use Rattle.unit_text.specs.declared.fault.TextFault.TheVariants as fault
use Rattle.text_lines.specs.declared.lines.LineClass.TheVariants as told
use Rattle.unit_text.specs.declared.numbers.Group.{Group}
use Rattle.unit_text.specs.declared.numbers.Mark.{Mark}
use Rattle.unit_text.specs.declared.numbers.Numbers.{Numbers}
use Rattle.unit_text.specs.declared.reading.ReadText.{ReadText}
use Rattle.unit_text.proofs.AnswerLaws.{broken_at, ends_whole, ends_open, blank_is_refused}
use Rattle.unit_text.proofs.DraftLaws.{draft_of, open_of, draft_goes}
use Rattle.unit_text.proofs.NumberLaws.{numbers_of, numbers_begin, numbers_more, lengths_more, numbers_end, marks_more}
use Rattle.unit_text.proofs.NestingLaws.{is_held, before_next, blocks_are, whole_forms, around_is_some}
use Rattle.text_laws.proofs.RefusalSteps.{AreUnbroken}
use Rattle.unit_text.proofs.TextWalks.{FormsAreKnown, FirstLine, first_is, begins_so, AreBlank, NestTo, BreaksLeast, blank_more, nest_blank, header_begins}
use Rattle.unit_text.proofs.TextWalks.{line_nests, bytes_break, length_breaks, formless_breaks, place_breaks, first_place_breaks, headless_breaks}
use Rattle.language_laws.proofs.SourceLaws.{version_is}
use Rattle.language_laws.proofs.FirstVersion.{old_form}
use Rattle.list_laws.proofs.Lists.{each_more}

-- ---- Splitting lines

-- a line that is split off a text is its first line
pub source_cut : (rest line behind : List ℕ) → lines_of rest ≡ line ∷ lines_of behind → source_lines rest ≡ without_return line ∷ source_lines behind
source_cut rest line behind cut = ap (map without_return) cut

pub blank_cut : (rest line behind : List ℕ) → lines_of rest ≡ line ∷ lines_of behind
    → list_all is_blank_line (source_lines rest) ≡ (is_blank_line (without_return line) && list_all is_blank_line (source_lines behind))
blank_cut rest line behind cut = ap (list_all is_blank_line) (source_cut rest line behind cut)

none_left : (rest : List ℕ) → length rest ≡ 0 → source_lines rest ≡ []
none_left [] is = refl
none_left (byte ∷ rest) is = absurd (omega (arith, is))

-- ---- Before the header

-- The lines of the text up to this number are read, and all are blank.
pub record BlankSoFar (text rest : List ℕ) (number : ℕ) : Type 0 where
  pub before : List (List ℕ)
  pub cut : source_lines text ≡ before ++ source_lines rest
  pub blank : AllByRecursion (λ one. IsClean one × (is_blank_line one ≡ true)) before
  pub number_is : number ≡ length before
  pub within : number + length rest ≤ length text

pub blank_none : (text : List ℕ) → BlankSoFar text text 0
blank_none text = record { before = []; cut = refl; blank = tt; number_is = refl; within = omega arith }

length_more : (before : List (List ℕ)) (line : List ℕ) → length (before ++ (line ∷ [])) ≡ suc (length before)
length_more [] line = refl
length_more (one ∷ before) line = ap suc (length_more before line)

pub first_at : (text rest line behind : List ℕ) (number : ℕ) → BlankSoFar text rest number → lines_of rest ≡ line ∷ lines_of behind
    → length behind < length rest → FirstAt text (without_return line) (number + 1) behind
first_at text rest line behind number so_far cut shorter = record {
  before = so_far.before;
  cut = so_far.cut ∙ ap (λ lines. so_far.before ++ lines) (source_cut rest line behind cut);
  blank = so_far.blank;
  number_is = let is = so_far.number_is in omega (arith, is);
  within = let within = so_far.within in omega (arith, within, shorter);
}

pub blank_next : (text rest line behind : List ℕ) (number : ℕ) → BlankSoFar text rest number → lines_of rest ≡ line ∷ lines_of behind
    → length behind < length rest → IsClean (without_return line) → is_blank_line (without_return line) ≡ true → BlankSoFar text behind (number + 1)
blank_next text rest line behind number so_far cut shorter clean blank = record {
  before = so_far.before ++ (without_return line ∷ []);
  cut = so_far.cut ∙ ap (λ lines. so_far.before ++ lines) (source_cut rest line behind cut)
      ∙ sym (append_assoc so_far.before (without_return line ∷ []) (source_lines behind));
  blank = each_more (λ one. IsClean one × (is_blank_line one ≡ true)) so_far.before (without_return line) so_far.blank (clean, blank);
  number_is = let is = so_far.number_is in let more = length_more so_far.before (without_return line) in omega (arith, is, more);
  within = let within = so_far.within in omega (arith, within, shorter);
}

-- a first written line that gives no version
pub head_answer : (text line rest : List ℕ) (number : ℕ) (why : TextFault) → FirstAt text line number rest → IsWritten line
    → AnswersAt number (FirstGives line) (Err why) → HeaderGives text (Err why)
head_answer text line rest number (fault.Line at rule) first is (at_is, gives) =
    inl (record { line = line; rest = rest; first = subst (λ n. FirstAt text line n rest) (sym at_is) first; breaks = inr (is, gives) })
head_answer text line rest number fault.NoMemory first is gives = tt

all_are_blank : (before : List (List ℕ)) → AllByRecursion (λ one. IsClean one × (is_blank_line one ≡ true)) before → list_all is_blank_line before ≡ true
all_are_blank [] all = refl
all_are_blank (one ∷ before) all = ap (λ told. told && list_all is_blank_line before) all.0.1 ∙ all_are_blank before all.1

pub blank_end : (text rest : List ℕ) (number : ℕ) → BlankSoFar text rest number → length rest ≡ 0 → IsTrue (list_all is_blank_line (source_lines text))
blank_end text rest number so_far none =
    ap (list_all is_blank_line) (so_far.cut ∙ ap (λ lines. so_far.before ++ lines) (none_left rest none) ∙ append-nil so_far.before)
    ∙ all_are_blank so_far.before so_far.blank

-- ---- At the header

are_blank : (text done before : List (List ℕ)) → AreBlank text done → AllByRecursion (λ one. IsClean one × (is_blank_line one ≡ true)) before
    → AreBlank text (done ++ before)
are_blank text done [] so_far all = subst (AreBlank text) (sym (append-nil done)) so_far
are_blank text done (one ∷ before) so_far all =
    subst (AreBlank text) (append_assoc done (one ∷ []) before)
    (are_blank text (done ++ (one ∷ [])) before (blank_more text done one so_far all.0.0 all.0.1) all.1)

blank_before : (text before : List (List ℕ)) → AllByRecursion (λ one. IsClean one × (is_blank_line one ≡ true)) before → AreBlank text before
blank_before text before all = are_blank text [] before (record { kept = tt; short = refl; blank = refl }) all

-- The first line that is not blank, by the definitions.
abbrev first_of : (text line rest : List ℕ) (number : ℕ) (first : FirstAt text line number rest) → IsWritten line → FirstLine (source_lines text)
first_of text line rest number first is = record {
  before = first.before;
  line = line;
  later = source_lines rest;
  cut = first.cut;
  before_is_blank = all_are_blank first.before first.blank;
  is_written = is.written;
}

-- The rule that is found by a line's bytes is the least that the line breaks.
bytes_least : (text before : List (List ℕ)) (line : List ℕ) (rule : ℕ) → TellsOf line (told.Broken rule) → BreaksLeast text before line rule
bytes_least text before line rule (inl (is, byte)) = subst (BreaksLeast text before line) (sym is) (bytes_break text before line byte)
bytes_least text before line rule (inr (is, bytes, long)) = subst (BreaksLeast text before line) (sym is) (length_breaks text before line bytes long)

-- A line that breaks a rule, and the least that it breaks, after lines that break none.
refused_at : (text : List ℕ) (before : List (List ℕ)) (line : List ℕ) (later : List (List ℕ)) (number rule : ℕ) → size_of text ≤ text_limit
    → list_all is_blank_line (source_lines text) ≡ false → source_lines text ≡ before ++ (line ∷ later) → number ≡ suc (length before)
    → AreUnbroken (source_lines text) [] before → BreaksLeast (source_lines text) before line rule → IsRefused text number rule
refused_at text before line later number rule fits some_written cut number_is kept broken =
    inr (
      fits,
      inl (subst (λ at. IsFirstBroken (source_lines text) at rule) (sym number_is)
          (broken_at (source_lines text) before line later rule (sym cut) some_written kept broken)),
    )

headless_least : FormsAreKnown → (text before : List (List ℕ)) (line : List ℕ) (rule : ℕ) (first : FirstLine text) → first.line ≡ line → AreBlank text before
    → IsWritten line → IsHeadless line rule → BreaksLeast text before line rule
headless_least known text before line rule first same blank is head =
    subst (BreaksLeast text before line) (sym head.rule_is) (by_version (is_of_version_2 head.some) refl)
  where
    none_in : is_of_version_2 head.some ≡ true → ((some : LineForm) × HasFormIn text some line) → ⊥
    none_in told (some, has) =
        let one = known.one line head.some some head.has_form has.has_form in
        let begins = has.of_version (ap is_of_version_2 (sym one) ∙ told) in
        head.no_header 2 (known.one line head.some (form.Header 2) head.has_form (subst (HasForm (form.Header 2)) same (first_is text first begins)))

    by_place : is_of_version_2 head.some ≡ false → (may : Bool) → may_stand no_lines head.some ≡ may → BreaksLeast text before line (cond may 7 5)
    by_place plain true may =
        headless_breaks known text before line head.some blank is.clean (old_form text line head.some head.has_form plain) may head.no_header
    by_place plain false may = first_place_breaks text before line head.some blank is.clean (old_form text line head.some head.has_form plain) may

    by_version : (told : Bool) → is_of_version_2 head.some ≡ told → BreaksLeast text before line (cond told 4 (cond (may_stand no_lines head.some) 7 5))
    by_version true told = formless_breaks text before line is.clean is.written (none_in told)
    by_version false plain = by_place plain (may_stand no_lines head.some) refl

first_least : FormsAreKnown → (text before : List (List ℕ)) (line : List ℕ) (rule : ℕ) (first : FirstLine text) → first.line ≡ line → AreBlank text before
    → IsWritten line → FirstGives line (Err rule) → BreaksLeast text before line rule
first_least known text before line rule first same blank is (inl (rule_is, none)) =
    subst (BreaksLeast text before line) (sym rule_is) (formless_breaks text before line is.clean is.written (λ found. none found.0 found.1.has_form))
first_least known text before line rule first same blank is (inr head) = headless_least known text before line rule first same blank is head

pub head_refused : FormsAreKnown → (text : List ℕ) (number rule : ℕ) → size_of text ≤ text_limit → list_all is_blank_line (source_lines text) ≡ false
    → HeadBreaks text number rule → IsRefused text number rule
head_refused known text number rule fits some_written head =
    refused_at text head.first.before head.line (source_lines head.rest) number rule fits some_written head.first.cut head.first.number_is blank.kept
    (by_breaks head.breaks)
  where
    blank : AreBlank (source_lines text) head.first.before
    blank = blank_before (source_lines text) head.first.before head.first.blank

    by_breaks : TellsOf head.line (told.Broken rule) ⊎ (IsWritten head.line × FirstGives head.line (Err rule))
        → BreaksLeast (source_lines text) head.first.before head.line rule
    by_breaks (inl tells) = bytes_least (source_lines text) head.first.before head.line rule tells
    by_breaks (inr (is, gives)) =
        first_least known (source_lines text) head.first.before head.line rule (first_of text head.line head.rest number head.first is) refl blank is gives

-- ---- Numbers of lines

numbers_cut : (before : List (List ℕ)) (line : List ℕ) (from : ℕ)
    → enumerate_from from (before ++ (line ∷ [])) ≡ enumerate_from from before ++ ((from + length before, line) ∷ [])
numbers_cut [] line from = let same : from ≡ from + 0 = omega arith in ap (λ number. (number, line) ∷ []) same
numbers_cut (one ∷ before) line from =
    let same : (from + 1) + length before ≡ from + suc (length before) = omega arith in
    ap (λ rest. (from, one) ∷ rest) (numbers_cut before line (from + 1) ∙ ap (λ number. enumerate_from (from + 1) before ++ ((number, line) ∷ [])) same)

-- A line with a number is not blank, and has its number.
abbrev is_written : ℕ × List ℕ → Bool
is_written numbered = not (is_blank_line numbered.1)

abbrev number_in : ℕ × List ℕ → ℕ
number_in numbered = numbered.0

numbers_more_by : (before : List (List ℕ)) (line : List ℕ)
    → source_numbers.numbers_of (before ++ (line ∷ [])) ≡ source_numbers.numbers_of before ++ map number_in (filter is_written ((1 + length before, line) ∷ []))
numbers_more_by before line =
    ap (λ all. map number_in (filter is_written all)) (numbers_cut before line 1)
    ∙ ap (map number_in) (filter-append is_written (enumerate_from 1 before) ((1 + length before, line) ∷ []))
    ∙ map-append number_in (filter is_written (enumerate_from 1 before)) (filter is_written ((1 + length before, line) ∷ []))

numbers_written : (before : List (List ℕ)) (line : List ℕ) → is_blank_line line ≡ false
    → source_numbers.numbers_of (before ++ (line ∷ [])) ≡ source_numbers.numbers_of before ++ (suc (length before) ∷ [])
numbers_written before line is =
    let same : 1 + length before ≡ suc (length before) = omega arith in
    numbers_more_by before line
    ∙ ap (λ told. source_numbers.numbers_of before ++ map number_in (cond (not told) ((1 + length before, line) ∷ []) [])) is
    ∙ ap (λ number. source_numbers.numbers_of before ++ (number ∷ [])) same

numbers_skip : (before : List (List ℕ)) (line : List ℕ) → is_blank_line line ≡ true
    → source_numbers.numbers_of (before ++ (line ∷ [])) ≡ source_numbers.numbers_of before
numbers_skip before line is =
    numbers_more_by before line
    ∙ ap (λ told. source_numbers.numbers_of before ++ map number_in (cond (not told) ((1 + length before, line) ∷ []) [])) is
    ∙ append-nil (source_numbers.numbers_of before)

none_numbered : (lines : List (List ℕ)) (from : ℕ) → list_all is_blank_line lines ≡ true → map number_in (filter is_written (enumerate_from from lines)) ≡ []
none_numbered [] from blank = refl
none_numbered (line ∷ lines) from blank =
    let both = and_parts (is_blank_line line) (list_all is_blank_line lines) blank in
    ap (λ told. map number_in
    (cond (not told) ((from, line) ∷ filter is_written (enumerate_from (from + 1) lines)) (filter is_written (enumerate_from (from + 1) lines)))) both.0
    ∙ none_numbered lines (from + 1) both.1

numbers_blank : (lines : List (List ℕ)) → list_all is_blank_line lines ≡ true → source_numbers.numbers_of lines ≡ []
numbers_blank lines blank = none_numbered lines 1 blank

-- ---- After the header

-- The lines of the text up to this number are read. The draft and the marks are those of what they
-- nest to.
pub record Reached (text rest : List ℕ) (header number : ℕ) (draft : Draft) (marks : List Mark) : Type 0 where
  pub before : List (List ℕ)
  pub nested : Nested
  pub cut : source_lines text ≡ before ++ source_lines rest
  pub number_is : number ≡ length before
  pub within : number + length rest ≤ length text
  pub nests : NestTo (source_lines text) before nested
  pub draft_is : draft ≡ draft_of nested
  pub numbers_are : with_marks (bare_numbers header) marks ≡ numbers_of nested (source_numbers.numbers_of before)
  pub one_each : length (source_numbers.numbers_of before) ≡ length (nested_forms nested)
  pub begins : BeginsVersion2 (source_lines text) → nested.version ≡ 2
  pub begins_so : nested.version ≡ 2 → BeginsVersion2 (source_lines text)

pub reached_first : FormsAreKnown → (text : List ℕ) (version header : ℕ) (rest : List ℕ) → HeadsText text version header rest
    → Reached text rest header header (bare_draft version) []
reached_first known text version header rest head = record {
  before = head.first.before ++ (head.line ∷ []);
  nested = headed_by version;
  cut = head.first.cut ∙ sym (append_assoc head.first.before (head.line ∷ []) (source_lines rest));
  number_is = let is = head.first.number_is in let more = length_more head.first.before head.line in omega (arith, is, more);
  within = head.first.within;
  nests = header_begins known (source_lines text) head.first.before head.line version
      (blank_before (source_lines text) head.first.before head.first.blank) head.is_written.clean
      (record { has_form = head.is_header; of_version = λ told. begins_by (eqb-true version 2 told) });
  draft_is = refl;
  numbers_are = sym (ap (numbers_of (headed_by version)) numbered ∙ numbers_begin version header);
  one_each = ap length numbered;
  begins = λ begins.
      let same = known.one head.line (form.Header version) (form.Header 2) head.is_header (first_is (source_lines text) first begins) in
      cc;
  begins_so = begins_by;
}
  where
    numbered : source_numbers.numbers_of (head.first.before ++ (head.line ∷ [])) ≡ header ∷ []
    numbered =
        numbers_written head.first.before head.line head.is_written.written
        ∙ ap (λ numbers. numbers ++ (suc (length head.first.before) ∷ [])) (numbers_blank head.first.before (all_are_blank head.first.before head.first.blank))
        ∙ ap (λ one. one ∷ []) (sym head.first.number_is)

    first : FirstLine (source_lines text)
    first = first_of text head.line rest header head.first head.is_written

    begins_by : version ≡ 2 → BeginsVersion2 (source_lines text)
    begins_by is = begins_so (source_lines text) first (subst (λ number. HasForm (form.Header number) head.line) is head.is_header)

keeps_version : (nested : Nested) (some : LineForm) → (and_form nested some).version ≡ nested.version
keeps_version nested some = by_block nested.block some
  where
    by_block : (block : Open) (some : LineForm) → (and_form_in nested block some).version ≡ nested.version
    by_block AtTop (form.Unit name) = refl
    by_block AtTop _ = refl
    by_block (InUnit name inside) form.Step = refl
    by_block (InUnit name inside) _ = refl
    by_block (InStep name inside inner) some = by_inner (and_step_form inner some)
      where
        by_inner : (found : Option Inner) → (in_step nested name inside inner.lines found).version ≡ nested.version
        by_inner (Some next) = refl
        by_inner None = refl
    by_block (InInstance instance) form.End = refl
    by_block (InInstance instance) _ = refl

draft_version : (nested : Nested) → (draft_of nested).system.version ≡ nested.version
draft_version nested = version_is nested.version nested.parts

same_place : (block : Open) → place_in (open_of block) ≡ place_of block
same_place AtTop = refl
same_place (InUnit name inside) = refl
same_place (InStep name inside inner) = refl
same_place (InInstance instance) = refl

-- A line of a form gives a draft exactly where it is allowed.
may_of : (nested : Nested) (some : LineForm) (next : Option Draft) → are_placed no_lines (nested_forms nested) ≡ true
    → with_form (draft_of nested) some ≡ next → next ≡ cond (may_stand (before_next nested) some) (Some (draft_of (and_form nested some))) None
may_of nested some next placed is = sym is ∙ draft_goes nested some placed

-- The result of a draft with a form, by the draft that it becomes.
abbrev with_own : Option Group → Draft → Draft × Option Group
with_own own draft = (draft, own)

with_next : (found : Option Draft) (own : Option Group) (next : Draft) (group : Option Group) → option_map (with_own own) found ≡ Some (next, group)
    → (found ≡ Some next) × (group ≡ own)
with_next (Some draft) own next group is =
    let same : (draft, own) ≡ (next, group) = same_Some (draft, own) (next, group) is in
    (ap (λ (pair : Draft × Option Group). Some (pair.0)) same, sym (ap (λ (pair : Draft × Option Group). pair.1) same))
with_next None own next group is = absurd (cc)

without_next : (found : Option Draft) (own : Option Group) → option_map (with_own own) found ≡ None → found ≡ None
without_next (Some draft) own is = absurd (cc)
without_next None own is = refl

pub reached_next : FormsAreKnown → (text rest line behind : List ℕ) (header number : ℕ) (draft next : Draft) (marks : List Mark) (group : Option Group)
    → Reached text rest header number draft marks → lines_of rest ≡ line ∷ lines_of behind → length behind < length rest
    → LineGives draft (without_return line) (Ok (next, group)) → Reached text behind header (number + 1) next (marks ++ marks_of group (number + 1))
reached_next known text rest line behind header number draft next marks group so_far cut shorter gives = by_gives gives
  where
    source : List ℕ
    source = without_return line

    lines : List (List ℕ)
    lines = source_lines text

    all_marks : List Mark
    all_marks = marks ++ marks_of group (number + 1)

    numbers_before : List ℕ
    numbers_before = source_numbers.numbers_of so_far.before

    reached : (nested : Nested) → NestTo lines (so_far.before ++ (source ∷ [])) nested → next ≡ draft_of nested
        → with_marks (bare_numbers header) all_marks ≡ numbers_of nested (source_numbers.numbers_of (so_far.before ++ (source ∷ [])))
        → length (source_numbers.numbers_of (so_far.before ++ (source ∷ []))) ≡ length (nested_forms nested) → nested.version ≡ so_far.nested.version
        → Reached text behind header (number + 1) next all_marks
    reached nested nests draft_is numbers_are one_each same = record {
      before = so_far.before ++ (source ∷ []);
      nested = nested;
      cut = so_far.cut ∙ ap (λ rest. so_far.before ++ rest) (source_cut rest line behind cut)
          ∙ sym (append_assoc so_far.before (source ∷ []) (source_lines behind));
      number_is = let is = so_far.number_is in let more = length_more so_far.before source in omega (arith, is, more);
      within = let within = so_far.within in omega (arith, within, shorter);
      nests = nests;
      draft_is = draft_is;
      numbers_are = numbers_are;
      one_each = one_each;
      begins = λ begins. same ∙ so_far.begins begins;
      begins_so = λ is. so_far.begins_so (sym same ∙ is);
    }

    this : suc (length so_far.before) ≡ number + 1
    this = let is = so_far.number_is in omega (arith, is)

    place_is : place_in draft.block ≡ place_of so_far.nested.block
    place_is = ap (λ (d : Draft). place_in d.block) so_far.draft_is ∙ same_place so_far.nested.block

    by_may : (some : LineForm) → IsWritten source → HasFormIn lines some source → group ≡ group_of (place_in draft.block) some → (may : Bool)
        → may_stand (before_next so_far.nested) some ≡ may → Some next ≡ cond may (Some (draft_of (and_form so_far.nested some))) None
        → Reached text behind header (number + 1) next all_marks
    by_may some is has group_is true may same =
        let held = is_held so_far.nested some may in
        let numbered = numbers_written so_far.before source is.written in
        reached (and_form so_far.nested some) (line_nests known lines so_far.before source so_far.nested some so_far.nests is.clean has may)
        (same_Some next (draft_of (and_form so_far.nested some)) same)
        (marks_more (bare_numbers header) marks group (number + 1)
        ∙ ap (λ numbers. with_group numbers group (number + 1)) so_far.numbers_are
        ∙ ap (λ own. with_group (numbers_of so_far.nested numbers_before) own (number + 1)) group_is
        ∙ ap (λ at. with_line (numbers_of so_far.nested numbers_before) at some (number + 1)) place_is
        ∙ numbers_more so_far.nested some numbers_before (number + 1) held so_far.one_each
        ∙ ap (λ one. numbers_of (and_form so_far.nested some) (numbers_before ++ (one ∷ []))) (sym this)
        ∙ ap (numbers_of (and_form so_far.nested some)) (sym numbered))
        (ap length numbered ∙ lengths_more so_far.nested some numbers_before (suc (length so_far.before)) held so_far.one_each)
        (keeps_version so_far.nested some)
    by_may some is has group_is false off same = absurd (cc)

    by_gives : LineGives draft source (Ok (next, group)) → Reached text behind header (number + 1) next all_marks
    by_gives (inl (clean, blank, same)) =
        let numbered = numbers_skip so_far.before source blank in
        let none : group ≡ None = ap (λ (pair : Draft × Option Group). pair.1) same in
        reached so_far.nested (nest_blank lines so_far.before source so_far.nested so_far.nests clean blank)
        (ap (λ (pair : Draft × Option Group). pair.0) same ∙ so_far.draft_is)
        (marks_more (bare_numbers header) marks group (number + 1)
        ∙ ap (λ own. with_group (with_marks (bare_numbers header) marks) own (number + 1)) none
        ∙ so_far.numbers_are
        ∙ ap (numbers_of so_far.nested) (sym numbered))
        (ap length numbered ∙ so_far.one_each) refl
    by_gives (inr given) =
        let found = with_next (with_form draft given.some) (group_of (place_in draft.block) given.some) next group given.next_is in
        by_may given.some given.is_written
        (record {
          has_form = given.form_in.0;
          of_version =
              λ told. so_far.begins_so (sym (draft_version so_far.nested) ∙ sym (ap (λ (d : Draft). d.system.version) so_far.draft_is) ∙ given.form_in.1 told);
        })
        found.1 (may_stand (before_next so_far.nested) given.some) refl
        (may_of so_far.nested given.some (Some next) so_far.nests.placed (subst (λ d. with_form d given.some ≡ Some next) so_far.draft_is found.0))

pub line_refused : FormsAreKnown → (text rest line behind : List ℕ) (header number : ℕ) (draft : Draft) (marks : List Mark) (rule : ℕ)
    → size_of text ≤ text_limit → list_all is_blank_line (source_lines text) ≡ false → Reached text rest header number draft marks
    → lines_of rest ≡ line ∷ lines_of behind → LineGives draft (without_return line) (Err rule) → IsRefused text (number + 1) rule
line_refused known text rest line behind header number draft marks rule fits some_written so_far cut gives =
    refused_at text so_far.before source (source_lines behind) (number + 1) rule fits some_written
    (so_far.cut ∙ ap (λ rest. so_far.before ++ rest) (source_cut rest line behind cut))
    (let is = so_far.number_is in omega (arith, is)) so_far.nests.kept (by_gives gives)
  where
    source : List ℕ
    source = without_return line

    lines : List (List ℕ)
    lines = source_lines text

    of_draft : draft.system.version ≡ so_far.nested.version
    of_draft = ap (λ (d : Draft). d.system.version) so_far.draft_is ∙ draft_version so_far.nested

    none_in : FormIn draft.system.version source None → ((some : LineForm) × HasFormIn lines some source) → ⊥
    none_in (inl none) (some, has) = none some has.has_form
    none_in (inr other) (some, has) =
        let one = known.one source other.some some other.has_form has.has_form in
        other.of_other (λ told. of_draft ∙ so_far.begins (has.of_version (ap is_of_version_2 (sym one) ∙ told)))

    by_may : (some : LineForm) → IsWritten source → HasFormIn lines some source → (may : Bool) → may_stand (before_next so_far.nested) some ≡ may
        → None ≡ cond may (Some (draft_of (and_form so_far.nested some))) None → BreaksLeast lines so_far.before source 5
    by_may some is has true may same = absurd (cc)
    by_may some is has false off same = place_breaks lines so_far.before source so_far.nested some so_far.nests is.clean has off

    by_gives : LineGives draft source (Err rule) → BreaksLeast lines so_far.before source rule
    by_gives (inl tells) = bytes_least lines so_far.before source rule tells
    by_gives (inr (inl (rule_is, is, none))) =
        subst (BreaksLeast lines so_far.before source) (sym rule_is) (formless_breaks lines so_far.before source is.clean is.written (none_in none))
    by_gives (inr (inr (rule_is, given))) =
        subst (BreaksLeast lines so_far.before source) (sym rule_is)
        (by_may given.some given.is_written
        (record { has_form = given.form_in.0; of_version = λ told. so_far.begins_so (sym of_draft ∙ given.form_in.1 told) })
        (may_stand (before_next so_far.nested) given.some) refl
        (may_of so_far.nested given.some None so_far.nests.placed
        (subst (λ d. with_form d given.some ≡ None) so_far.draft_is
        (without_next (with_form draft given.some) (group_of (place_in draft.block) given.some) given.next_is))))

-- ---- At the end

all_read : (text rest : List ℕ) (header number : ℕ) (draft : Draft) (marks : List Mark) (so_far : Reached text rest header number draft marks)
    → length rest ≡ 0 → so_far.before ≡ source_lines text
all_read text rest header number draft marks so_far none =
    sym (so_far.cut ∙ ap (λ lines. so_far.before ++ lines) (none_left rest none) ∙ append-nil so_far.before)

whole_parts : (nested : Nested) (system : System) → whole_system (draft_of nested) ≡ Some system
    → (blocks_of nested.block ≡ []) × (system_of nested.version nested.parts ≡ system)
whole_parts nested system is = by_block nested.block is
  where
    by_block : (block : Open) → whole_by (system_of nested.version nested.parts) (open_of block) ≡ Some system
        → (blocks_of block ≡ []) × (system_of nested.version nested.parts ≡ system)
    by_block AtTop is = (refl, same_Some (system_of nested.version nested.parts) system is)
    by_block (InUnit name inside) is = absurd (cc)
    by_block (InStep name inside inner) is = absurd (cc)
    by_block (InInstance instance) is = absurd (cc)

open_parts : (nested : Nested) → whole_system (draft_of nested) ≡ None → blocks_of nested.block ≡ [] → ⊥
open_parts nested is none = by_block nested.block is none
  where
    by_block : (block : Open) → whole_by (system_of nested.version nested.parts) (open_of block) ≡ None → blocks_of block ≡ [] → ⊥
    by_block AtTop is none = cc
    by_block (InUnit name inside) is none = cc
    by_block (InStep name inside inner) is none = around_is_some inner.around none
    by_block (InInstance instance) is none = cc

-- The system of a text whose lines nest to complete parts, and the lines that its canonical lines
-- came from.
reads_from : (text : List ℕ) (nested : Nested) (numbers : Numbers) → size_of text ≤ text_limit → NestTo (source_lines text) (source_lines text) nested
    → blocks_of nested.block ≡ [] → numbers ≡ numbers_of nested (source_numbers.numbers_of (source_lines text))
    → ReadsFrom text (system_of nested.version nested.parts) (in_order numbers)
unfolding ends_whole
reads_from text nested numbers fits nests closed is =
    let reads = ends_whole text nested fits nests (whole_forms nested (blocks_are nested ∙ closed)) in
    record { reads = reads; are_lines = ap in_order is ∙ numbers_end nested (source_numbers.numbers_of (source_lines text)) (top_is nested.block closed) }
  where
    top_is : (block : Open) → blocks_of block ≡ [] → block ≡ AtTop
    top_is AtTop none = refl
    top_is (InUnit name inside) none = absurd (cc)
    top_is (InStep name inside inner) none = absurd (around_is_some inner.around none)
    top_is (InInstance instance) none = absurd (cc)

end_refused : (text rest : List ℕ) (header number : ℕ) (draft : Draft) (marks : List Mark) → size_of text ≤ text_limit
    → list_all is_blank_line (source_lines text) ≡ false → Reached text rest header number draft marks → length rest ≡ 0 → whole_system draft ≡ None
    → IsRefused text number 6
end_refused text rest header number draft marks fits some_written so_far none is =
    let lines = all_read text rest header number draft marks so_far none in
    inr (
      fits,
      inr (subst (λ at. IsUnended (source_lines text) at 6) (sym (so_far.number_is ∙ ap length lines))
          (ends_open (source_lines text) so_far.nested some_written (subst (λ before. NestTo (source_lines text) before so_far.nested) lines so_far.nests)
          (λ closed. open_parts so_far.nested (subst (λ d. whole_system d ≡ None) so_far.draft_is is) (sym (blocks_are so_far.nested) ∙ closed)))),
    )

pub whole_answer : (text rest : List ℕ) (header number : ℕ) (draft : Draft) (marks : List Mark) (result : Result ReadText TextFault)
    → size_of text ≤ text_limit → list_all is_blank_line (source_lines text) ≡ false → Reached text rest header number draft marks → length rest ≡ 0
    → WholeGives draft header marks number result → AnswersText text result
whole_answer text rest header number draft marks (Ok given) fits some_written so_far none gives =
    let whole = whole_parts so_far.nested given.system (subst (λ d. whole_system d ≡ Some given.system) so_far.draft_is gives.0) in
    let lines = all_read text rest header number draft marks so_far none in
    subst (λ system. ReadsFrom text system given.lines) whole.1
    (subst (ReadsFrom text (system_of so_far.nested.version so_far.nested.parts)) (sym gives.1)
    (reads_from text so_far.nested (with_marks (bare_numbers header) marks) fits
    (subst (λ before. NestTo (source_lines text) before so_far.nested) lines so_far.nests) whole.0
    (so_far.numbers_are ∙ ap (λ before. numbers_of so_far.nested (source_numbers.numbers_of before)) lines)))
whole_answer text rest header number draft marks (Err (fault.Line line rule)) fits some_written so_far none (is, line_is, rule_is) =
    subst (λ at. IsRefused text at rule) (sym line_is)
    (subst (IsRefused text number) (sym rule_is) (end_refused text rest header number draft marks fits some_written so_far none is))
whole_answer text rest header number draft marks (Err fault.NoMemory) fits some_written so_far none gives = tt

-- ---- Texts that have only blank lines

pub blank_refused : (text : List ℕ) → size_of text ≤ text_limit → IsTrue (list_all is_blank_line (source_lines text))
    → IsRefused text 1 (blank_rule (source_lines text))
blank_refused text fits blank = inr (fits, inl (blank_is_refused (source_lines text) blank))

pub long_refused : (text : List ℕ) → text_limit < size_of text → IsRefused text 1 2
long_refused text long = inl (long, refl, refl)

-- ---- Errors that are passed on

pub header_error : FormsAreKnown → (text : List ℕ) (why : TextFault) (result : Result ReadText TextFault) → size_of text ≤ text_limit
    → list_all is_blank_line (source_lines text) ≡ false → HeaderGives text (Err why) → IsErrAnd result (λ found. found ≡ why) → AnswersText text result
header_error known text why (Ok read) fits some_written gives is = absurd is
header_error known text (fault.Line line rule) (Err found) fits some_written gives is = subst (λ one. AnswersText text (Err one)) (sym is) (by_gives gives)
  where
    by_gives : HeadBreaks text line rule ⊎ IsTrue (list_all is_blank_line (source_lines text)) → IsRefused text line rule
    by_gives (inl head) = head_refused known text line rule fits some_written head
    by_gives (inr blank) = absurd (true≢false (sym blank ∙ some_written))
header_error known text fault.NoMemory (Err found) fits some_written gives is = subst (λ one. AnswersText text (Err one)) (sym is) tt

pub line_error : FormsAreKnown
    → (text rest line behind : List ℕ) (header number : ℕ) (draft : Draft) (marks : List Mark) (why : TextFault) (result : Result ReadText TextFault)
    → size_of text ≤ text_limit → list_all is_blank_line (source_lines text) ≡ false → Reached text rest header number draft marks
    → lines_of rest ≡ line ∷ lines_of behind → AnswersAt (number + 1) (LineGives draft (without_return line)) (Err why)
    → IsErrAnd result (λ found. found ≡ why) → AnswersText text result
line_error known text rest line behind header number draft marks why (Ok read) fits some_written so_far cut gives is = absurd is
line_error known text rest line behind header number draft marks (fault.Line at rule) (Err found) fits some_written so_far cut gives is =
    subst (λ one. AnswersText text (Err one)) (sym is)
    (subst (λ n. IsRefused text n rule) (sym gives.0)
    (line_refused known text rest line behind header number draft marks rule fits some_written so_far cut gives.1))
line_error known text rest line behind header number draft marks fault.NoMemory (Err found) fits some_written so_far cut gives is =
    subst (λ one. AnswersText text (Err one)) (sym is) tt
