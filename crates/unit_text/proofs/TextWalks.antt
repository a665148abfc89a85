-- A text line by line: what its lines so far nest to, while none of them breaks a rule, and the first that does.
use Rattle.std.proofs.Common.{◌≡◌, ℕ, ◌<◌, ◌≤◌, Bool, true, false, not, List, [], ◌∷◌, ◌++◌, append_assoc, length, ◌⊎◌, inl, inr, refl, ap, sym, subst, ◌∙◌}
use Rattle.std.proofs.Common.{arith}
use Rattle.std.specs.Prelude.{◌&&◌, nat_le}
use Rattle.std.specs.List.{AllZip, filter, list_all}
use Rattle.std.proofs.lemmas.Bool.{and_parts, cases_Bool, cases_eq, true≢false}
use Rattle.std.proofs.lemmas.Bool.Decides.{nat_tests}
use Rattle.std.proofs.lemmas.List.{append-nil}
use Rattle.std.proofs.lemmas.List.Elements.{filter-append}
use Rattle.unit_tree.specs.Blocks.{Before, no_lines, and_line, and_lines, may_stand, are_placed}
use Rattle.unit_tree.specs.LineForms.{HasForm, front_tokens, is_of_version_2}
use Rattle.unit_tree.specs.Lines.{code_of, is_blank_line, has_forbidden_byte}
use Rattle.model_rules.specs.Limits.{line_limit}
use Rattle.unit_tree.specs.Texts.{BeginsVersion2, HasFormIn, HaveForms, LineBreaks}
use Rattle.unit_tree.specs.declared.line_form.LineForm.{LineForm}
use Rattle.unit_tree.specs.declared.line_form.LineForm.TheVariants as form
use Rattle.unit_tree.specs.declared.token.Token.{Token}
use Rattle.text_tokens.proofs.TokenLemmas.{spells_one}
use Rattle.text_lines.specs.Laws.{HasOneForm}
use Rattle.text_lines.specs.LineClass.{IsClean}
use Rattle.unit_text.specs.Nesting.{Nested, headed_by, and_form, nested_forms}
use Rattle.unit_text.proofs.NestingLaws.{before_next, is_held, adds}
use Rattle.text_laws.proofs.RefusalSteps.{IsUnbroken, AreUnbroken, IsLeast, unbroken, least}
use Rattle.text_laws.proofs.ReadIsPrintable.{none_written}
use Rattle.list_laws.proofs.Pairs.{zip_append}

abbrev pub is_written : List ℕ → Bool
is_written line = not (is_blank_line line)

-- ---- Forms of lines are known

-- Whether a proposition is true.
abbrev pub Decided : Type 0 → Type 0
Decided A = A ⊎ (A → ⊥)

-- It is decided whether a line has a form.
abbrev pub FormOf : List ℕ → Type 0
FormOf line = Decided ((some : LineForm) × HasForm some line)

-- A line has at most one form, and it is decided whether it has one.
pub record FormsAreKnown : Type 0 where
  pub form_of : (line : List ℕ) → FormOf line
  pub one : HasOneForm

front_is_some : (some : LineForm) (tail : List Token) → front_tokens some ++ tail ≡ [] → ⊥
front_is_some (form.Header version) tail is = cc
front_is_some (form.Unit name) tail is = cc
front_is_some (form.Resolution decimals) tail is = cc
front_is_some (form.Param param) tail is = cc
front_is_some (form.State state) tail is = cc
front_is_some (form.Local local) tail is = cc
front_is_some (form.Input input) tail is = cc
front_is_some (form.EventInput event) tail is = cc
front_is_some (form.Output output) tail is = cc
front_is_some (form.EventOutput event) tail is = cc
front_is_some (form.Max value) tail is = cc
front_is_some form.Step tail is = cc
front_is_some form.End tail is = cc
front_is_some (form.Assign target value) tail is = cc
front_is_some (form.If condition) tail is = cc
front_is_some form.Else tail is = cc
front_is_some (form.Repeat count) tail is = cc
front_is_some (form.Accept value) tail is = cc
front_is_some (form.Instance name unit) tail is = cc
front_is_some (form.Setting setting) tail is = cc
front_is_some (form.Connect wire) tail is = cc
front_is_some (form.Stop seconds) tail is = cc
front_is_some (form.Longest seconds) tail is = cc
front_is_some (form.Zero count) tail is = cc
front_is_some (form.Rows count) tail is = cc
front_is_some (form.Sample port) tail is = cc

-- A blank line has no form.
pub blank_has_none : (line : List ℕ) (some : LineForm) → is_blank_line line ≡ true → HasForm some line → ⊥
blank_has_none line some blank has =
    let none : [] ≡ has.tokens = spells_one [] has.tokens (code_of line) blank has.spelled in
    front_is_some some has.written.tail (sym has.written.spelled ∙ sym none)

pub written : (line : List ℕ) (some : LineForm) → HasForm some line → is_blank_line line ≡ false
written line some has = elim (cases_Bool (is_blank_line line)) [
  | inl blank ↦ absurd (blank_has_none line some blank has)
  | inr is ↦ is
]

-- ---- The version of a text

-- The first line that is not blank.
pub record FirstLine (lines : List (List ℕ)) : Type 0 where
  pub before : List (List ℕ)
  pub line : List ℕ
  pub later : List (List ℕ)
  pub cut : lines ≡ before ++ (line ∷ later)
  pub before_is_blank : list_all is_blank_line before ≡ true
  pub is_written : is_blank_line line ≡ false

behind_blank : (line : List ℕ) (lines : List (List ℕ)) → is_blank_line line ≡ true → FirstLine lines → FirstLine (line ∷ lines)
behind_blank line lines blank rest = record {
  before = line ∷ rest.before;
  line = rest.line;
  later = rest.later;
  cut = ap (λ all. line ∷ all) rest.cut;
  before_is_blank = ap (λ here. here && list_all is_blank_line rest.before) blank ∙ rest.before_is_blank;
  is_written = rest.is_written;
}

pub first_line : (lines : List (List ℕ)) → list_all is_blank_line lines ≡ false → FirstLine lines
first_line [] is = absurd (cc)
first_line (line ∷ lines) is = elim (cases_Bool (is_blank_line line)) [
  | inr here ↦ record { before = []; line = line; later = lines; cut = refl; before_is_blank = refl; is_written = here }
  | inl blank ↦ behind_blank line lines blank (first_line lines (subst (λ b. (b && list_all is_blank_line lines) ≡ false) blank is))
]

same_first : (before other : List (List ℕ)) (line next : List ℕ) (later rest : List (List ℕ)) → before ++ (line ∷ later) ≡ other ++ (next ∷ rest)
    → list_all is_blank_line before ≡ true → list_all is_blank_line other ≡ true → is_blank_line line ≡ false → is_blank_line next ≡ false → line ≡ next
same_first [] [] line next later rest is blank blank_too here there = cc
same_first [] (y ∷ other) line next later rest is blank blank_too here there =
    let same : line ≡ y = cc in
    let one = and_parts (is_blank_line y) (list_all is_blank_line other) blank_too in
    absurd (true≢false (sym one.0 ∙ ap is_blank_line (sym same) ∙ here))
same_first (x ∷ before) [] line next later rest is blank blank_too here there =
    let same : x ≡ next = cc in
    let one = and_parts (is_blank_line x) (list_all is_blank_line before) blank in
    absurd (true≢false (sym one.0 ∙ ap is_blank_line same ∙ there))
same_first (x ∷ before) (y ∷ other) line next later rest is blank blank_too here there =
    let tail : before ++ (line ∷ later) ≡ other ++ (next ∷ rest) = cc in
    let one = and_parts (is_blank_line x) (list_all is_blank_line before) blank in
    let two = and_parts (is_blank_line y) (list_all is_blank_line other) blank_too in
    same_first before other line next later rest tail one.1 two.1 here there

-- the first line that is not blank is that of the definition
pub first_is : (lines : List (List ℕ)) (first : FirstLine lines) → BeginsVersion2 lines → HasForm (form.Header 2) first.line
first_is lines first begins =
    let same =
    same_first begins.before first.before begins.line first.line begins.later first.later
    (sym begins.cut ∙ first.cut) begins.before_is_blank first.before_is_blank (written begins.line (form.Header 2) begins.is_header) first.is_written in
    subst (HasForm (form.Header 2)) same begins.is_header

pub begins_so : (lines : List (List ℕ)) (first : FirstLine lines) → HasForm (form.Header 2) first.line → BeginsVersion2 lines
begins_so lines first header =
    record { before = first.before; line = first.line; later = first.later; cut = first.cut; before_is_blank = first.before_is_blank; is_header = header }

is_header_2 : (some : LineForm) → Decided (some ≡ form.Header 2)
is_header_2 (form.Header version) = elim (cases_eq version 2) [
  | inl is ↦ inl (ap form.Header is)
  | inr other ↦ inr (λ is. other (cc))
]
is_header_2 (form.Unit name) = inr (λ is. cc)
is_header_2 (form.Resolution decimals) = inr (λ is. cc)
is_header_2 (form.Param param) = inr (λ is. cc)
is_header_2 (form.State state) = inr (λ is. cc)
is_header_2 (form.Local local) = inr (λ is. cc)
is_header_2 (form.Input input) = inr (λ is. cc)
is_header_2 (form.EventInput event) = inr (λ is. cc)
is_header_2 (form.Output output) = inr (λ is. cc)
is_header_2 (form.EventOutput event) = inr (λ is. cc)
is_header_2 (form.Max value) = inr (λ is. cc)
is_header_2 form.Step = inr (λ is. cc)
is_header_2 form.End = inr (λ is. cc)
is_header_2 (form.Assign target value) = inr (λ is. cc)
is_header_2 (form.If condition) = inr (λ is. cc)
is_header_2 form.Else = inr (λ is. cc)
is_header_2 (form.Repeat count) = inr (λ is. cc)
is_header_2 (form.Accept value) = inr (λ is. cc)
is_header_2 (form.Instance name unit) = inr (λ is. cc)
is_header_2 (form.Setting setting) = inr (λ is. cc)
is_header_2 (form.Connect wire) = inr (λ is. cc)
is_header_2 (form.Stop seconds) = inr (λ is. cc)
is_header_2 (form.Longest seconds) = inr (λ is. cc)
is_header_2 (form.Zero count) = inr (λ is. cc)
is_header_2 (form.Rows count) = inr (λ is. cc)
is_header_2 (form.Sample port) = inr (λ is. cc)

pub version_known : FormsAreKnown → (lines : List (List ℕ)) → FirstLine lines → Decided (BeginsVersion2 lines)
version_known known lines first = elim (known.form_of first.line) [
  | inl (some, has) ↦ elim (is_header_2 some) [
    | inl is ↦ inl (begins_so lines first (subst (λ one. HasForm one first.line) is has))
    | inr other ↦ inr (λ begins. other (known.one first.line some (form.Header 2) has (first_is lines first begins)))
  ]
  | inr none ↦ inr (λ begins. none (form.Header 2, first_is lines first begins))
]

-- ---- The form of a line in a text

abbrev pub FormIn : List (List ℕ) → List ℕ → Type 0
FormIn text line = Decided ((some : LineForm) × HasFormIn text some line)

pub form_in : FormsAreKnown → (text : List (List ℕ)) → Decided (BeginsVersion2 text) → (line : List ℕ) → FormIn text line
form_in known text version line = elim (known.form_of line) [
  | inr none ↦ inr (λ found. none (found.0, found.1.has_form))
  | inl (some, has) ↦ elim (cases_Bool (is_of_version_2 some)) [
    | inr plain ↦ inl (some, record { has_form = has; of_version = λ told. absurd (true≢false (sym told ∙ plain)) })
    | inl told ↦ elim version [
      | inl begins ↦ inl (some, record { has_form = has; of_version = λ _. begins })
      | inr other ↦
          inr (λ found. other (found.1.of_version (subst (λ one. is_of_version_2 one ≡ true) (known.one line some found.0 has found.1.has_form) told)))
    ]
  ]
]

pub one_in : FormsAreKnown → (text : List (List ℕ)) (one other : LineForm) (line : List ℕ) → HasFormIn text one line → HasFormIn text other line → one ≡ other
one_in known text one other line has has_too = known.one line one other has.has_form has_too.has_form

-- ---- Forms of lines

zip_same : {A B : Type 0} (R : A → B → Type 0) → ((x y : A) (z : B) → R x z → R y z → x ≡ y) → (xs ys : List A) (zs : List B) → AllZip R xs zs
    → AllZip R ys zs → xs ≡ ys
zip_same R one [] [] [] all too = refl
zip_same R one [] (y ∷ ys) [] all too = absurd too
zip_same R one (x ∷ xs) ys [] all too = absurd all
zip_same R one [] ys (z ∷ zs) all too = absurd all
zip_same R one (x ∷ xs) [] (z ∷ zs) all too = absurd too
zip_same R one (x ∷ xs) (y ∷ ys) (z ∷ zs) all too = ap (λ first. first ∷ xs) (one x y z all.0 too.0)
    ∙ ap (λ rest. y ∷ rest) (zip_same R one xs ys zs all.1 too.1)

pub same_forms : FormsAreKnown → (text lines : List (List ℕ)) (forms others : List LineForm) → HaveForms text forms lines → HaveForms text others lines
    → forms ≡ others
same_forms known text lines forms others = zip_same (HasFormIn text) (one_in known text) forms others (filter is_written lines)

pub forms_more : (text before : List (List ℕ)) (line : List ℕ) (forms : List LineForm) (some : LineForm) → HaveForms text forms before
    → HasFormIn text some line → HaveForms text (forms ++ (some ∷ [])) (before ++ (line ∷ []))
forms_more text before line forms some have has =
    let here : filter is_written (line ∷ []) ≡ line ∷ [] = rw (written line some has.has_form) refl in
    subst (AllZip (HasFormIn text) (forms ++ (some ∷ []))) (sym (filter-append is_written before (line ∷ [])))
    (zip_append (HasFormIn text) forms (some ∷ []) (filter is_written before) (filter is_written (line ∷ [])) have
    (subst (AllZip (HasFormIn text) (some ∷ [])) (sym here) (has, tt)))

pub forms_blank : (text before : List (List ℕ)) (line : List ℕ) (forms : List LineForm) → HaveForms text forms before → is_blank_line line ≡ true
    → HaveForms text forms (before ++ (line ∷ []))
forms_blank text before line forms have blank =
    let none : filter is_written (line ∷ []) ≡ [] = rw blank refl in
    subst (AllZip (HasFormIn text) forms)
    (sym (filter-append is_written before (line ∷ []) ∙ ap (λ rest. filter is_written before ++ rest) none ∙ append-nil (filter is_written before))) have

pub blank_have_none : (text lines : List (List ℕ)) → list_all is_blank_line lines ≡ true → HaveForms text [] lines
blank_have_none text lines blank = subst (AllZip (HasFormIn text) []) (sym (none_written lines blank)) tt

-- ---- What is known of the lines so far

abbrev pub are_short : List (List ℕ) → Bool
are_short lines = list_all (λ line. nat_le (length line) line_limit) lines

-- All lines so far are blank, and break no rule.
pub record AreBlank (text before : List (List ℕ)) : Type 0 where
  pub kept : AreUnbroken text [] before
  pub short : are_short before ≡ true
  pub blank : list_all is_blank_line before ≡ true

-- The lines so far nest to this, and break no rule.
pub record NestTo (text before : List (List ℕ)) (nested : Nested) : Type 0 where
  pub kept : AreUnbroken text [] before
  pub short : are_short before ≡ true
  pub written : list_all is_blank_line before ≡ false
  pub forms : HaveForms text (nested_forms nested) before
  pub placed : are_placed no_lines (nested_forms nested) ≡ true

are_more : (text done before : List (List ℕ)) (line : List ℕ) → AreUnbroken text done before → IsUnbroken text (done ++ before) line
    → AreUnbroken text done (before ++ (line ∷ []))
are_more text done [] line kept is = (subst (λ d. IsUnbroken text d line) (append-nil done) is, tt)
are_more text done (first ∷ before) line kept is =
    (kept.0, are_more text (done ++ (first ∷ [])) before line kept.1 (subst (λ d. IsUnbroken text d line) (sym (append_assoc done (first ∷ []) before)) is))

all_more : (test : List ℕ → Bool) (before : List (List ℕ)) (line : List ℕ) → list_all test before ≡ true → test line ≡ true
    → list_all test (before ++ (line ∷ [])) ≡ true
all_more test [] line all is = ap (λ here. here && true) is
all_more test (first ∷ before) line all is =
    let both = and_parts (test first) (list_all test before) all in
    ap (λ here. here && list_all test (before ++ (line ∷ []))) both.0 ∙ all_more test before line both.1 is

not_all_more : (test : List ℕ → Bool) (before more : List (List ℕ)) → list_all test before ≡ false → list_all test (before ++ more) ≡ false
not_all_more test [] more is = absurd (true≢false is)
not_all_more test (first ∷ before) more is = elim (cases_Bool (test first)) [
  | inr here ↦ ap (λ told. told && list_all test (before ++ more)) here
  | inl here ↦ ap (λ told. told && list_all test (before ++ more)) here
      ∙ not_all_more test before more (sym (ap (λ told. told && list_all test before) here) ∙ is)
]

not_last : (test : List ℕ → Bool) (before : List (List ℕ)) (line : List ℕ) → test line ≡ false → list_all test (before ++ (line ∷ [])) ≡ false
not_last test [] line is = ap (λ here. here && true) is
not_last test (first ∷ before) line is = elim (cases_Bool (test first)) [
  | inr here ↦ ap (λ told. told && list_all test (before ++ (line ∷ []))) here
  | inl here ↦ ap (λ told. told && list_all test (before ++ (line ∷ []))) here ∙ not_last test before line is
]

short_is : (line : List ℕ) → length line ≤ line_limit → nat_le (length line) line_limit ≡ true
short_is line short = grind (arith, nat_tests, short)

-- ---- A blank line

-- A blank line breaks no rule except that of its length.
pub blank_unbroken : (text before : List (List ℕ)) (line : List ℕ) → IsClean line → is_blank_line line ≡ true → IsUnbroken text before line
blank_unbroken text before line clean blank =
    unbroken text before line clean.bytes clean.short
    (λ none. true≢false (sym blank ∙ none.0))
    (λ off. blank_has_none line off.some blank off.has_form.has_form)
    (λ lacks. true≢false (sym blank ∙ lacks.is_first))

pub blank_more : (text before : List (List ℕ)) (line : List ℕ) → AreBlank text before → IsClean line → is_blank_line line ≡ true
    → AreBlank text (before ++ (line ∷ []))
blank_more text before line so_far clean blank = record {
  kept = are_more text [] before line so_far.kept (blank_unbroken text before line clean blank);
  short = all_more (λ line. nat_le (length line) line_limit) before line so_far.short (short_is line clean.short);
  blank = all_more is_blank_line before line so_far.blank blank;
}

pub nest_blank : (text before : List (List ℕ)) (line : List ℕ) (nested : Nested) → NestTo text before nested → IsClean line → is_blank_line line ≡ true
    → NestTo text (before ++ (line ∷ [])) nested
nest_blank text before line nested so_far clean blank = record {
  kept = are_more text [] before line so_far.kept (blank_unbroken text before line clean blank);
  short = all_more (λ line. nat_le (length line) line_limit) before line so_far.short (short_is line clean.short);
  written = not_all_more is_blank_line before (line ∷ []) so_far.written;
  forms = forms_blank text before line (nested_forms nested) so_far.forms blank;
  placed = so_far.placed;
}

-- ---- A line that keeps the rules

placed_more : (forms : List LineForm) (before : Before) (some : LineForm) → are_placed before forms ≡ true → may_stand (and_lines before forms) some ≡ true
    → are_placed before (forms ++ (some ∷ [])) ≡ true
placed_more [] before some placed may = ap (λ told. told && true) may
placed_more (first ∷ forms) before some placed may =
    let both = and_parts (may_stand before first) (are_placed (and_line before first) forms) placed in
    ap (λ told. told && are_placed (and_line before first) (forms ++ (some ∷ []))) both.0 ∙ placed_more forms (and_line before first) some both.1 may

-- The header of a text is its first line that is not blank.
pub header_begins : FormsAreKnown → (text before : List (List ℕ)) (line : List ℕ) (version : ℕ) → AreBlank text before → IsClean line
    → HasFormIn text (form.Header version) line → NestTo text (before ++ (line ∷ [])) (headed_by version)
header_begins known text before line version so_far clean has = record {
  kept = are_more text [] before line so_far.kept (unbroken text before line clean.bytes clean.short
      (λ none. none.1 (form.Header version) has)
      (λ off.
      let forms = same_forms known text before off.forms [] off.lines (blank_have_none text before so_far.blank) in
      let some = one_in known text off.some (form.Header version) line off.has_form has in
      true≢false (sym (ap (λ all. may_stand (and_lines no_lines all) off.some) forms ∙ ap (may_stand no_lines) some) ∙ off.misplaced))
      (λ lacks. lacks.is_other version has.has_form));
  short = all_more (λ line. nat_le (length line) line_limit) before line so_far.short (short_is line clean.short);
  written = not_last is_blank_line before line (written line (form.Header version) has.has_form);
  forms = forms_more text before line [] (form.Header version) (blank_have_none text before so_far.blank) has;
  placed = refl;
}

pub line_nests : FormsAreKnown → (text before : List (List ℕ)) (line : List ℕ) (nested : Nested) (some : LineForm) → NestTo text before nested → IsClean line
    → HasFormIn text some line → may_stand (before_next nested) some ≡ true → NestTo text (before ++ (line ∷ [])) (and_form nested some)
line_nests known text before line nested some so_far clean has may = record {
  kept = are_more text [] before line so_far.kept (unbroken text before line clean.bytes clean.short
      (λ none. none.1 some has)
      (λ off.
      let forms = same_forms known text before off.forms (nested_forms nested) off.lines so_far.forms in
      let one = one_in known text off.some some line off.has_form has in
      true≢false (sym (ap (λ all. may_stand (and_lines no_lines all) off.some) forms ∙ ap (may_stand (before_next nested)) one ∙ may) ∙ off.misplaced))
      (λ lacks. true≢false (sym lacks.before_is_blank ∙ so_far.written)));
  short = all_more (λ line. nat_le (length line) line_limit) before line so_far.short (short_is line clean.short);
  written = not_all_more is_blank_line before (line ∷ []) so_far.written;
  forms = subst (λ forms. HaveForms text forms (before ++ (line ∷ []))) (sym grown) (forms_more text before line (nested_forms nested) some so_far.forms has);
  placed = ap (are_placed no_lines) grown ∙ placed_more (nested_forms nested) no_lines some so_far.placed may;
}
  where
    grown : nested_forms (and_form nested some) ≡ nested_forms nested ++ (some ∷ [])
    grown = adds nested some (is_held nested some may)

-- ---- A line that breaks a rule

-- The line breaks the rule, and no lesser one.
pub record BreaksLeast (text before : List (List ℕ)) (line : List ℕ) (rule : ℕ) : Type 0 where
  pub breaks : LineBreaks text rule before line
  pub is_least : IsLeast text rule before line

pub bytes_break : (text before : List (List ℕ)) (line : List ℕ) → has_forbidden_byte line ≡ true → BreaksLeast text before line 1
bytes_break text before line told = record {
  breaks = inl (refl, told);
  is_least =
      least text 1 before line (omega arith) (λ more. absurd (omega (arith, more))) (λ more. absurd (omega (arith, more)))
      (λ more. absurd (omega (arith, more))) (λ more. absurd (omega (arith, more)));
}

pub length_breaks : (text before : List (List ℕ)) (line : List ℕ) → has_forbidden_byte line ≡ false → line_limit < length line → BreaksLeast text before line 3
length_breaks text before line bytes long = record {
  breaks = inr (inl (refl, long));
  is_least =
      least text 3 before line (omega arith) (λ _. bytes) (λ more. absurd (omega (arith, more))) (λ more. absurd (omega (arith, more)))
      (λ more. absurd (omega (arith, more)));
}

pub formless_breaks : (text before : List (List ℕ)) (line : List ℕ) → IsClean line → is_blank_line line ≡ false
    → (((some : LineForm) × HasFormIn text some line) → ⊥) → BreaksLeast text before line 4
formless_breaks text before line clean is none = record {
  breaks = inr (inr (inl (refl, (is, λ some has. none (some, has)))));
  is_least =
      least text 4 before line (omega arith) (λ _. clean.bytes) (λ _. clean.short) (λ more. absurd (omega (arith, more)))
      (λ more. absurd (omega (arith, more)));
}

misplaced : (text before : List (List ℕ)) (line : List ℕ) (forms : List LineForm) (some : LineForm) → HaveForms text forms before → IsClean line
    → HasFormIn text some line → may_stand (and_lines no_lines forms) some ≡ false → BreaksLeast text before line 5
misplaced text before line forms some have clean has off = record {
  breaks = inr (inr (inr (inl (refl, record { forms = forms; some = some; lines = have; has_form = has; misplaced = off }))));
  is_least = least text 5 before line (omega arith) (λ _. clean.bytes) (λ _. clean.short) (λ _ none. none.1 some has) (λ more. absurd (omega (arith, more)));
}

pub place_breaks : (text before : List (List ℕ)) (line : List ℕ) (nested : Nested) (some : LineForm) → NestTo text before nested → IsClean line
    → HasFormIn text some line → may_stand (before_next nested) some ≡ false → BreaksLeast text before line 5
place_breaks text before line nested some so_far clean has off = misplaced text before line (nested_forms nested) some so_far.forms clean has off

pub first_place_breaks : (text before : List (List ℕ)) (line : List ℕ) (some : LineForm) → AreBlank text before → IsClean line → HasFormIn text some line
    → may_stand no_lines some ≡ false → BreaksLeast text before line 5
first_place_breaks text before line some so_far clean has off = misplaced text before line [] some (blank_have_none text before so_far.blank) clean has off

pub headless_breaks : FormsAreKnown → (text before : List (List ℕ)) (line : List ℕ) (some : LineForm) → AreBlank text before → IsClean line
    → HasFormIn text some line → may_stand no_lines some ≡ true → ((version : ℕ) → some ≡ form.Header version → ⊥) → BreaksLeast text before line 7
headless_breaks known text before line some so_far clean has may other = record {
  breaks = inr (inr (inr (inr (
    refl,
    record {
      before_is_blank = so_far.blank;
      is_first = written line some has.has_form;
      is_other = λ version header. other version (known.one line some (form.Header version) has.has_form header);
    },
  ))));
  is_least = least text 7 before line (omega arith) (λ _. clean.bytes) (λ _. clean.short) (λ _ none. none.1 some has)
      (λ _ off.
      let forms = same_forms known text before off.forms [] off.lines (blank_have_none text before so_far.blank) in
      let one = one_in known text off.some some line off.has_form has in
      true≢false (sym (ap (λ all. may_stand (and_lines no_lines all) off.some) forms ∙ ap (may_stand no_lines) one ∙ may) ∙ off.misplaced));
}
