-- Reading of a text line by line: how each line changes what was read before it.
use Rattle.std.specs.Prelude.{◌≡◌, ◌≤◌, ◌+◌, ◌⊎◌, ℕ, suc, nat_lt, List, [], ◌∷◌, ◌++◌, length, IsTrue, Option, Some, None, Result, Ok, Err, true, false, ⊤}
use Rattle.std.specs.Prelude.{if◌then◌else◌}
use Rattle.std.specs.Borrow.{Bor}
use Rattle.std.specs.List.{AllByRecursion, list_all}
use Rattle.std.specs.Option.{option_map}
use Rattle.unit_tree.specs.Blocks.{no_lines, may_stand}
use Rattle.unit_tree.specs.LineForms.{HasForm, is_of_version_2}
use Rattle.unit_tree.specs.Lines.{source_lines, is_blank_line}
use Rattle.unit_tree.specs.SourceLines.{ReadsFrom}
use Rattle.model_rules.specs.Limits.{line_limit}
use Rattle.unit_tree.specs.Texts.{IsRefused}
use Rattle.unit_tree.specs.declared.line_form.LineForm.{LineForm}
use Rattle.unit_tree.specs.declared.line_form.LineForm.TheVariants as form
use Rattle.text_tokens.specs.declared.fault.Unread.{Unread}
use Rattle.text_tokens.specs.declared.fault.Unread.TheVariants as unread
use Rattle.unit_text.specs.Drafts.{with_form, whole_system}
use Rattle.text_lines.specs.LineReading.{LineHas}
use Rattle.unit_text.specs.Numbering.{place_in, group_of, bare_numbers, with_marks, in_order}
use Rattle.text_lines.specs.LineClass.{IsClean, TellsOf}
use Rattle.unit_text.specs.declared.draft.Draft.{Draft}
use Rattle.unit_text.specs.declared.fault.TextFault.{TextFault}
use Rattle.unit_text.specs.declared.fault.TextFault.TheVariants as fault
use Rattle.text_lines.specs.declared.lines.LineClass.TheVariants as told
use Rattle.unit_text.specs.declared.numbers.Group.{Group}
use Rattle.unit_text.specs.declared.numbers.Mark.{Mark}
use Rattle.unit_text.specs.declared.reading.ReadText.{ReadText}

-- The line keeps the rules that concern its bytes alone, and is not blank.
pub record IsWritten (line : List ℕ) : Type 0 where
  pub clean : IsClean line
  pub written : is_blank_line line ≡ false

-- ---- The first line that is not blank

-- The rule that a first line with this form breaks, where the form is not a header: rule 4 for a form that only version
-- 2 has, rule 5 for one that is not allowed outside blocks, else rule 7.
abbrev pub headless_rule : LineForm → ℕ
headless_rule some = if is_of_version_2 some then 4 else (if may_stand no_lines some then 7 else 5)

-- The line has a form, which is not a header.
pub record IsHeadless (line : List ℕ) (rule : ℕ) : Type 0 where
  pub some : LineForm
  pub has_form : HasForm some line
  pub no_header : (version : ℕ) → some ≡ form.Header version → ⊥
  pub rule_is : rule ≡ headless_rule some

-- A header gives its version, and any other form the rule that a first line with this form breaks.
abbrev pub TellsVersion : LineForm → Result ℕ ℕ → Type 0
TellsVersion some (Ok version) = some ≡ form.Header version
TellsVersion some (Err rule) = ((version : ℕ) → some ≡ form.Header version → ⊥) × (rule ≡ headless_rule some)

-- Such a line gives the version, or breaks a rule.
abbrev pub FirstGives : List ℕ → Result ℕ ℕ → Type 0
FirstGives line (Ok version) = HasForm (form.Header version) line
FirstGives line (Err rule) = ((rule ≡ 4) × LineHas line None) ⊎ IsHeadless line rule

-- ---- The lines after the header

-- A text of the version may have the form.
abbrev pub IsFormOf : ℕ → LineForm → Type 0
IsFormOf version some = is_of_version_2 some ≡ true → version ≡ 2

-- The line has a form that no text of the version may have.
pub record IsOfOther (version : ℕ) (line : List ℕ) : Type 0 where
  pub some : LineForm
  pub has_form : HasForm some line
  pub of_other : IsFormOf version some → ⊥

-- The form of a line in a text of the version.
abbrev pub FormIn : ℕ → List ℕ → Option LineForm → Type 0
FormIn version line (Some some) = HasForm some line × IsFormOf version some
FormIn version line None = LineHas line None ⊎ IsOfOther version line

-- The draft with one more line of the form, and the group of this line. None where the form is not allowed there.
abbrev pub and_group : Draft → LineForm → Option (Draft × Option Group)
and_group draft some = option_map (λ next. (next, group_of (place_in draft.block) some)) (with_form draft some)

-- The line has a form of the version, and `next` is the draft with it.
pub record FormGives (draft : Draft) (line : List ℕ) (next : Option (Draft × Option Group)) : Type 0 where
  pub is_written : IsWritten line
  pub some : LineForm
  pub form_in : FormIn draft.system.version line (Some some)
  pub next_is : and_group draft some ≡ next

-- What reading the line gives after the draft of the lines before it: the draft with it and its group (a blank line has
-- none), or a rule that it breaks.
abbrev pub LineGives : Draft → List ℕ → Result (Draft × Option Group) ℕ → Type 0
LineGives draft line (Ok next) = (IsClean line × (is_blank_line line ≡ true) × (next ≡ (draft, None))) ⊎ FormGives draft line (Some next)
LineGives draft line (Err rule) =
    TellsOf line (told.Broken rule)
    ⊎ ((rule ≡ 4) × IsWritten line × FormIn draft.system.version line None)
    ⊎ ((rule ≡ 5) × FormGives draft line None)

-- ---- Results

abbrev pub fault_at : Unread → ℕ → ℕ → TextFault
fault_at unread.NoForm line rule = fault.Line line rule
fault_at unread.NoMemory line rule = fault.NoMemory

-- The property holds of the result. A refusal is at the line with this number. Without memory nothing is stated.
abbrev pub AnswersAt : {X : Type 0} → ℕ → (Result X ℕ → Type 0) → Result X TextFault → Type 0
AnswersAt number Says (Ok read) = Says (Ok read)
AnswersAt number Says (Err (fault.Line line rule)) = (line ≡ number) × Says (Err rule)
AnswersAt number Says (Err fault.NoMemory) = ⊤

-- ---- Texts

-- The rule that a text of blank lines breaks at its first line: rule 3 where this line is too long, else rule 7, since
-- the text begins with no header.
abbrev pub blank_rule : List (List ℕ) → ℕ
blank_rule [] = 7
blank_rule (line ∷ lines) = if nat_lt line_limit (length line) then 3 else 7

-- A line of a text, after blank lines that keep the rules.
pub record FirstAt (text : List ℕ) (line : List ℕ) (number : ℕ) (rest : List ℕ) : Type 0 where
  pub before : List (List ℕ)
  pub cut : source_lines text ≡ before ++ (line ∷ source_lines rest)
  pub blank : AllByRecursion (λ one. IsClean one × (is_blank_line one ≡ true)) before
  pub number_is : number ≡ suc (length before)
  pub within : number + length rest ≤ length text

-- The first line of a text that is not blank, or that breaks a rule: it gives the version, or it breaks the rule.
pub record HeadsText (text : List ℕ) (version number : ℕ) (rest : List ℕ) : Type 0 where
  pub line : List ℕ
  pub first : FirstAt text line number rest
  pub is_written : IsWritten line
  pub is_header : HasForm (form.Header version) line

pub record HeadBreaks (text : List ℕ) (number rule : ℕ) : Type 0 where
  pub line : List ℕ
  pub rest : List ℕ
  pub first : FirstAt text line number rest
  pub breaks : TellsOf line (told.Broken rule) ⊎ (IsWritten line × FirstGives line (Err rule))

abbrev pub HeaderGives : List ℕ → Result (ℕ × ℕ × Bor (List ℕ)) TextFault → Type 0
HeaderGives text (Ok (version, number, rest)) = HeadsText text version number rest.now
HeaderGives text (Err (fault.Line number rule)) = HeadBreaks text number rule ⊎ IsTrue (list_all is_blank_line (source_lines text))
HeaderGives text (Err fault.NoMemory) = ⊤

-- The system of all lines, the last of which has this number, or that a block is open there.
abbrev pub WholeGives : Draft → ℕ → List Mark → ℕ → Result ReadText TextFault → Type 0
WholeGives draft header marks number (Ok read) =
    (whole_system draft ≡ Some read.system) × (read.lines ≡ in_order (with_marks (bare_numbers header) marks))
WholeGives draft header marks number (Err (fault.Line line rule)) = (whole_system draft ≡ None) × (line ≡ number) × (rule ≡ 6)
WholeGives draft header marks number (Err fault.NoMemory) = ⊤

-- The result for a text: its system, with the lines that its canonical lines came from, or the line and the rule by
-- which it is refused.
abbrev pub AnswersText : List ℕ → Result ReadText TextFault → Type 0
AnswersText text (Ok read) = ReadsFrom text read.system read.lines
AnswersText text (Err (fault.Line line rule)) = IsRefused text line rule
AnswersText text (Err fault.NoMemory) = ⊤
