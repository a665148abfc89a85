-- Which system a text has, and at which line and by which rule any other text is refused.
--
--   rule 1   a byte before the comment is not allowed in code
--   rule 2   the text is too long
--   rule 3   the line is too long
--   rule 4   a line that is not blank has none of the forms
--   rule 5   a form is not allowed where it is
--   rule 6   a block is open at the end
--   rule 7   the text does not begin with a header
--
-- A text is of version 2 where its first line that is not blank is the header of version 2. It then has the forms of
-- both versions. Any other text has only those of version 1.
use Rattle.std.specs.Prelude.{◌≡◌, ◌≢◌, ◌≤◌, ◌<◌, ◌⊎◌, ℕ, suc, not, nat_le, List, [], ◌∷◌, ◌++◌, length, IsTrue, IsFalse}
use Rattle.std.specs.List.{filter, list_all, AllZip}
use Rattle.model_rules.specs.Limits.{line_limit, text_limit}
use Rattle.unit_tree.specs.Blocks.{no_lines, and_lines, open_blocks, may_stand, are_placed}
use Rattle.unit_tree.specs.LineForms.{HasForm, is_of_version_2}
use Rattle.unit_tree.specs.Lines.{source_lines, size_of, is_blank_line, has_forbidden_byte}
use Rattle.unit_tree.specs.Parts.{Part, text_forms, system_of}
use Rattle.unit_tree.specs.declared.line_form.LineForm.{LineForm}
use Rattle.unit_tree.specs.declared.line_form.LineForm.TheVariants as form
use Rattle.unit_tree.specs.declared.system.System.{System}

-- The first of the lines that is not blank is the header of version 2.
pub record BeginsVersion2 (lines : List (List ℕ)) : Type 0 where
  pub before : List (List ℕ)
  pub line : List ℕ
  pub later : List (List ℕ)
  pub cut : lines ≡ before ++ (line ∷ later)
  pub before_is_blank : IsTrue (list_all is_blank_line before)
  pub is_header : HasForm (form.Header 2) line

-- A line has a form in a text of these lines: a form of version 2 only where the text is of that version.
pub record HasFormIn (text : List (List ℕ)) (some : LineForm) (line : List ℕ) : Type 0 where
  pub has_form : HasForm some line
  pub of_version : IsTrue (is_of_version_2 some) → BeginsVersion2 text

-- The lines that are not blank, in a text of these lines, have the forms, one for one.
abbrev pub HaveForms : List (List ℕ) → List LineForm → List (List ℕ) → Type 0
HaveForms text forms lines = AllZip (HasFormIn text) forms (filter (λ line. not (is_blank_line line)) lines)

-- ---- Texts that have a system

-- The text has the system. The text and its lines are short enough. Its lines that are not blank have the forms of
-- the header and of the system's parts, each where it is allowed.
pub record Reads (text : List ℕ) (system : System) : Type 0 where
  pub parts : List Part
  pub says : system_of system.version parts ≡ system
  pub lines : HaveForms (source_lines text) (text_forms system.version parts) (source_lines text)
  pub placed : IsTrue (are_placed no_lines (text_forms system.version parts))
  pub short : size_of text ≤ text_limit
  pub lines_short : IsTrue (list_all (λ line. nat_le (length line) line_limit) (source_lines text))

-- ---- Lines that break a rule

-- The line has none of the forms that a text of these lines has.
abbrev pub HasNoForm : List (List ℕ) → List ℕ → Type 0
HasNoForm text line = IsFalse (is_blank_line line) × ((some : LineForm) → HasFormIn text some line → ⊥)

-- The line has a form that is not allowed after the lines before it.
pub record IsMisplaced (text before : List (List ℕ)) (line : List ℕ) : Type 0 where
  pub forms : List LineForm
  pub some : LineForm
  pub lines : HaveForms text forms before
  pub has_form : HasFormIn text some line
  pub misplaced : IsFalse (may_stand (and_lines no_lines forms) some)

-- The first line that is not blank is not a header.
pub record LacksHeader (before : List (List ℕ)) (line : List ℕ) : Type 0 where
  pub before_is_blank : IsTrue (list_all is_blank_line before)
  pub is_first : IsFalse (is_blank_line line)
  pub is_other : (version : ℕ) → HasForm (form.Header version) line → ⊥

-- A line of a text, with the lines before it, breaks the rule.
abbrev pub LineBreaks : List (List ℕ) → ℕ → List (List ℕ) → List ℕ → Type 0
LineBreaks text rule before line =
    ((rule ≡ 1) × IsTrue (has_forbidden_byte line))
    ⊎ ((rule ≡ 3) × (line_limit < length line))
    ⊎ ((rule ≡ 4) × HasNoForm text line)
    ⊎ ((rule ≡ 5) × IsMisplaced text before line)
    ⊎ ((rule ≡ 7) × LacksHeader before line)

-- The line of that number, from 1, breaks the rule.
pub record BreaksAt (lines : List (List ℕ)) (number rule : ℕ) : Type 0 where
  pub before : List (List ℕ)
  pub line : List ℕ
  pub later : List (List ℕ)
  pub cut : lines ≡ before ++ (line ∷ later)
  pub is_number : number ≡ suc (length before)
  pub breaks : LineBreaks lines rule before line

-- The lines break the rule at that line number: such a line breaks it, or all lines are blank, so that line 1 lacks
-- the header.
abbrev pub Breaks : List (List ℕ) → ℕ → ℕ → Type 0
Breaks lines number rule =
    BreaksAt lines number rule ⊎ (IsTrue (list_all is_blank_line lines) × (number ≡ 1) × (rule ≡ 7))

-- The first line that breaks a rule, with the least rule that it breaks.
pub record IsFirstBroken (lines : List (List ℕ)) (number rule : ℕ) : Type 0 where
  pub breaks : Breaks lines number rule
  pub first : (other by : ℕ) → Breaks lines other by → (number < other) ⊎ ((number ≡ other) × (rule ≤ by))

-- No line breaks a rule, and a block is open at the end: the last line breaks rule 6.
pub record IsUnended (lines : List (List ℕ)) (number rule : ℕ) : Type 0 where
  pub forms : List LineForm
  pub have_forms : HaveForms lines forms lines
  pub is_open : open_blocks forms ≢ []
  pub unbroken : (other by : ℕ) → Breaks lines other by → ⊥
  pub is_rule : rule ≡ 6
  pub is_last : number ≡ length lines

-- ---- Texts that are refused

-- The text is refused at the line by the rule. Rule 2 is judged first; then the lines in their order, and last
-- whether a block is open.
abbrev pub IsRefused : List ℕ → ℕ → ℕ → Type 0
IsRefused text number rule =
    ((text_limit < size_of text) × (number ≡ 1) × (rule ≡ 2))
    ⊎ ((size_of text ≤ text_limit) × (IsFirstBroken (source_lines text) number rule ⊎ IsUnended (source_lines text) number rule))
