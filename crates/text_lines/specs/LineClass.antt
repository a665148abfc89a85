-- What is known of a line by its bytes, before its form is read.
use Rattle.std.specs.Prelude.{◌≡◌, ◌≤◌, ◌<◌, ◌⊎◌, ℕ, List, length, true, false}
use Rattle.unit_tree.specs.Lines.{is_blank_line, has_forbidden_byte}
use Rattle.model_rules.specs.Limits.{line_limit}
use Rattle.text_lines.specs.declared.lines.LineClass.{LineClass}
use Rattle.text_lines.specs.declared.lines.LineClass.TheVariants as told

-- The line keeps the rules that concern its bytes alone.
pub record IsClean (line : List ℕ) : Type 0 where
  pub bytes : has_forbidden_byte line ≡ false
  pub short : length line ≤ line_limit

-- What a `LineClass` states of a line: the least of these rules that it breaks, or whether it is blank.
abbrev pub TellsOf : List ℕ → LineClass → Type 0
TellsOf line (told.Broken rule) =
    ((rule ≡ 1) × (has_forbidden_byte line ≡ true)) ⊎ ((rule ≡ 3) × (has_forbidden_byte line ≡ false) × (line_limit < length line))
TellsOf line told.Blank = IsClean line × (is_blank_line line ≡ true)
TellsOf line told.Written = IsClean line × (is_blank_line line ≡ false)
