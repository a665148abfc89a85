-- A text that grows at its end by a token or a line at a time.
use Rattle.std.specs.Prelude.{ℕ, List, [], ◌∷◌, ◌++◌}
use Rattle.unit_tree.specs.Canonical.{spaced, token_text, form_tokens}
use Rattle.unit_tree.specs.Parts.{Part, UnitPart, part_forms, unit_part_forms, line_forms}
use Rattle.unit_tree.specs.Phrases.{symbol}
use Rattle.unit_tree.specs.declared.line.Line.{Line}
use Rattle.unit_tree.specs.declared.line_form.LineForm.{LineForm}
use Rattle.unit_tree.specs.declared.line_form.LineForm.TheVariants as form
use Rattle.unit_tree.specs.declared.system.Setting.{Setting}
use Rattle.unit_tree.specs.declared.token.Symbol.TheVariants as sign
use Rattle.unit_tree.specs.declared.token.Token.{Token}
use Rattle.unit_tree.specs.declared.token.Token.TheVariants as token

-- A text with a token after it.
unfoldable pub with_token : List ℕ → Token → List ℕ
with_token text token = spaced text (token_text token)

-- A text with tokens after it, in their order.
abbrev pub with_tokens : List ℕ → List Token → List ℕ
with_tokens text [] = text
with_tokens text (first ∷ others) = with_tokens (with_token text first) others

-- The names after the first one, with a comma before each.
abbrev pub others_tokens : List (List ℕ) → List Token
others_tokens [] = []
others_tokens (name ∷ names) = symbol sign.Comma ∷ token.Name name ∷ others_tokens names

-- A text with lines after it, each ended by LF.
abbrev pub with_lines : List ℕ → List LineForm → List ℕ
with_lines text [] = text
with_lines text (first ∷ others) = with_lines (with_tokens text (form_tokens first) ++ (10 ∷ [])) others

-- A text with the lines of parts after it: of a unit, and of a system.
abbrev pub with_unit_parts : List ℕ → List UnitPart → List ℕ
with_unit_parts text [] = text
with_unit_parts text (first ∷ others) = with_unit_parts (with_lines text (unit_part_forms first)) others

abbrev pub with_parts : List ℕ → List Part → List ℕ
with_parts text [] = text
with_parts text (first ∷ others) = with_parts (with_lines text (part_forms first)) others

-- A text with the lines of a step after it.
abbrev pub with_step_lines : List ℕ → List Line → List ℕ
with_step_lines text [] = text
with_step_lines text (first ∷ others) = with_step_lines (with_lines text (line_forms first)) others

-- A text with the lines of settings after it.
abbrev pub with_settings : List ℕ → List Setting → List ℕ
with_settings text [] = text
with_settings text (first ∷ others) = with_settings (with_lines text (form.Setting first ∷ [])) others
