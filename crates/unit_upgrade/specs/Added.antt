-- The lines that an upgrade adds to a text of version 1, and their length.
use Rattle.std.specs.Prelude.{ℕ, List, [], ◌∷◌, ◌++◌, length, Option, Some, None}
use Rattle.std.specs.List.{flat_map}
use Rattle.unit_tree.specs.Canonical.{line_text}
use Rattle.model_rules.specs.Limits.{default_zeros}
use Rattle.unit_tree.specs.Compositions.{default_rows}
use Rattle.unit_tree.specs.declared.line_form.LineForm.{LineForm}
use Rattle.unit_tree.specs.declared.line_form.LineForm.TheVariants as form
use Rattle.unit_tree.specs.declared.system.System.{System}

-- The line of a count, where the system has none.
abbrev pub unless_given : (ℕ → LineForm) → Option ℕ → ℕ → List LineForm
unless_given line None default = line default ∷ []
unless_given line (Some given) default = []

abbrev pub zeros_added : System → List LineForm
zeros_added system = unless_given form.Zero system.zero (default_zeros 1)

abbrev pub rows_added : System → List LineForm
rows_added system = unless_given form.Rows system.rows (default_rows 1 (length system.instances))

-- The canonical text of lines, each ended by LF.
abbrev pub lines_text : List LineForm → List ℕ
lines_text lines = flat_map (λ some. line_text some ++ (10 ∷ [])) lines
