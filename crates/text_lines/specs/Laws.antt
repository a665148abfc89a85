-- Laws of reading lines.
use Rattle.std.specs.Prelude.{◌≡◌, ℕ, List}
use Rattle.unit_tree.specs.LineForms.{HasForm}
use Rattle.unit_tree.specs.declared.line_form.LineForm.{LineForm}

-- A line has at most one form.
abbrev pub HasOneForm : Type 0
HasOneForm = (line : List ℕ) (one other : LineForm) → HasForm one line → HasForm other line → one ≡ other
