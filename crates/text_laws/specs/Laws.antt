-- Laws of texts: what follows from the definitions of the language for code that reads and prints
-- texts.
use Rattle.std.specs.Prelude.{◌≡◌, ◌≤◌, ℕ, List, length}
use Rattle.unit_tree.specs.Canonical.{canonical_forms, canonical_text, line_text}
use Rattle.unit_tree.specs.LineForms.{HasForm}
use Rattle.unit_tree.specs.Printable.{IsPrintable}
use Rattle.unit_tree.specs.SourceLines.{ReadsFrom}
use Rattle.unit_tree.specs.Texts.{Reads}
use Rattle.unit_tree.specs.declared.line_form.LineForm.{LineForm}
use Rattle.unit_tree.specs.declared.system.System.{System}

-- The system of a text has a canonical text, and is in range.
abbrev pub WhatIsReadIsPrintable : Type 0
WhatIsReadIsPrintable = (text : List ℕ) (system : System) → Reads text system → IsPrintable system

-- Reading the canonical text of a system gives this system.
abbrev pub CanonicalTextIsReadBack : Type 0
CanonicalTextIsReadBack = (system : System) → IsPrintable system → Reads (canonical_text system) system

-- The system of a text has as many canonical lines as there are lines of the text that they came
-- from.
abbrev pub SourceLinesAreOneForOne : Type 0
SourceLinesAreOneForOne =
    (text : List ℕ) (system : System) (lines : List ℕ) → ReadsFrom text system lines → length lines ≡ length (canonical_forms system)

-- A canonical line is never longer than a line that has its form.
abbrev pub CanonicalLinesAreShortest : Type 0
CanonicalLinesAreShortest = (some : LineForm) (line : List ℕ) → HasForm some line → length (line_text some) ≤ length line
