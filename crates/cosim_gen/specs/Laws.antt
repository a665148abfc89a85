-- Laws of generated systems: for every seed they are printable, well-formed and without a cycle.
use Rattle.std.specs.Prelude.{ℕ}
use Rattle.unit_tree.specs.Orders.{HasNoCycle}
use Rattle.unit_tree.specs.Printable.{IsPrintable}
use Rattle.unit_tree.specs.WellFormed.{IsWellFormed}
use Rattle.cosim_gen.specs.Generated.{CanGenerate, generated}

abbrev pub GeneratedArePrintable : Type 0
GeneratedArePrintable = (seed instances rows : ℕ) → CanGenerate instances rows → IsPrintable (generated seed instances rows)

abbrev pub GeneratedAreWellFormed : Type 0
GeneratedAreWellFormed = (seed instances rows : ℕ) → CanGenerate instances rows → IsWellFormed (generated seed instances rows)

abbrev pub GeneratedHaveNoCycle : Type 0
GeneratedHaveNoCycle = (seed instances rows : ℕ) → CanGenerate instances rows → HasNoCycle (generated seed instances rows)
