-- Nests that have a flat system which breaks no rule.
use Rattle.std.specs.Prelude.{◌≡◌, ℕ, length}
use Rattle.unit_tree.specs.WellFormed.{IsWellFormed}
use Rattle.nest_text.specs.declared.nest.Nest.{Nest}
use Rattle.nest_names.specs.Flattening.{flat_of}
use Rattle.sub_flat.specs.NestRules.{BreaksNest}

-- Each group has its line. No rule of groups is broken, and no rule of the language except perhaps that on
-- cycles.
pub record IsSound (nest : Nest) : Type 0 where
  pub lines : length nest.lines ≡ length nest.groups
  pub unbroken : (line rule : ℕ) → BreaksNest nest line rule → ⊥
  pub well_formed : IsWellFormed (flat_of nest)
