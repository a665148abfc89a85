-- Which nests have no flat system, and at which line and by which rule they are refused.
--
--   rule 27   a group has the name of another group or of a unit, or has no instance
--   rule 28   a group contains itself
--   rule 29   a port of a group doesn't exist, the name of an `out` line occurs twice, or a group has settings
--   rule 30   the flat system is too large
use Rattle.std.specs.Prelude.{◌≡◌, ◌⊎◌, ◌≤◌, ◌<◌, ℕ, length, Some, IsTrue, slice_get}
use Rattle.model_rules.specs.Limits.{connection_limit, instance_limit}
use Rattle.unit_tree.specs.Printable.{IsPrintable}
use Rattle.nest_names.specs.Flattening.{flat_of}
use Rattle.sub_flat.specs.Cycles.{ContainsItself}
use Rattle.sub_flat.specs.GroupTests.{is_misnamed, main_misses_port, misses_port}
use Rattle.sub_flat.specs.declared.judge.GroupRule.{GroupRule}
use Rattle.sub_flat.specs.declared.judge.GroupRule.TheVariants as rules
use Rattle.nest_text.specs.declared.nest.Group.{Group}
use Rattle.nest_text.specs.declared.nest.Nest.{Nest}

-- ---- Size

-- The flat system has more instances or connections than allowed, or has no canonical text that is read back, for
-- example because a name is too long.
abbrev pub IsTooLarge : Nest → Type 0
IsTooLarge nest = (instance_limit < length (flat_of nest).instances) ⊎ (connection_limit < length (flat_of nest).wires) ⊎ (IsPrintable (flat_of nest) → ⊥)

-- ---- Refusals

-- The group at a place breaks the rule.
abbrev pub BreaksGroup : GroupRule → Nest → ℕ → Group → Type 0
BreaksGroup rules.Names nest place group = IsTrue (is_misnamed nest group)
BreaksGroup rules.Nesting nest place group = ContainsItself nest place
BreaksGroup rules.Ports nest place group = IsTrue (misses_port nest group)

-- A group that breaks the rule begins at the line.
pub record AtGroup (nest : Nest) (broken : GroupRule) (line : ℕ) : Type 0 where
  pub place : ℕ
  pub group : Group
  pub there : slice_get nest.groups place ≡ Some group
  pub at : slice_get nest.lines place ≡ Some line
  pub breaks : BreaksGroup broken nest place group

-- The nest breaks the rule at the line.
abbrev pub BreaksNest : Nest → ℕ → ℕ → Type 0
BreaksNest nest line rule =
    ((rule ≡ 27) × AtGroup nest rules.Names line)
    ⊎ ((rule ≡ 28) × AtGroup nest rules.Nesting line)
    ⊎ ((rule ≡ 29) × (AtGroup nest rules.Ports line ⊎ (IsTrue (main_misses_port nest) × (line ≡ nest.main_line))))
    ⊎ ((rule ≡ 30) × IsTooLarge nest × (line ≡ nest.main_line))

-- The least rule that the nest breaks, at the least line.
pub record IsRefusedNest (nest : Nest) (line rule : ℕ) : Type 0 where
  pub breaks : BreaksNest nest line rule
  pub least : (other by : ℕ) → BreaksNest nest other by → (rule < by) ⊎ ((rule ≡ by) × (line ≤ other))
