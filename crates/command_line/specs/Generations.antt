-- What the options of a command ask of the generator, and the system that it returns.
use Rattle.std.specs.Prelude.{ℕ, ◌*◌, Option, Some}
use Rattle.model_rules.specs.Limits.{cell_limit, instance_limit, rows_limit}
use Rattle.unit_tree.specs.declared.system.System.{System}
use Rattle.cosim_gen.specs.Generated.{CanGenerate, generated}
use Rattle.command_line.specs.Options.{◌>>=◌}
use Rattle.command_line.specs.Ranges.{required_within, within}
use Rattle.command_line.specs.declared.options.Given.{Given}

-- The seed of a generated system, its number of components, and its number of rows.
pub record Asked : Type 0 where
  pub seed : ℕ
  pub instances : ℕ
  pub rows : ℕ

-- What options ask for: any seed, 1 to 64 components and 1 to 100,000 rows, whose product is at most 1,000,000. None where one of the
-- three is missing or out of its range.
abbrev pub asked_by : Given → Option Asked
asked_by given = do
  seed ← given.seed
  instances ← required_within 1 instance_limit given.instances
  rows ← required_within 1 rows_limit given.rows
  cells ← within 1 cell_limit (rows * instances)
  Some (record { seed = seed; instances = instances; rows = rows })

-- There is such a system.
abbrev pub CanGive : Asked → Type 0
CanGive asked = CanGenerate asked.instances asked.rows

-- The system that is asked for.
unfoldable pub system_asked : Asked → System
system_asked asked = generated asked.seed asked.instances asked.rows
