-- The records of a table.
use Rattle.std.specs.Prelude.{ℕ, List}
use Rattle.csv.specs.Reading.{default_config, records, strip_bom}

-- A record is a list of fields, each of which is a list of bytes.
abbrev pub Fields : Type 0
Fields = List (List ℕ)

-- The records of a table, as `csv` reads them after a byte order mark at its beginning.
abbrev pub records_of : List ℕ → List Fields
records_of table = records default_config (strip_bom table)
