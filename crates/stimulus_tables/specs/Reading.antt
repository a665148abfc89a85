-- A reader of `csv` that reads the records of a table one after the other.
use Rattle.std.specs.Prelude.{◌≡◌, ℕ, ◌+◌, Bool, true, false, List, [], ◌∷◌, length, Some, ⊤}
use Rattle.std.specs.Borrow.{Bor}
use Rattle.csv.specs.Reading.{Ready, default_config, is_flexible, reader_config, reader_state, reader_trim, records_from, source_of}
use Rattle.csv.specs.declared.parser.State.{State}
use Rattle.csv.specs.declared.parser.State.TheVariants as state
use Rattle.csv.specs.declared.reader.Reader.{Reader}
use Rattle.csv.specs.declared.reader.Trim.TheVariants as trim
use Rattle.stimulus_tables.specs.Records.{Fields}

-- The state of `csv` between two records.
abbrev pub IsBetween : State → Type 0
IsBetween state.StartRecord = ⊤
IsBetween state.AfterCr = ⊤
IsBetween _ = ⊥

-- The records that a reader returns from a state and the bytes that are left.
abbrev pub records_behind : State → List ℕ → List Fields
records_behind at bytes = records_from default_config (length bytes + 1) at bytes

-- The reader returns these records, and is between two of them.
pub record Gives (reader : Reader (Bor (List ℕ))) (rest : List Fields) : Type 0 where
  pub untrimmed : reader_trim reader ≡ trim.None
  pub ready : Ready reader
  pub config : reader_config reader ≡ default_config
  pub flexible : is_flexible reader ≡ true
  pub between : IsBetween (reader_state reader)
  pub bytes : List ℕ
  pub source : source_of (λ (s : Bor (List ℕ)). Some s.now) reader ≡ Some bytes
  pub rest_is : rest ≡ records_behind (reader_state reader) bytes

-- A read returned the first of the records that were left, or that there was none.
abbrev pub Took : List Fields → Bool → Fields → Reader (Bor (List ℕ)) → Type 0
Took rest true fields reader = (others : List Fields) × (rest ≡ fields ∷ others) × Gives reader others
Took rest false fields reader = rest ≡ []
