-- The system of a table.
use Rattle.std.specs.Prelude.{◌≡◌, [], ℕ, List, Result, Ok, Err, ⊤}
use Rattle.std.specs.Borrow.{Bor}
use Rattle.csv.specs.declared.reader.Reader.{Reader}
use Rattle.stimulus_tables.specs.TableSystems.{table_system}
use Rattle.stimulus_tables.specs.Tables.{BeginsTable, IsTable, LeavesForm}
use Rattle.stimulus_tables.specs.declared.moment.Moment.{Moment}
use Rattle.stimulus_tables.specs.Reading.{Gives}
use Rattle.stimulus_tables.specs.Records.{Fields}
use Rattle.stimulus_tables.specs.declared.fault.TableFault.{TableFault}
use Rattle.stimulus_tables.specs.declared.fault.TableFault.TheVariants as faults
use Rattle.unit_tree.specs.declared.system.System.{System}

-- The records are a table, and this is its system.
pub record IsSystemOf (records : List Fields) (system : System) : Type 0 where
  pub names : List (List ℕ)
  pub first : Moment
  pub later : List Moment
  pub is_table : IsTable records names first later
  pub is : system ≡ table_system names first later

-- A fault has the number of the record at which the records leave the form. Lack of memory says nothing of them.
abbrev pub TellsFault : List Fields → TableFault → Type 0
TellsFault records (faults.Form number) = LeavesForm records number
TellsFault records faults.NoMemory = ⊤

-- The result for records: the system of their table, or where they leave the form.
abbrev pub MakesSystem : List Fields → Result System TableFault → Type 0
MakesSystem records (Ok system) = IsSystemOf records system
MakesSystem records (Err fault) = TellsFault records fault

-- ---- Parts of the reading

-- The records begin a table, and the reader returns those that are left.
pub record BeganTable (records : List Fields) (names : List (List ℕ)) (moments : List Moment) (reader : Reader (Bor (List ℕ))) : Type 0 where
  pub left : List Fields
  pub begins : BeginsTable records names moments left
  pub gives : Gives reader left

-- The head was read.
abbrev pub ReadsHead : List Fields → Result (List (List ℕ)) TableFault → Reader (Bor (List ℕ)) → Type 0
ReadsHead records (Ok names) reader = BeganTable records names [] reader
ReadsHead records (Err fault) reader = TellsFault records fault

-- The moments were read, to the end of the records.
abbrev pub ReadsMoments : List Fields → List (List ℕ) → Result (List Moment) TableFault → Type 0
ReadsMoments records names (Ok moments) = BeginsTable records names moments []
ReadsMoments records names (Err fault) = TellsFault records fault
