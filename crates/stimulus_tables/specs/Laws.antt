-- Laws of the systems of tables.
use Rattle.std.specs.Prelude.{◌≡◌, ◌⊎◌, ℕ, ◌<◌, ⊤, List, [], ◌∷◌, map, length}
use Rattle.std.specs.List.{AllByRecursion}
use Rattle.unit_tree.specs.Orders.{HasNoCycle}
use Rattle.unit_tree.specs.Printable.{IsPrintable}
use Rattle.unit_tree.specs.Trace.{IsTraceOf}
use Rattle.unit_tree.specs.WellFormed.{IsWellFormed}
use Rattle.unit_tree.specs.declared.ending.Ending.TheVariants.{Completed}
use Rattle.stimulus_tables.specs.TableSystems.{last_time, row_at, table_system}
use Rattle.stimulus_tables.specs.Tables.{AreNames, Fields, IsMoment, IsTable, LeavesForm}
use Rattle.stimulus_tables.specs.declared.moment.Moment.{Moment}

-- The times rise from one moment to the next.
abbrev pub AreRising : Moment → List Moment → Type 0
AreRising first [] = ⊤
AreRising first (second ∷ later) = (first.time < second.time) × AreRising second later

-- The names and the moments of a table.
pub record IsStimulus (names : List (List ℕ)) (first : Moment) (later : List Moment) : Type 0 where
  pub are_names : AreNames names
  pub are_moments : AllByRecursion (IsMoment names) (first ∷ later)
  pub at_start : first.time ≡ 0
  pub rising : AreRising first later
  pub few : length later < 20

abbrev pub TablesAreStimuli : Type 0
TablesAreStimuli = (records : List Fields) (names : List (List ℕ)) (first : Moment) (later : List Moment) → IsTable records names first later
    → IsStimulus names first later

-- The system of a table is well-formed, can be printed, and has no cycle.
abbrev pub TablesAreWellFormed : Type 0
TablesAreWellFormed = (names : List (List ℕ)) (first : Moment) (later : List Moment) → IsStimulus names first later → IsWellFormed (table_system names first later)

abbrev pub TablesArePrintable : Type 0
TablesArePrintable = (names : List (List ℕ)) (first : Moment) (later : List Moment) → IsStimulus names first later → IsPrintable (table_system names first later)

abbrev pub TablesHaveNoCycle : Type 0
TablesHaveNoCycle = (names : List (List ℕ)) (first : Moment) (later : List Moment) → IsStimulus names first later → HasNoCycle (table_system names first later)

-- Its trace has a row at each time of the table, with the words that the table has for this time. It is completed at the last time.
abbrev pub TablesArePlayed : Type 0
TablesArePlayed = (names : List (List ℕ)) (first : Moment) (later : List Moment) → IsStimulus names first later
    → IsTraceOf (table_system names first later) (map (row_at first later) (first ∷ later)) (record { t = last_time first later; n = 0 }) Completed

-- Records are one table, or leave the form at one number, and not both.
pub record AreJudgedOnce (records : List Fields) : Type 0 where
  pub some : ((names : List (List ℕ)) × (first : Moment) × (later : List Moment) × IsTable records names first later) ⊎ ((number : ℕ) × LeavesForm records number)
  pub one_table : (names others : List (List ℕ)) (first one : Moment) (later more : List Moment) → IsTable records names first later → IsTable records others one more
      → (others ≡ names) × (one ≡ first) × (more ≡ later)
  pub one_number : (number other : ℕ) → LeavesForm records number → LeavesForm records other → number ≡ other
  pub not_both : (names : List (List ℕ)) (first : Moment) (later : List Moment) (number : ℕ) → IsTable records names first later → LeavesForm records number → ⊥

abbrev pub RecordsAreJudgedOnce : Type 0
RecordsAreJudgedOnce = (records : List Fields) → AreJudgedOnce records
