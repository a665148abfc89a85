-- A sink that compares written lines with the records of a table.
use Rattle.std.specs.Prelude.{◌≡◌, ◌⊎◌, ℕ, suc, ◌-◌, ◌≤◌, ◌==◌, Bool, true, false, List, [], ◌∷◌, ◌++◌, length, map, take, drop, ⊤}
use Rattle.std.specs.Borrow.{Bor}
use Rattle.std.specs.List.{AllByRecursion, join_with_byte}
use Rattle.csv.specs.declared.reader.Reader.{Reader}
use Rattle.stimulus_tables.specs.Reading.{Gives}
use Rattle.trace_verify.specs.TraceLines.{fields_between, lines_text}
use Rattle.trace_verify.specs.Verdicts.{verdict_from}
use Rattle.stimulus_tables.specs.Records.{Fields, records_of}
use Rattle.trace_verify.specs.declared.compare.Comparison.TheInside.{Inside}
use Rattle.trace_verify.specs.declared.compare.ComparisonState.{ComparisonState}
use Rattle.trace_verify.specs.declared.compare.ComparisonState.TheVariants as course
use Rattle.trace_verify.specs.declared.verdict.Verdict.TheVariants.{No}

-- What contracts see of a comparison: the table, the number of the next record, from 1, and the written part of the line that is
-- compared with it, without its end. Also the state of the comparison, and the count of failed writes.
pub record Compared : Type 0 where
  pub table : List ℕ
  pub number : ℕ
  pub line : List ℕ
  pub course : ComparisonState
  pub faults : ℕ

-- The end of the line that differs from its record: it was written.
abbrev pub end_put : ComparisonState → List ℕ
end_put (course.Differs column) = 10 ∷ []
end_put _ = []

-- What was written: the lines of the records that are the same, and then the written part of the next line. So it is known without
-- being kept.
abbrev pub text_put : Compared → List ℕ
text_put c = lines_text (take (c.number - 1) (records_of c.table)) ++ (c.line ++ end_put c.course)

-- A text with a mark at its end, so that its end is known, whatever comes after it.
abbrev pub marked : List ℕ → List ℕ
marked text = map suc text ++ (0 ∷ [])

-- The contents of the sink for contracts: the table, and then what was written. So a caller that lends the sink and gets it back
-- knows that it still has this table.
abbrev pub all_held : Compared → List ℕ
all_held c = marked c.table ++ text_put c

abbrev pub HasNoFeed : List ℕ → Type 0
HasNoFeed bytes = AllByRecursion (λ byte. (byte == 10) ≡ false) bytes

-- The fields are those between the commas of a line without LF.
pub record IsOneLine (fields : Fields) : Type 0 where
  pub unended : HasNoFeed (join_with_byte 44 fields)
  pub is_cut : fields_between (join_with_byte 44 fields) ≡ fields

-- A line is the first of some records, and the reader returns the others; or it differs. Then the verdict is this for any lines that
-- follow and any number of the record.
abbrev pub IsJudged : List Fields → List ℕ → Reader (Bor (List ℕ)) → ComparisonState → Type 0
IsJudged rest line reader course.Same = (others : List Fields) × (rest ≡ fields_between line ∷ others) × Gives reader others
IsJudged rest line reader (course.Differs column) =
    (number : ℕ) (more : List Fields) → verdict_from number (fields_between line ∷ more) rest ≡ No number column
IsJudged rest line reader course.NoMemory = ⊤

-- As long as all is the same, the reader returns the next records. Where a line differs, that is the verdict.
abbrev pub IsCourse : List Fields → List ℕ → Reader (Bor (List ℕ)) → ComparisonState → Type 0
IsCourse rest line reader course.Same = Gives reader rest
IsCourse rest line reader told = IsJudged rest line reader told

-- The invariant of a comparison.
pub record IsKept (records : List Fields) (number : ℕ) (line : List ℕ) (told : ComparisonState) (reader : Reader (Bor (List ℕ))) : Type 0 where
  pub counted : 1 ≤ number
  pub within : number - 1 ≤ length records
  pub cut : AllByRecursion IsOneLine (take (number - 1) records)
  pub unended : HasNoFeed line
  pub course : IsCourse (drop (number - 1) records) line reader told

abbrev pub compared : Inside → Compared
compared inside = record {
  table = inside.table.now;
  number = inside.number;
  line = inside.line.items;
  course = inside.course;
  faults = inside.faults;
}

abbrev pub IsComparison : Inside → Type 0
IsComparison inside = IsKept (records_of inside.table.now) inside.number inside.line.items inside.course inside.reader

-- A comparison to which nothing was written.
abbrev pub begun : List ℕ → Compared
begun table = record { table = table; number = 1; line = []; course = course.Same; faults = 0 }

abbrev pub goes_on : ComparisonState → Bool
goes_on course.Same = true
goes_on _ = false

-- A byte was written after the others. If the comparison is over, the byte was written or not.
pub record PutsByte (old new : Compared) (byte : ℕ) (goes_on : Bool) : Type 0 where
  pub faults : new.faults ≡ old.faults
  pub whole : goes_on ≡ true → all_held new ≡ all_held old ++ (byte ∷ [])
  pub over : goes_on ≡ false → (all_held new ≡ all_held old) ⊎ (all_held new ≡ all_held old ++ (byte ∷ []))

-- The text is the other one or, where it is not complete, a prefix of it.
abbrev pub Begins : Bool → List ℕ → List ℕ → Type 0
Begins true text whole = text ≡ whole
Begins false text whole = (count : ℕ) × (text ≡ take count whole)
