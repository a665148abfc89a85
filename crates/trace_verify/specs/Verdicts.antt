-- The verdict on a table that should have the records of another one.
use Rattle.std.specs.Prelude.{◌≡◌, ◌≢◌, ℕ, suc, ◌-◌, ◌≤◌, List, [], ◌∷◌, take, slice_get, Option, Some, None, if◌then◌else◌}
use Rattle.std.specs.Str.{bytes_eq}
use Rattle.stimulus_tables.specs.Records.{Fields}
use Rattle.trace_verify.specs.declared.verdict.Verdict.{Verdict}
use Rattle.trace_verify.specs.declared.verdict.Verdict.TheVariants.{Yes, No}

-- ---- The verdict

-- The number of the first field that differs, or that only one of two records has. Their first fields have this number.
abbrev pub column_from : ℕ → Fields → Fields → Option ℕ
column_from number [] [] = None
column_from number (one ∷ ones) (other ∷ others) = if bytes_eq one other then column_from (suc number) ones others else Some number
column_from number _ _ = Some number

-- Where two records of this number differ, that is the verdict, and otherwise the verdict on the later ones.
abbrev pub verdict_by : ℕ → Option ℕ → Verdict → Verdict
verdict_by number None later = later
verdict_by number (Some column) later = No number column

-- The verdict on records, the first of which has this number. Where a record is missing, the column is 1.
abbrev pub verdict_from : ℕ → List Fields → List Fields → Verdict
verdict_from number [] [] = Yes
verdict_from number (one ∷ ones) (other ∷ others) = verdict_by number (column_from 1 one other) (verdict_from (suc number) ones others)
verdict_from number _ _ = No number 1

-- The verdict on the records of a table that should be these. Records and fields are numbered from 1.
abbrev pub verdict_of : List Fields → List Fields → Verdict
verdict_of wanted given = verdict_from 1 wanted given

-- ---- What a verdict says

-- The number, from 1, of the first element that differs, or that only one of two lists has.
pub record PartAt {A : Type 0} (ones others : List A) (number : ℕ) : Type 0 where
  pub counted : 1 ≤ number
  pub same_before : take (number - 1) ones ≡ take (number - 1) others
  pub apart : slice_get ones (number - 1) ≢ slice_get others (number - 1)

-- The column of two records, of which one may be missing.
abbrev pub IsColumnOf : Option Fields → Option Fields → ℕ → Type 0
IsColumnOf (Some one) (Some other) column = PartAt one other column
IsColumnOf _ _ column = column ≡ 1

-- The verdict is right: where it is `yes`, the records are the required ones. Otherwise it has the first record that differs, and
-- the first such field of it.
abbrev pub IsRight : List Fields → List Fields → Verdict → Type 0
IsRight wanted given Yes = given ≡ wanted
IsRight wanted given (No number column) =
    PartAt wanted given number × IsColumnOf (slice_get wanted (number - 1)) (slice_get given (number - 1)) column
