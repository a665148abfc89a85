-- Verdicts on tables, worked out by hand.
use Rattle.std.specs.Prelude.{◌≡◌, List, [], ◌∷◌, codes}
use Rattle.stimulus_tables.specs.Records.{Fields}
use Rattle.trace_verify.specs.Verdicts.{verdict_of}
use Rattle.trace_verify.specs.declared.verdict.Verdict.TheVariants.{Yes, No}

-- The records of a trace with two rows.
abbrev pub head : Fields
head = codes "time" ∷ codes "index" ∷ codes "a.y" ∷ []

abbrev pub row : Fields
row = codes "0" ∷ codes "0" ∷ codes "7" ∷ []

abbrev pub last_row : Fields
last_row = codes "5" ∷ codes "0" ∷ codes "-7" ∷ []

abbrev pub trace : List Fields
trace = head ∷ row ∷ last_row ∷ []

pub record VerdictsAreWorked : Type 0 where
  -- The same records.
  pub same : verdict_of trace trace ≡ Yes
  -- The third field of the second record is another one.
  pub other_field : verdict_of trace (head ∷ (codes "0" ∷ codes "0" ∷ codes "8" ∷ []) ∷ last_row ∷ []) ≡ No 2 3
  -- Two records differ: the first of them counts.
  pub first_of_two : verdict_of trace (head ∷ (codes "0" ∷ codes "1" ∷ codes "8" ∷ []) ∷ row ∷ []) ≡ No 2 2
  -- The last record has a field too few, or one too many.
  pub short_record : verdict_of trace (head ∷ row ∷ (codes "5" ∷ codes "0" ∷ []) ∷ []) ≡ No 3 3
  pub long_record : verdict_of trace (head ∷ row ∷ (codes "5" ∷ codes "0" ∷ codes "-7" ∷ codes "" ∷ []) ∷ []) ≡ No 3 4
  -- The last record is missing, or there is one more.
  pub short_table : verdict_of trace (head ∷ row ∷ []) ≡ No 3 1
  pub long_table : verdict_of trace (head ∷ row ∷ last_row ∷ last_row ∷ []) ≡ No 4 1
  pub empty_table : verdict_of trace [] ≡ No 1 1
