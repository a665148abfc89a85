-- The verdict on records is right.
use Rattle.std.proofs.Common.{◌≡◌, ◌≢◌, ℕ, suc, ◌+◌, ◌-◌, Bool, true, false, List, [], ◌∷◌, take, Option, Some, None, refl, ap, ap₂, sym, subst, arith}
use Rattle.std.specs.Prelude.{slice_get, if◌then◌else◌}
use Rattle.std.specs.Str.{bytes_eq}
use Rattle.std.proofs.lemmas.Slice.Eq.{bytes_eq-Decides}
use Rattle.list_laws.proofs.Truths.{true_is_false}
use Rattle.trace_verify.specs.Verdicts.{column_from, verdict_by, verdict_from, verdict_of, PartAt, IsColumnOf, IsRight}
use Rattle.stimulus_tables.specs.Records.{Fields}
use Rattle.trace_verify.specs.declared.verdict.Verdict.{Verdict}
use Rattle.trace_verify.specs.declared.verdict.Verdict.TheVariants.{Yes, No}

-- Two lists, whose first elements have this number, first differ at the element with this other number.
pub record PartFrom {A : Type 0} (first : ℕ) (ones others : List A) (number : ℕ) : Type 0 where
  pub place : ℕ
  pub is : number ≡ first + place
  pub same_before : take place ones ≡ take place others
  pub apart : slice_get ones place ≢ slice_get others place

later : {A : Type 0} (first : ℕ) (x y : A) (xs ys : List A) (number : ℕ) → x ≡ y → PartFrom (suc first) xs ys number → PartFrom first (x ∷ xs) (y ∷ ys) number
later first x y xs ys number same part = record {
  place = suc part.place;
  is = omega (arith, part.is);
  same_before = ap₂ (λ z zs. z ∷ zs) same part.same_before;
  apart = part.apart;
}

at_once : {A : Type 0} (first : ℕ) (ones others : List A) → slice_get ones 0 ≢ slice_get others 0 → PartFrom first ones others first
at_once first ones others apart = record { place = 0; is = omega arith; same_before = refl; apart = apart }

parts : {A : Type 0} (ones others : List A) (number : ℕ) → PartFrom 1 ones others number → PartAt ones others number
parts ones others number part =
    let place : part.place ≡ number - 1 = omega (arith, part.is) in
    record {
      counted = omega (arith, part.is);
      same_before = subst (λ k. take k ones ≡ take k others) place part.same_before;
      apart = subst (λ k. slice_get ones k ≢ slice_get others k) place part.apart;
    }

-- ---- Columns

abbrev pub ColumnTold : ℕ → Fields → Fields → Option ℕ → Type 0
ColumnTold first ones others None = others ≡ ones
ColumnTold first ones others (Some column) = PartFrom first ones others column

column_later : (first : ℕ) (x y : List ℕ) (xs ys : Fields) (told : Option ℕ) → x ≡ y → ColumnTold (suc first) xs ys told → ColumnTold first (x ∷ xs) (y ∷ ys) told
column_later first x y xs ys None same told = ap₂ (λ z zs. z ∷ zs) (sym same) told
column_later first x y xs ys (Some column) same told = later first x y xs ys column same told

column_by : (first : ℕ) (x y : List ℕ) (xs ys : Fields) (same : Bool) → bytes_eq x y ≡ same → ColumnTold (suc first) xs ys (column_from (suc first) xs ys)
    → ColumnTold first (x ∷ xs) (y ∷ ys) (if same then column_from (suc first) xs ys else Some first)
column_by first x y xs ys true is told = column_later first x y xs ys (column_from (suc first) xs ys) ((bytes_eq-Decides x y).0 is) told
column_by first x y xs ys false is told =
    at_once first (x ∷ xs) (y ∷ ys) (λ same. true_is_false (bytes_eq x y) ((bytes_eq-Decides x y).1 (inside same)) is)
  where
    inside : {A : Type 0} {a b : A} → Some a ≡ Some b → a ≡ b
    inside same = cc same

pub column_told : (first : ℕ) (ones others : Fields) → ColumnTold first ones others (column_from first ones others)
column_told first [] [] = refl
column_told first [] (y ∷ ys) = at_once first [] (y ∷ ys) (λ same. cc same)
column_told first (x ∷ xs) [] = at_once first (x ∷ xs) [] (λ same. cc same)
column_told first (x ∷ xs) (y ∷ ys) = column_by first x y xs ys (bytes_eq x y) refl (column_told (suc first) xs ys)

-- ---- Records

abbrev VerdictTold : ℕ → List Fields → List Fields → Verdict → Type 0
VerdictTold first wanted given Yes = given ≡ wanted
VerdictTold first wanted given (No number column) =
    (part : PartFrom first wanted given number) × IsColumnOf (slice_get wanted part.place) (slice_get given part.place) column

verdict_later : (first : ℕ) (x y : Fields) (xs ys : List Fields) (told : Verdict) → x ≡ y → VerdictTold (suc first) xs ys told → VerdictTold first (x ∷ xs) (y ∷ ys) told
unfolding later
verdict_later first x y xs ys Yes same told = ap₂ (λ z zs. z ∷ zs) (sym same) told
verdict_later first x y xs ys (No number column) same told = (later first x y xs ys number same told.0, told.1)

verdict_told_by : (first : ℕ) (x y : Fields) (xs ys : List Fields) (column : Option ℕ) → ColumnTold 1 x y column
    → VerdictTold (suc first) xs ys (verdict_from (suc first) xs ys) → VerdictTold first (x ∷ xs) (y ∷ ys) (verdict_by first column (verdict_from (suc first) xs ys))
unfolding at_once
verdict_told_by first x y xs ys None same told = verdict_later first x y xs ys (verdict_from (suc first) xs ys) (sym same) told
verdict_told_by first x y xs ys (Some column) part told =
    (at_once first (x ∷ xs) (y ∷ ys) (λ same. differ (inside same)), parts x y column part)
  where
    inside : {A : Type 0} {a b : A} → Some a ≡ Some b → a ≡ b
    inside same = cc same

    differ : x ≡ y → ⊥
    differ same = part.apart (ap (λ fields. slice_get fields part.place) same)

verdict_told : (first : ℕ) (wanted given : List Fields) → VerdictTold first wanted given (verdict_from first wanted given)
unfolding at_once
verdict_told first [] [] = refl
verdict_told first [] (y ∷ ys) = (at_once first [] (y ∷ ys) (λ same. cc same), refl)
verdict_told first (x ∷ xs) [] = (at_once first (x ∷ xs) [] (λ same. cc same), refl)
verdict_told first (x ∷ xs) (y ∷ ys) = verdict_told_by first x y xs ys (column_from 1 x y) (column_told 1 x y) (verdict_told (suc first) xs ys)

right : (wanted given : List Fields) (verdict : Verdict) → VerdictTold 1 wanted given verdict → IsRight wanted given verdict
right wanted given Yes told = told
right wanted given (No number column) told =
    let place : told.0.place ≡ number - 1 = omega (arith, told.0.is) in (
      parts wanted given number told.0,
      subst (λ k. IsColumnOf (slice_get wanted k) (slice_get given k) column) place told.1,
    )

pub verdict_right : (wanted given : List Fields) → IsRight wanted given (verdict_of wanted given)
verdict_right wanted given = right wanted given (verdict_of wanted given) (verdict_told 1 wanted given)
