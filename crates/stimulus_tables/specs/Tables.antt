-- Tables of stimulus: which records are one, and where others leave the form.
use Rattle.std.specs.Prelude.{◌≡◌, ◌≢◌, ◌⊎◌, ⊤, ℕ, ◌+◌, ◌<◌, ◌≤◌, ◌^◌, unsigned_abs, List, [], ◌∷◌, ◌++◌, map, length, codes}
use Rattle.std.specs.Fmt.{decimal, signed_decimal}
use Rattle.std.specs.List.{AllByRecursion}
use Rattle.stimulus_tables.specs.declared.moment.Moment.{Moment}
use Rattle.unit_tree.specs.Tokens.{IsName}

-- A record is a list of fields.
abbrev pub Fields : Type 0
Fields = List (List ℕ)

-- ---- The head

-- The name of a state, by its number from 0.
abbrev pub state_name : ℕ → List ℕ
state_name number = codes "s" ++ decimal number

-- The names of 16 states are reserved, for any number of columns.
abbrev pub IsTaken : List ℕ → Type 0
IsTaken name = (number : ℕ) × (number < 16) × (name ≡ state_name number)

-- No two of the names are the same.
abbrev pub AllDiffer : List (List ℕ) → Type 0
AllDiffer [] = ⊤
AllDiffer (name ∷ names) = AllByRecursion (λ other. name ≢ other) names × AllDiffer names

-- The names of columns: one to 16 names of the language, which differ and are not reserved.
pub record AreNames (names : List (List ℕ)) : Type 0 where
  pub some : 1 ≤ length names
  pub few : length names ≤ 16
  pub are_names : AllByRecursion IsName names
  pub not_taken : AllByRecursion (λ name. IsTaken name → ⊥) names
  pub differ : AllDiffer names

-- The head is the field `time`, and the names.
abbrev pub IsHead : Fields → List (List ℕ) → Type 0
IsHead fields names = (fields ≡ codes "time" ∷ names) × AreNames names

-- ---- Moments

-- The fields of a moment: its time in seconds, and the word of each column from then on, as decimal numbers without needless zeros or
-- signs.
abbrev pub fields_of_moment : Moment → Fields
fields_of_moment moment = decimal moment.time ∷ map signed_decimal moment.words

-- The numbers of a moment are not too large.
pub record IsWritable (moment : Moment) : Type 0 where
  pub time : moment.time ≤ 10 ^ 9
  pub words : AllByRecursion (λ word. unsigned_abs word ≤ 10 ^ 15) moment.words

-- A moment has a word for each name, and its numbers are not too large.
pub record IsMoment (names : List (List ℕ)) (moment : Moment) : Type 0 where
  pub one_each : length moment.words ≡ length names
  pub writable : IsWritable moment

-- The time is greater than that of the last of some moments, and it is 0 where there are none.
abbrev pub IsNextTime : List Moment → ℕ → Type 0
IsNextTime [] time = time ≡ 0
IsNextTime (last ∷ []) time = last.time < time
IsNextTime (moment ∷ next ∷ later) time = IsNextTime (next ∷ later) time

-- The record is that of a moment which may follow these: there are fewer than 20 before it, and its time is greater than theirs.
pub record MayFollow (names : List (List ℕ)) (before : List Moment) (fields : Fields) (moment : Moment) : Type 0 where
  pub few : length before < 20
  pub written : fields ≡ fields_of_moment moment
  pub is_moment : IsMoment names moment
  pub next_time : IsNextTime before moment.time

-- ---- Tables

-- The records are those of moments, of which each may follow those before it.
abbrev pub Follow : List (List ℕ) → List Moment → List Fields → List Moment → Type 0
Follow names before [] [] = ⊤
Follow names before (fields ∷ records) (moment ∷ moments) = MayFollow names before fields moment × Follow names (before ++ (moment ∷ [])) records moments
Follow names before _ _ = ⊥

-- Some records begin with a head with these names and the records of these moments; these others are left.
pub record BeginsTable (records : List Fields) (names : List (List ℕ)) (moments : List Moment) (left : List Fields) : Type 0 where
  pub head : Fields
  pub front : List Fields
  pub cut : records ≡ head ∷ front ++ left
  pub is_head : IsHead head names
  pub follow : Follow names [] front moments

-- The records are a table: a head, and one to 20 moments.
abbrev pub IsTable : List Fields → List (List ℕ) → Moment → List Moment → Type 0
IsTable records names first later = BeginsTable records names (first ∷ later) []

-- ---- Where records leave the form

-- The first record is not a head, or there is none.
abbrev pub LacksHead : List Fields → Type 0
LacksHead [] = ⊤
LacksHead (fields ∷ records) = (names : List (List ℕ)) → IsHead fields names → ⊥

-- After these moments the next record is not one of a moment that may follow, or there is no record and no moment yet.
abbrev pub LacksMoment : List (List ℕ) → List Moment → List Fields → Type 0
LacksMoment names moments (fields ∷ records) = (moment : Moment) → MayFollow names moments fields moment → ⊥
LacksMoment names [] [] = ⊤
LacksMoment names (moment ∷ moments) [] = ⊥

-- The record after the head and these moments leaves the form.
pub record LeavesBehind (records : List Fields) (number : ℕ) : Type 0 where
  pub names : List (List ℕ)
  pub moments : List Moment
  pub left : List Fields
  pub begins : BeginsTable records names moments left
  pub lacks : LacksMoment names moments left
  pub number_is : number ≡ 2 + length moments

-- The records leave the form at this number, from 1: this record is missing or doesn't have the form.
abbrev pub LeavesForm : List Fields → ℕ → Type 0
LeavesForm records number = (LacksHead records × (number ≡ 1)) ⊎ LeavesBehind records number
