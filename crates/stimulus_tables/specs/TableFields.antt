-- The meaning of the fields of a table of stimulus.
use Rattle.std.specs.Prelude.{◌≡◌, ◌≢◌, ℕ, ◌<◌, ◌≤◌, ◌^◌, ◌==◌, true, if◌then◌else◌, ℤ, unsigned_abs, List, [], ◌∷◌, map, length, decimal, Option, Some, None}
use Rattle.std.specs.Fmt.{signed_decimal}
use Rattle.std.specs.List.{AllByRecursion}
use Rattle.fixed_words.specs.Types.{is_word_of}
use Rattle.fixed_words.specs.declared.types.Ty.TheVariants.{Int64}
use Rattle.stimulus_tables.specs.Tables.{IsTaken, IsWritable, fields_of_moment}
use Rattle.unit_tree.specs.Tokens.{IsName}
use Rattle.stimulus_tables.specs.declared.moment.Moment.{Moment}
use Rattle.stimulus_tables.specs.Records.{Fields}

-- The bytes are the text of a word; of a time; of an entry.
abbrev pub IsWordText : List ℕ → ℤ → Type 0
IsWordText bytes word = (is_word_of Int64 word ≡ true) × (bytes ≡ signed_decimal word)

abbrev pub IsTimeText : List ℕ → ℕ → Type 0
IsTimeText bytes time = (time ≤ 10 ^ 9) × (bytes ≡ decimal time)

abbrev pub IsEntryText : List ℕ → ℤ → Type 0
IsEntryText bytes word = (unsigned_abs word ≤ 10 ^ 15) × (bytes ≡ signed_decimal word)

-- The fields are the texts of entries.
abbrev pub AreEntries : Fields → List ℤ → Type 0
AreEntries fields words = (fields ≡ map signed_decimal words) × AllByRecursion (λ word. unsigned_abs word ≤ 10 ^ 15) words

-- The fields are those of a moment with so many words.
pub record IsMomentOf (count : ℕ) (fields : Fields) (moment : Moment) : Type 0 where
  pub written : fields ≡ fields_of_moment moment
  pub many : length moment.words ≡ count
  pub writable : IsWritable moment

-- A head may have the name after these.
pub record IsNextName (before : List (List ℕ)) (name : List ℕ) : Type 0 where
  pub few : length before < 16
  pub is_name : IsName name
  pub not_taken : IsTaken name → ⊥
  pub fresh : AllByRecursion (λ other. other ≢ name) before

-- The bytes after an `s`, where the first byte is one.
abbrev pub behind_s : List ℕ → Option (List ℕ)
behind_s [] = None
behind_s (first ∷ digits) = if first == 115 then Some digits else None
