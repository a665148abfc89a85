-- Lines of a trace as records of a table.
use Rattle.std.specs.Prelude.{◌≡◌, ℕ, ◌≤◌, ◌==◌, ◌||◌, Bool, false, not, List, [], ◌∷◌, ◌++◌, length, take, drop, Option, Some, None}
use Rattle.std.specs.List.{AllByRecursion, flat_map, join_with_byte, prefix_len, slice_split}
use Rattle.std.specs.Str.{bytes_eq}
use Rattle.stimulus_tables.specs.Records.{Fields}

-- A line of fields: joined by commas, ended by LF.
abbrev pub line_of : Fields → List ℕ
line_of fields = join_with_byte 44 fields ++ 10 ∷ []

-- A byte that matters in CSV: a comma, a quote, CR or LF.
abbrev pub is_special : ℕ → Bool
is_special byte = (byte == 44) || ((byte == 34) || ((byte == 13) || (byte == 10)))

-- A field without such bytes.
abbrev pub IsPlain : List ℕ → Type 0
IsPlain field = AllByRecursion (λ byte. is_special byte ≡ false) field

-- The fields of a line of a trace: at least two, and none has such bytes.
pub record IsTraceLine (fields : Fields) : Type 0 where
  pub plain : AllByRecursion IsPlain fields
  pub two : 2 ≤ length fields

-- The lines of fields, one after the other.
abbrev pub lines_text : List Fields → List ℕ
lines_text lines = flat_map line_of lines

-- The fields of a line: the bytes between its commas.
abbrev pub fields_between : List ℕ → Fields
fields_between line = slice_split (λ byte. byte == 44) line

-- ---- Fields of a line, one after the other

-- Whether a byte belongs to a field: it is not a comma.
abbrev pub is_inside : ℕ → Bool
is_inside byte = not (byte == 44)

-- The bytes up to the first comma.
abbrev pub first_field : List ℕ → List ℕ
first_field line = take (prefix_len is_inside line) line

-- The bytes after a comma, where the first byte is one.
abbrev pub behind_comma : List ℕ → Option (List ℕ)
behind_comma [] = None
behind_comma (comma ∷ more) = Some more

-- The bytes after the first comma, where there is one.
abbrev pub other_fields : List ℕ → Option (List ℕ)
other_fields line = behind_comma (drop (prefix_len is_inside line) line)

-- Whether the first of some fields is this one.
abbrev pub is_next : List ℕ → Fields → Bool
is_next piece [] = false
is_next piece (field ∷ fields) = bytes_eq piece field
