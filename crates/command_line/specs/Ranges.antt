-- What the row of a command requires of the numbers of its options: a range, that one is given, and a default where one may be left
-- out.
use Rattle.std.specs.Prelude.{ℕ, ◌&&◌, nat_le, Option, Some, None, if◌then◌else◌}
use Rattle.std.specs.Option.{option_and_then, unwrap_or}

-- The number, where it is from the least to the greatest, both included.
abbrev pub within : ℕ → ℕ → ℕ → Option ℕ
within least greatest number = if nat_le least number && nat_le number greatest then Some number else None

-- The number of a required option. None where it is missing or out of the range.
abbrev pub required_within : ℕ → ℕ → Option ℕ → Option ℕ
required_within least greatest given = option_and_then (within least greatest) given

-- The number of an option, or its default where it is left out. None where the number is out of the range.
abbrev pub within_or : ℕ → ℕ → ℕ → Option ℕ → Option ℕ
within_or least greatest default given = within least greatest (unwrap_or given default)
