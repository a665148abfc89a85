-- Value types: the kind of each type, and the words that it may hold.
use Rattle.std.specs.Prelude.{◌≤◌, ⊤, Bool, ◌&&◌, ◌-◌, ◌^◌, ℤ, pos, negsuc, int_le}
use Rattle.model_rules.specs.Limits.{decimals_limit}
use Rattle.fixed_words.specs.declared.types.Kind.{Kind}
use Rattle.fixed_words.specs.declared.types.Kind.TheVariants as kinds
use Rattle.fixed_words.specs.declared.types.Ty.{Ty}
use Rattle.fixed_words.specs.declared.types.Ty.TheVariants.{Int8, UInt8, Int16, UInt16, Int32, UInt32, Int64, Fixed}
use Rattle.fixed_words.specs.declared.types.Ty.TheVariants as types

-- The kind of a type's values: Int for all integer types.
abbrev pub kind_of : Ty → Kind
kind_of types.Bool = kinds.Bool
kind_of (Fixed decimals) = kinds.Fixed decimals
kind_of _ = kinds.Int

-- The lowest and the highest word of a type.
abbrev pub lowest : Ty → ℤ
lowest Int8 = negsuc (2 ^ 7 - 1)
lowest Int16 = negsuc (2 ^ 15 - 1)
lowest Int32 = negsuc (2 ^ 31 - 1)
lowest Int64 = negsuc (2 ^ 63 - 1)
lowest (Fixed decimals) = negsuc (2 ^ 63 - 1)
lowest _ = pos 0

abbrev pub highest : Ty → ℤ
highest Int8 = pos (2 ^ 7 - 1)
highest UInt8 = pos (2 ^ 8 - 1)
highest Int16 = pos (2 ^ 15 - 1)
highest UInt16 = pos (2 ^ 16 - 1)
highest Int32 = pos (2 ^ 31 - 1)
highest UInt32 = pos (2 ^ 32 - 1)
highest Int64 = pos (2 ^ 63 - 1)
highest types.Bool = pos 1
highest (Fixed decimals) = pos (2 ^ 63 - 1)

-- An integer is between two others, both ends allowed.
abbrev pub is_between : ℤ → ℤ → ℤ → Bool
is_between low high word = int_le low word && int_le word high

-- A word is one of the type's.
abbrev pub is_word_of : Ty → ℤ → Bool
is_word_of ty word = is_between (lowest ty) (highest ty) word

-- The decimals of a fixed-point type are at most 9.
abbrev pub AreDecimals : Ty → Type 0
AreDecimals (Fixed decimals) = decimals ≤ decimals_limit
AreDecimals _ = ⊤
