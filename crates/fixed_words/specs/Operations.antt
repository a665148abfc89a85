-- Word operations: the integer that each means, or its fault. All integers here are unbounded.
use Rattle.std.specs.Prelude.{ℕ, zero, ◌^◌, Bool, true, false, ℤ, pos, ◌+ℤ◌, ◌-ℤ◌, ◌*ℤ◌, neg_ℤ, unsigned_abs, if◌then◌else◌, Result, Ok, Err}
use Rattle.std.specs.Int.{int_div_euclid, int_min, int_max}
use Rattle.fixed_words.specs.Types.{is_word_of}
use Rattle.fixed_words.specs.declared.types.Ty.TheVariants.{Int64}
use Rattle.fixed_words.specs.declared.types.Fault.{Fault}
use Rattle.fixed_words.specs.declared.types.Fault.TheVariants.{Overflow, ZeroDivisor}

-- The result of an operation on words: a word, or a fault.
abbrev pub Outcome : Type 0
Outcome = Result ℤ Fault

-- An integer as a word of 64 bits; Overflow where it does not fit.
abbrev pub word_of : ℤ → Outcome
word_of exact = if is_word_of Int64 exact then Ok exact else Err Overflow

-- Whether an integer is zero.
abbrev pub is_zero : ℤ → Bool
is_zero (pos zero) = true
is_zero _ = false

-- The quotient rounded towards minus infinity, whatever the signs; the divisor b is not zero. Since a/b is ab/b², it
-- is the Euclidean quotient of ab by b². Since b² is never negative, Euclidean division by it is the floor.
abbrev pub floor_quotient : ℤ → ℤ → ℤ
floor_quotient dividend divisor = int_div_euclid (dividend *ℤ divisor) (divisor *ℤ divisor)

-- The power of ten by which a fixed-point word with this many decimals is scaled.
abbrev pub ten_to : ℕ → ℤ
ten_to decimals = pos (10 ^ decimals)

-- `+`
abbrev pub sum : ℤ → ℤ → Outcome
sum left right = word_of (left +ℤ right)

-- `-`
abbrev pub difference : ℤ → ℤ → Outcome
difference left right = word_of (left -ℤ right)

-- `*` of two integers
abbrev pub product : ℤ → ℤ → Outcome
product left right = word_of (left *ℤ right)

-- `div`: the floor of the quotient
abbrev pub quotient : ℤ → ℤ → Outcome
quotient dividend divisor =
    if is_zero divisor then Err ZeroDivisor else word_of (floor_quotient dividend divisor)

-- `mod`: the remainder of the floor of the quotient
abbrev pub remainder : ℤ → ℤ → Outcome
remainder dividend divisor =
    if is_zero divisor then Err ZeroDivisor else word_of (dividend -ℤ (divisor *ℤ floor_quotient dividend divisor))

-- `*` of two fixed-point words
abbrev pub fixed_product : ℕ → ℤ → ℤ → Outcome
fixed_product decimals left right = word_of (floor_quotient (left *ℤ right) (ten_to decimals))

-- `/` of two fixed-point words
abbrev pub fixed_quotient : ℕ → ℤ → ℤ → Outcome
fixed_quotient decimals dividend divisor =
    if is_zero divisor then Err ZeroDivisor else word_of (floor_quotient (dividend *ℤ ten_to decimals) divisor)

-- prefix `-`
abbrev pub negated : ℤ → Outcome
negated word = word_of (neg_ℤ word)

-- `abs`
abbrev pub magnitude : ℤ → Outcome
magnitude word = word_of (pos (unsigned_abs word))

-- a word with this many more decimals, and with this many fewer
abbrev pub scaled_up : ℕ → ℤ → Outcome
scaled_up decimals word = word_of (word *ℤ ten_to decimals)

abbrev pub scaled_down : ℕ → ℤ → Outcome
scaled_down decimals word = word_of (floor_quotient word (ten_to decimals))

-- `clamp`: the value, or the bound that it passes; where the low bound is above the high one, the low one
abbrev pub clamped : ℤ → ℤ → ℤ → ℤ
clamped word low high = int_max low (int_min word high)
