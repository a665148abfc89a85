-- How a word is written.
use Rattle.std.specs.Prelude.{ℕ, zero, ◌+◌, ◌-◌, Bool, true, false, ℤ, pos, unsigned_abs, List, [], ◌++◌, length, take, drop, replicate, codes, if◌then◌else◌}
use Rattle.std.specs.Int.{is_negative}
use Rattle.std.specs.Fmt.{decimal, signed_decimal}
use Rattle.fixed_words.specs.Digits.{pointed}
use Rattle.fixed_words.specs.declared.types.Ty.{Ty}
use Rattle.fixed_words.specs.declared.types.Ty.TheVariants.{Fixed}
use Rattle.fixed_words.specs.declared.types.Ty.TheVariants as types

-- `-` for a negative word, and nothing for any other.
abbrev pub sign_text : Bool → List ℕ
sign_text negative = if negative then codes "-" else []

-- `true` or `false`.
abbrev pub truth_text : Bool → List ℕ
truth_text told = if told then codes "true" else codes "false"

-- Digits with zeros before them, so that there is at least one digit more than decimals.
abbrev pub padded : ℕ → List ℕ → List ℕ
padded decimals digits = replicate (decimals + 1 - length digits) 48 ++ digits

-- Digits with a point before the last of them, which are the decimals; without decimals no point.
abbrev pub pointed_before : ℕ → List ℕ → List ℕ
pointed_before decimals digits =
    take (length digits - decimals) digits ++ pointed (drop (length digits - decimals) digits)

-- A magnitude with this many decimals: its padded digits, with the point before the decimals.
abbrev pub fixed_text : ℕ → ℕ → List ℕ
fixed_text decimals magnitude = pointed_before decimals (padded decimals (decimal magnitude))

-- The text of a word of the type: `true` or `false`; an integer in decimal; fixed point with exactly its
-- decimals. A negative word begins with `-`.
abbrev pub text_of : Ty → ℤ → List ℕ
text_of types.Bool (pos zero) = truth_text false
text_of types.Bool _ = truth_text true
text_of (Fixed decimals) word = sign_text (is_negative word) ++ fixed_text decimals (unsigned_abs word)
text_of _ word = signed_decimal word
