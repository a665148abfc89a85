-- Literals: how one is spelled, and its word as a value of a type.
use Rattle.std.specs.Prelude.{◌≡◌, ℕ, zero, ◌-◌, ℤ, pos, ◌*ℤ◌, neg_ℤ, Bool, true, false, if◌then◌else◌, IsTrue, nat_le, List, ◌++◌, Result, Ok, Err}
use Rattle.fixed_words.specs.Digits.{IsNumber}
use Rattle.fixed_words.specs.Texts.{sign_text, truth_text}
use Rattle.fixed_words.specs.Types.{is_word_of}
use Rattle.fixed_words.specs.Operations.{ten_to}
use Rattle.fixed_words.specs.declared.types.Ty.{Ty}
use Rattle.fixed_words.specs.declared.types.Ty.TheVariants.{Fixed, Int64}
use Rattle.fixed_words.specs.declared.types.Ty.TheVariants as types
use Rattle.fixed_words.specs.declared.types.Literal.{Literal}
use Rattle.fixed_words.specs.declared.types.Literal.TheVariants.{Truth, Number}
use Rattle.fixed_words.specs.declared.types.LiteralFault.{LiteralFault}
use Rattle.fixed_words.specs.declared.types.LiteralFault.TheVariants.{Form, Range}

-- A number, made negative where there is a sign.
abbrev pub with_sign : Bool → ℕ → ℤ
with_sign negative number = if negative then neg_ℤ (pos number) else pos number

-- A number, which may have a `-` directly before it, and the word of all its digits, which fits 64 bits.
pub record IsSignedNumber (word : ℤ) (decimals : ℕ) (text : List ℕ) : Type 0 where
  pub negative : Bool
  pub digits : ℕ
  pub number : List ℕ
  pub spelled : text ≡ sign_text negative ++ number
  pub is_number : IsNumber digits decimals number
  pub value : with_sign negative digits ≡ word
  pub fits : IsTrue (is_word_of Int64 word)

-- The text spells the literal: `true`, `false`, or a number with the literal's word and count of decimals.
abbrev pub IsLiteralText : List ℕ → Literal → Type 0
IsLiteralText text (Truth told) = text ≡ truth_text told
IsLiteralText text (Number word decimals) = IsSignedNumber word decimals text

-- The word of a truth value.
abbrev pub word_of_truth : Bool → ℤ
word_of_truth true = pos 1
word_of_truth false = pos 0

-- The word of a number in a type, before its range is judged: an integer type allows no decimals, and
-- fixed point at most as many as it has.
abbrev pub scaled_number : Ty → ℤ → ℕ → Result ℤ LiteralFault
scaled_number types.Bool word decimals = Err Form
scaled_number (Fixed has) word decimals = if nat_le decimals has then Ok (word *ℤ ten_to (has - decimals)) else Err Form
scaled_number _ word zero = Ok word
scaled_number _ word decimals = Err Form

-- The word of a literal in a type, before its range is judged.
abbrev pub scaled_literal : Ty → Literal → Result ℤ LiteralFault
scaled_literal types.Bool (Truth told) = Ok (word_of_truth told)
scaled_literal _ (Truth told) = Err Form
scaled_literal ty (Number word decimals) = scaled_number ty word decimals

-- A scaled word, if it is one of the type's.
abbrev pub within_type : Ty → Result ℤ LiteralFault → Result ℤ LiteralFault
within_type ty (Ok word) = if is_word_of ty word then Ok word else Err Range
within_type ty (Err fault) = Err fault

-- The word of a literal, or why it has none: first its form is judged, then the range of the type.
abbrev pub word_of_literal : Ty → Literal → Result ℤ LiteralFault
word_of_literal ty literal = within_type ty (scaled_literal ty literal)
