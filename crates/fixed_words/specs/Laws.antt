-- Laws of words: quotients are floors, a text spells one literal, and a word's text is read back.
use Rattle.std.specs.Prelude.{◌≡◌, ◌≢◌, ◌<◌, ◌⊎◌, ℕ, ℤ, pos, ◌-ℤ◌, ◌*ℤ◌, unsigned_abs, List, IsTrue, Ok}
use Rattle.std.specs.Int.{is_negative}
use Rattle.fixed_words.specs.Literals.{IsLiteralText, word_of_literal}
use Rattle.fixed_words.specs.Operations.{floor_quotient}
use Rattle.fixed_words.specs.Texts.{text_of}
use Rattle.fixed_words.specs.Types.{AreDecimals, is_word_of}
use Rattle.fixed_words.specs.declared.types.Literal.{Literal}
use Rattle.fixed_words.specs.declared.types.Ty.{Ty}

-- The remainder: the dividend without the divisor times the quotient.
abbrev pub left_over : ℤ → ℤ → ℤ
left_over dividend divisor = dividend -ℤ (divisor *ℤ floor_quotient dividend divisor)

-- The quotient is the floor: the remainder is smaller in magnitude than the divisor, and is zero or has
-- the divisor's sign.
pub record IsFloor (dividend divisor : ℤ) : Type 0 where
  pub smaller : unsigned_abs (left_over dividend divisor) < unsigned_abs divisor
  pub sign : (left_over dividend divisor ≡ pos 0) ⊎ (is_negative (left_over dividend divisor) ≡ is_negative divisor)

-- Every quotient by a divisor that is not zero is the floor.
abbrev pub QuotientsAreFloors : Type 0
QuotientsAreFloors = (dividend divisor : ℤ) → divisor ≢ pos 0 → IsFloor dividend divisor

-- No text spells two literals.
abbrev pub TextsSpellOneLiteral : Type 0
TextsSpellOneLiteral = (text : List ℕ) (one other : Literal) → IsLiteralText text one → IsLiteralText text other → one ≡ other

-- The text of a word spells a literal that has this word.
abbrev pub IsReadBack : Ty → ℤ → Type 0
IsReadBack ty word = (literal : Literal) × IsLiteralText (text_of ty word) literal × (word_of_literal ty literal ≡ Ok word)

-- Every word of a type is read back from its text.
abbrev pub TextsAreReadBack : Type 0
TextsAreReadBack = (ty : Ty) (word : ℤ) → AreDecimals ty → IsTrue (is_word_of ty word) → IsReadBack ty word
