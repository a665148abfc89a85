-- How literals are spelled: their signs, and that no number is a truth value.
use Rattle.std.proofs.Common.{◌≡◌, ◌≢◌, ℕ, ◌<◌, Bool, true, false, ℤ, Option, Some, None, if◌then◌else◌, List, [], ◌∷◌, ◌++◌, length, get_or, drop, IsTrue}
use Rattle.std.proofs.Common.{refl, sym, ap, ◌∙◌, subst, arith}
use Rattle.std.specs.Bool.{OnFalse}
use Rattle.std.specs.List.{list_all}
use Rattle.std.proofs.lemmas.Bool.{and_parts}
use Rattle.fixed_words.specs.Digits.{is_digit, pointed, IsNumber}
use Rattle.fixed_words.specs.Types.{is_word_of}
use Rattle.fixed_words.specs.declared.types.Ty.TheVariants.{Int64}
use Rattle.fixed_words.specs.Texts.{sign_text, truth_text}
use Rattle.fixed_words.specs.declared.types.Literal.{Literal}
use Rattle.fixed_words.specs.declared.types.Literal.TheVariants.{Truth, Number}
use Rattle.fixed_words.specs.Literals.{IsSignedNumber, IsLiteralText, with_sign}
use Rattle.fixed_words.proofs.Numbers.{one_number}

-- a number begins with a digit
no_digit_first : (whole fraction others : List ℕ) (byte : ℕ) → IsTrue (list_all is_digit whole) → 0 < length whole → is_digit byte ≡ false
    → byte ∷ others ≡ whole ++ pointed fraction → ⊥
no_digit_first [] fraction others byte digits some other_byte same = omega arith
no_digit_first (first ∷ later) fraction others byte digits some other_byte same =
    let parts = and_parts (is_digit first) (list_all is_digit later) digits in
    let yes = parts.0 in
    cc

number_first : (digits decimals byte : ℕ) (others : List ℕ) → is_digit byte ≡ false → IsNumber digits decimals (byte ∷ others) → ⊥
number_first digits decimals byte others other_byte number =
    no_digit_first number.whole number.fraction others byte number.is_whole.0 number.is_whole.1 other_byte number.spelled

-- a sign can be cut off in only one way
same_cut : (digits decimals : ℕ) (text number other : List ℕ) (negative minus : Bool) → text ≡ sign_text negative ++ number
    → OnFalse negative ((rest : List ℕ) → text ≢ 45 ∷ rest) → text ≡ sign_text minus ++ other → IsNumber digits decimals other
    → (minus ≡ negative) × IsNumber digits decimals number
same_cut digits decimals text number other true true cut no_sign spelled is =
    (refl, subst (IsNumber digits decimals) (ap (drop 1) (sym spelled ∙ cut)) is)
same_cut digits decimals text number other true false cut no_sign spelled is =
    absurd (number_first digits decimals 45 number refl (subst (IsNumber digits decimals) (sym spelled ∙ cut) is))
same_cut digits decimals text number other false true cut no_sign spelled is = absurd (no_sign other spelled)
same_cut digits decimals text number other false false cut no_sign spelled is =
    (refl, subst (IsNumber digits decimals) (sym spelled ∙ cut) is)

-- the text after the sign that the code has cut off
pub signed_parts : (word : ℤ) (decimals : ℕ) (text number : List ℕ) (negative : Bool) → text ≡ sign_text negative ++ number
    → OnFalse negative ((rest : List ℕ) → text ≢ 45 ∷ rest) → (is : IsSignedNumber word decimals text)
    → IsNumber is.digits decimals number × (with_sign negative is.digits ≡ word)
signed_parts word decimals text number negative cut no_sign is =
    let same = same_cut is.digits decimals text number is.number negative is.negative cut no_sign is.spelled is.is_number in
    (same.1, subst (λ minus. with_sign minus is.digits ≡ word) same.0 is.value)

pub made_word : (made : Option ℤ) (exact word : ℤ) → made ≡ (if is_word_of Int64 exact then Some exact else None) → exact ≡ word
    → IsTrue (is_word_of Int64 word) → made ≡ Some word
made_word made exact word is same fits =
    is ∙ ap (λ z. if is_word_of Int64 z then Some z else None) same ∙ ap (λ b. if b then Some word else None) fits

-- a text whose first byte is neither a digit nor `-` spells no number
not_signed : (negative : Bool) (digits decimals byte : ℕ) (others number : List ℕ) → is_digit byte ≡ false → (byte ≡ 45 → ⊥)
    → byte ∷ others ≡ sign_text negative ++ number → IsNumber digits decimals number → ⊥
not_signed true digits decimals byte others number other_byte no_sign same is = no_sign (ap (λ bytes. get_or bytes 0 0) same)
not_signed false digits decimals byte others number other_byte no_sign same is =
    number_first digits decimals byte others other_byte (subst (IsNumber digits decimals) (sym same) is)

true_bytes : truth_text true ≡ 116 ∷ 114 ∷ 117 ∷ 101 ∷ []
true_bytes = refl

false_bytes : truth_text false ≡ 102 ∷ 97 ∷ 108 ∷ 115 ∷ 101 ∷ []
false_bytes = refl

-- no text spells both a truth value and a number
pub not_both : (told : Bool) (word : ℤ) (decimals : ℕ) (text : List ℕ) → text ≡ truth_text told → IsSignedNumber word decimals text → ⊥
not_both true word decimals text truth is =
    not_signed is.negative is.digits decimals 116 (114 ∷ 117 ∷ 101 ∷ []) is.number refl (λ e. omega arith)
    (sym true_bytes ∙ sym truth ∙ is.spelled) is.is_number
not_both false word decimals text truth is =
    not_signed is.negative is.digits decimals 102 (97 ∷ 108 ∷ 115 ∷ 101 ∷ []) is.number refl (λ e. omega arith)
    (sym false_bytes ∙ sym truth ∙ is.spelled) is.is_number

-- no number begins with `-`, and so none after a `-` does
no_second_sign : (digits decimals : ℕ) (text number : List ℕ) (negative : Bool) → text ≡ sign_text negative ++ number → IsNumber digits decimals number
    → OnFalse negative ((rest : List ℕ) → text ≢ 45 ∷ rest)
no_second_sign digits decimals text number true spelled is = tt
no_second_sign digits decimals text number false spelled is = λ rest begins.
    number_first digits decimals 45 rest refl (subst (IsNumber digits decimals) (sym spelled ∙ begins) is)

one_signed : (word other : ℤ) (decimals many : ℕ) (text : List ℕ) → IsSignedNumber word decimals text → IsSignedNumber other many text
    → (word ≡ other) × (decimals ≡ many)
one_signed word other decimals many text is also =
    let parts =
    signed_parts other many text is.number is.negative is.spelled (no_second_sign is.digits decimals text is.number is.negative is.spelled is.is_number) also in
    let same = one_number is.digits also.digits decimals many is.number is.is_number parts.0 in
    (sym is.value ∙ ap (with_sign is.negative) same.0 ∙ parts.1, same.1)

one_truth : (told other : Bool) (text : List ℕ) → text ≡ truth_text told → text ≡ truth_text other → told ≡ other
one_truth true true text is also = refl
one_truth false false text is also = refl
one_truth true false text is also =
    let same = sym true_bytes ∙ sym is ∙ also ∙ false_bytes in
    cc
one_truth false true text is also =
    let same = sym false_bytes ∙ sym is ∙ also ∙ true_bytes in
    cc

pub one_literal : (text : List ℕ) (one other : Literal) → IsLiteralText text one → IsLiteralText text other → one ≡ other
one_literal text (Truth told) (Truth other) is also = ap Truth (one_truth told other text is also)
one_literal text (Truth told) (Number word decimals) is also = absurd (not_both told word decimals text is also)
one_literal text (Number word decimals) (Truth told) is also = absurd (not_both told word decimals text also is)
one_literal text (Number word decimals) (Number other many) is also =
    let same = one_signed word other decimals many text is also in
    ap (λ w. Number w decimals) same.0 ∙ ap (Number other) same.1
