-- The text of a word is read back as this word.
use Rattle.std.proofs.Common.{◌≡◌, ℕ, zero, suc, ◌+◌, ◌-◌, ◌^◌, ◌<◌, ◌≤◌, true, false, ℤ, pos, negsuc, ◌*ℤ◌, nat_le, Ok, [], length, take, drop, replicate}
use Rattle.std.proofs.Common.{IsTrue, refl, sym, ap, ◌∙◌, subst, arith}
use Rattle.std.specs.Int.{is_negative}
use Rattle.std.specs.Fmt.{decimal, signed_decimal}
use Rattle.std.specs.List.{list_all}
use Rattle.std.proofs.lemmas.Int.{ints}
use Rattle.std.proofs.lemmas.Fmt.{decimal_nonempty}
use Rattle.std.proofs.lemmas.Bool.{le-leb, cond-true}
use Rattle.std.proofs.lemmas.Bool.Decides.{nat_tests}
use Rattle.std.proofs.lemmas.List.{append-nil, length-append, length-replicate, length-take-le, length-drop, take-append-drop}
use Rattle.fixed_words.specs.Digits.{is_digit, number_from, IsNumber}
use Rattle.fixed_words.specs.Laws.{IsReadBack}
use Rattle.fixed_words.specs.Literals.{IsSignedNumber, scaled_number, within_type}
use Rattle.fixed_words.specs.Operations.{ten_to}
use Rattle.fixed_words.specs.Texts.{text_of, padded, fixed_text}
use Rattle.fixed_words.specs.Types.{is_word_of, AreDecimals}
use Rattle.fixed_words.specs.declared.types.Literal.TheVariants.{Truth, Number}
use Rattle.fixed_words.specs.declared.types.Ty.{Ty}
use Rattle.fixed_words.specs.declared.types.Ty.TheVariants.{Int8, UInt8, Int16, UInt16, Int32, UInt32, Int64, Fixed}
use Rattle.fixed_words.specs.declared.types.Ty.TheVariants as types
use Rattle.fixed_words.proofs.Numbers.{IsDecimal, decimal_is, zeros_before, all_digits_parts}

positive_bound : (n : ℕ) → IsTrue (is_word_of Int64 (pos n)) → n < 2 ^ 63
positive_bound n fits = grind (arith, nat_tests)

negative_bound : (n : ℕ) → IsTrue (is_word_of Int64 (negsuc n)) → n < 2 ^ 63
negative_bound n fits = grind (arith, nat_tests)

-- every type's words are words of 64 bits
fits_word : (ty : Ty) (word : ℤ) → IsTrue (is_word_of ty word) → IsTrue (is_word_of Int64 word)
fits_word Int8 word fits = grind (arith, nat_tests)
fits_word UInt8 word fits = grind (arith, nat_tests)
fits_word Int16 word fits = grind (arith, nat_tests)
fits_word UInt16 word fits = grind (arith, nat_tests)
fits_word Int32 word fits = grind (arith, nat_tests)
fits_word UInt32 word fits = grind (arith, nat_tests)
fits_word Int64 word fits = fits
fits_word types.Bool word fits = grind (arith, nat_tests)
fits_word (Fixed decimals) word fits = fits

-- the digits of a magnitude are a whole number
whole_number : (n : ℕ) → n ≤ 2 ^ 63 → IsNumber n 0 (decimal n)
whole_number n bounded =
    let is = decimal_is n (omega arith) in
    record {
      whole = decimal n;
      fraction = [];
      spelled = sym (append-nil (decimal n));
      is_whole = (is.0, decimal_nonempty n (omega arith));
      is_fraction = (refl, refl, omega arith);
      value = ap (number_from 0) (append-nil (decimal n)) ∙ is.1;
      bounded = bounded;
    }

integer_text : (word : ℤ) → IsTrue (is_word_of Int64 word) → IsSignedNumber word 0 (signed_decimal word)
integer_text (pos n) fits =
    let bound = positive_bound n fits in
    record { negative = false; digits = n; number = decimal n; spelled = refl; is_number = whole_number n (omega arith); value = refl; fits = fits }
integer_text (negsuc n) fits =
    let bound = negative_bound n fits in
    record {
      negative = true;
      digits = suc n;
      number = decimal (suc n);
      spelled = refl;
      is_number = whole_number (suc n) (omega arith);
      value = refl;
      fits =
          fits;
    }

-- padded digits with a point are a number with these decimals
pub padded_number : (decimals n : ℕ) → decimals ≤ 9 → n ≤ 2 ^ 63 → IsNumber n decimals (fixed_text decimals n)
padded_number decimals n few bounded =
    let digits = padded decimals (decimal n) in
    let place = length digits - decimals in
    let is : IsDecimal n digits = zeros_before (decimals + 1 - length (decimal n)) n (decimal n) (decimal_is n (omega arith)) in
    let long : decimals + 1 ≤ length digits =
    omega (
      arith,
      length-append (replicate {A = ℕ} (decimals + 1 - length (decimal n)) 48) (decimal n),
      length-replicate {A = ℕ} (decimals + 1 - length (decimal n)) 48,
    ) in
    let whole = take-append-drop place digits in
    let parts = all_digits_parts (take place digits) (drop place digits) (subst (λ bytes. IsTrue (list_all is_digit bytes)) (sym whole) is.0) in
    record {
      whole = take place digits;
      fraction = drop place digits;
      spelled = refl;
      is_whole = (parts.0, omega (arith, length-take-le place digits (omega arith)));
      is_fraction = (parts.1, omega (arith, length-drop place digits), few);
      value = ap (number_from 0) whole ∙ is.1;
      bounded = bounded;
    }

fixed_word_text : (decimals : ℕ) (word : ℤ) → decimals ≤ 9 → IsTrue (is_word_of Int64 word) → IsSignedNumber word decimals (text_of (Fixed decimals) word)
fixed_word_text decimals (pos n) few fits =
    let bound = positive_bound n fits in
    record {
      negative = is_negative (pos n);
      digits = n;
      number = fixed_text decimals n;
      spelled = refl;
      is_number =
          padded_number decimals n few (omega arith);
      value = grind (arith, nat_tests);
      fits = fits;
    }
fixed_word_text decimals (negsuc n) few fits =
    let bound = negative_bound n fits in
    record {
      negative = true;
      digits = suc n;
      number = fixed_text decimals (suc n);
      spelled = refl;
      is_number =
          padded_number decimals (suc n) few (omega arith);
      value = refl;
      fits = fits;
    }

times_one : (word : ℤ) → word *ℤ pos 1 ≡ word
times_one word = omega (arith, ints)

-- a literal with all decimals of its type is not scaled
not_scaled : (decimals : ℕ) (word : ℤ) → scaled_number (Fixed decimals) word decimals ≡ Ok word
not_scaled decimals word =
    let none : decimals - decimals ≡ 0 = omega arith in
    cond-true (nat_le decimals decimals) _ _ (le-leb decimals decimals (omega arith))
    ∙ ap (λ n. Ok (word *ℤ ten_to n)) none
    ∙ ap Ok (times_one word)

kept : (ty : Ty) (word : ℤ) → IsTrue (is_word_of ty word) → within_type ty (Ok word) ≡ Ok word
kept ty word fits = cond-true (is_word_of ty word) _ _ fits

no_third_truth : (n : ℕ) → IsTrue (is_word_of types.Bool (pos (suc (suc n)))) → ⊥
no_third_truth n fits = grind (arith, nat_tests)

pub read_back : (ty : Ty) (word : ℤ) → AreDecimals ty → IsTrue (is_word_of ty word) → IsReadBack ty word
read_back Int8 word few fits = (Number word 0, integer_text word (fits_word Int8 word fits), kept Int8 word fits)
read_back UInt8 word few fits = (Number word 0, integer_text word (fits_word UInt8 word fits), kept UInt8 word fits)
read_back Int16 word few fits = (Number word 0, integer_text word (fits_word Int16 word fits), kept Int16 word fits)
read_back UInt16 word few fits = (Number word 0, integer_text word (fits_word UInt16 word fits), kept UInt16 word fits)
read_back Int32 word few fits = (Number word 0, integer_text word (fits_word Int32 word fits), kept Int32 word fits)
read_back UInt32 word few fits = (Number word 0, integer_text word (fits_word UInt32 word fits), kept UInt32 word fits)
read_back Int64 word few fits = (Number word 0, integer_text word fits, kept Int64 word fits)
read_back types.Bool (pos zero) few fits = (Truth false, refl, refl)
read_back types.Bool (pos (suc zero)) few fits = (Truth true, refl, refl)
read_back types.Bool (pos (suc (suc n))) few fits = absurd (no_third_truth n fits)
read_back types.Bool (negsuc n) few fits = absurd cc
read_back (Fixed decimals) word few fits = (
  Number word decimals,
  fixed_word_text decimals word few fits,
  ap (within_type (Fixed decimals)) (not_scaled decimals word)
      ∙ kept (Fixed decimals) word fits,
)
