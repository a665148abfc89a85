-- The bytes of numbers and words are the minus sign or greater. The bytes for which a field has quotes are less.
use Rattle.std.proofs.Common.{◌≡◌, ◌≤◌, ◌++◌, ◌∷◌, [], ℕ, ℤ, zero, suc, ◌+◌, ◌-◌, ◌%◌, ◌/◌, ◌==◌, List, Bool, true, false, take, drop, replicate, length, sym, subst, arith, pos}
use Rattle.std.proofs.Common.{negsuc, unsigned_abs}
use Rattle.std.specs.Prelude.{if◌then◌else◌, nat_lt}
use Rattle.std.specs.Fmt.{decimal, signed_decimal, digit_glyph, digits, digits_onto}
use Rattle.std.specs.Int.{is_negative}
use Rattle.std.specs.List.{AllByRecursion}
use Rattle.std.proofs.lemmas.Bool.Decides.{nat_tests}
use Rattle.fixed_words.specs.Digits.{pointed}
use Rattle.fixed_words.specs.Texts.{sign_text, padded, fixed_text, text_of}
use Rattle.fixed_words.specs.declared.types.Ty.{Ty}
use Rattle.fixed_words.specs.declared.types.Ty.TheVariants as types

abbrev pub AreHigh : List ℕ → Type 0
AreHigh bytes = AllByRecursion (λ byte. 45 ≤ byte) bytes

-- ---- Parts of texts

pub high_glyph : (n : ℕ) → 45 ≤ digit_glyph false (n % 10)
high_glyph n =
    let small : nat_lt (n % 10) 10 ≡ true = grind (arith, nat_tests) in
    subst (λ b. 45 ≤ (if b then 48 + n % 10 else 87 + n % 10)) (sym small) (omega arith)

pub high_onto : (count n : ℕ) (more : List ℕ) → AreHigh more → AreHigh (digits_onto count 10 false n more)
high_onto zero n more high = high
high_onto (suc count) n more high =
    by (n / 10 == 0) (high_glyph n, high) (high_onto count (n / 10) (digit_glyph false (n % 10) ∷ more) (high_glyph n, high))
  where
    by : (b : Bool) → AreHigh (digit_glyph false (n % 10) ∷ more) → AreHigh (digits_onto count 10 false (n / 10) (digit_glyph false (n % 10) ∷ more))
        → AreHigh (if b then digit_glyph false (n % 10) ∷ more else digits_onto count 10 false (n / 10) (digit_glyph false (n % 10) ∷ more))
    by true last others = last
    by false last others = others

pub high_decimal : (n : ℕ) → AreHigh (decimal n)
unfolding digits
high_decimal n = high_onto 64 n [] tt

pub high_signed : (word : ℤ) → AreHigh (signed_decimal word)
high_signed (pos n) = high_decimal n
high_signed (negsuc n) = (omega arith, high_decimal (suc n))

pub high_zeros : (count : ℕ) → AreHigh (replicate count 48)
high_zeros zero = tt
high_zeros (suc count) = (omega arith, high_zeros count)

pub high_take : (count : ℕ) (bytes : List ℕ) → AreHigh bytes → AreHigh (take count bytes)
high_take zero bytes high = tt
high_take (suc count) [] high = tt
high_take (suc count) (byte ∷ bytes) high = (high.0, high_take count bytes high.1)

pub high_drop : (count : ℕ) (bytes : List ℕ) → AreHigh bytes → AreHigh (drop count bytes)
high_drop zero bytes high = high
high_drop (suc count) [] high = tt
high_drop (suc count) (byte ∷ bytes) high = high_drop count bytes high.1

pub high_pointed : (bytes : List ℕ) → AreHigh bytes → AreHigh (pointed bytes)
high_pointed [] high = tt
high_pointed (byte ∷ bytes) high = (omega arith, high)

pub high_append : (front behind : List ℕ) → AreHigh front → AreHigh behind → AreHigh (front ++ behind)
high_append [] behind one other = other
high_append (byte ∷ front) behind one other = (one.0, high_append front behind one.1 other)

pub high_fixed : (decimals magnitude : ℕ) → AreHigh (fixed_text decimals magnitude)
high_fixed decimals magnitude =
    let all : List ℕ = padded decimals (decimal magnitude) in
    let whole = high_append (replicate (decimals + 1 - length (decimal magnitude)) 48) (decimal magnitude) (high_zeros (decimals + 1 - length (decimal magnitude)))
    (high_decimal magnitude) in
    high_append (take (length all - decimals) all) (pointed (drop (length all - decimals) all)) (high_take (length all - decimals) all whole)
    (high_pointed (drop (length all - decimals) all) (high_drop (length all - decimals) all whole))

pub high_sign : (negative : Bool) → AreHigh (sign_text negative)
high_sign true = (omega arith, tt)
high_sign false = tt

pub high_word : (ty : Ty) (word : ℤ) → AreHigh (text_of ty word)
high_word types.Bool (pos zero) = search arith
high_word types.Bool (pos (suc n)) = search arith
high_word types.Bool (negsuc n) = search arith
high_word (types.Fixed decimals) word =
    high_append (sign_text (is_negative word)) (fixed_text decimals (unsigned_abs word)) (high_sign (is_negative word)) (high_fixed decimals (unsigned_abs word))
high_word types.Int8 word = high_signed word
high_word types.UInt8 word = high_signed word
high_word types.Int16 word = high_signed word
high_word types.UInt16 word = high_signed word
high_word types.Int32 word = high_signed word
high_word types.UInt32 word = high_signed word
high_word types.Int64 word = high_signed word
