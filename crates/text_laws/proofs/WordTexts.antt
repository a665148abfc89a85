-- Words by their texts.
use Rattle.std.proofs.Common.{◌≡◌, ℕ, ◌==◌, true, false, ℤ, pos, negsuc, List, [], ◌∷◌, Option, Some, None, Result, Ok, Err}
use Rattle.std.proofs.Common.{refl, sym, ap, subst, ◌∙◌, arith, Bor, SFits, w64}
use Rattle.std.specs.Prelude.{MatchResult}
use Rattle.std.specs.Fmt.{signed_decimal}
use Rattle.std.specs.List.{list_all}
use Rattle.std.specs.Result.{result_ok}
use Rattle.std.specs.Str.{IsUtf8}
use Rattle.std.specs.Str.Parse.{ParsesSigned, digits_value, signed_digits_value}
use Rattle.std.proofs.lemmas.Bool.{and_parts}
use Rattle.std.proofs.lemmas.Bool.Decides.{nat_tests}
use Rattle.std.proofs.lemmas.Fmt.{IsAscii-signed, parse-signed_decimal, signed_decimal_injective}
use Rattle.std.proofs.lemmas.Option.{none-some, same_Some}
use Rattle.std.proofs.lemmas.Str.{IsUtf8-from_ascii}
use Rattle.fixed_words.specs.Digits.{is_digit}
use Rattle.fixed_words.specs.Types.{is_word_of}
use Rattle.fixed_words.specs.declared.types.Ty.TheVariants.{Int64}

-- ---- Texts that are parsed

-- bytes that are not a text
pub no_text : {E : Type 0} (IsFault : E → Type 0) (bytes : List ℕ) (text : Result (Bor (List ℕ)) E) (told : Option (Bor (List ℕ)))
    → MatchResult text (λ s. (s.now ≡ bytes) × IsUtf8 bytes) (λ e. (IsUtf8 bytes → ⊥) × IsFault e) → told ≡ result_ok text → told ≡ None → IsUtf8 bytes → ⊥
no_text IsFault bytes (Ok s) told reads is none utf8 = absurd (none-some s (sym none ∙ is))
no_text IsFault bytes (Err e) told reads is none utf8 = reads.0 utf8

pub text_read : {E : Type 0} (IsFault : E → Type 0) (bytes : List ℕ) (text : Result (Bor (List ℕ)) E) (told : Option (Bor (List ℕ))) (s : Bor (List ℕ))
    → MatchResult text (λ s. (s.now ≡ bytes) × IsUtf8 bytes) (λ e. (IsUtf8 bytes → ⊥) × IsFault e) → told ≡ result_ok text → told ≡ Some s → s.now ≡ bytes
text_read IsFault bytes (Ok one) told s reads is some = ap (λ (b : Bor (List ℕ)). b.now) (same_Some s one (sym some ∙ is)) ∙ reads.0
text_read IsFault bytes (Err e) told s reads is some = absurd (none-some s (sym is ∙ some))

-- ---- Words

pub word_bound : (word : ℤ) → is_word_of Int64 word ≡ true → SFits w64 word
word_bound (pos n) fits = record { sfits = grind (arith, nat_tests) }
word_bound (negsuc n) fits = record { sfits = grind (arith, nat_tests) }

pub word_fits : (word : ℤ) → SFits w64 word → is_word_of Int64 word ≡ true
word_fits (pos n) bound = let small = bound.sfits in grind (arith, nat_tests)
word_fits (negsuc n) bound = let small = bound.sfits in grind (arith, nat_tests)

pub word_utf8 : (bytes : List ℕ) (word : ℤ) → is_word_of Int64 word ≡ true → bytes ≡ signed_decimal word → IsUtf8 bytes
word_utf8 bytes word fits is = subst IsUtf8 (sym is) (IsUtf8-from_ascii (signed_decimal word) (IsAscii-signed word (word_bound word fits).sfits))

pub word_parsed : {E : Type 0} (bytes text : List ℕ) (parsed : Result ℤ E) (word : ℤ) → text ≡ bytes → ParsesSigned w64 10 text parsed
    → is_word_of Int64 word ≡ true → bytes ≡ signed_decimal word → result_ok parsed ≡ Some word
word_parsed bytes text parsed word same parses fits is =
    let bound = word_bound word fits in
    ap result_ok (parse-signed_decimal w64 word text parsed bound bound.sfits (same ∙ is) parses)

-- The bytes are the text of a word.
abbrev IsTextOf : List ℕ → ℤ → Type 0
IsTextOf bytes word = (is_word_of Int64 word ≡ true) × (bytes ≡ signed_decimal word)

pub word_once : (bytes : List ℕ) (one other : ℤ) → IsTextOf bytes one → IsTextOf bytes other → one ≡ other
word_once bytes one other is also =
    signed_decimal_injective one other (word_bound one is.0).sfits (word_bound other also.0).sfits (sym is.1 ∙ also.1)

-- ---- Digits

-- Digits have no sign before them.
pub unsigned_value : (bytes : List ℕ) → list_all is_digit bytes ≡ true → signed_digits_value 10 bytes ≡ pos (digits_value 10 bytes)
unsigned_value [] all = refl
unsigned_value (byte ∷ bytes) all =
    let first = (and_parts (is_digit byte) (list_all is_digit bytes) all).0 in
    rw (no_minus byte first, no_plus byte first) refl
  where
    no_minus : (byte : ℕ) → is_digit byte ≡ true → (byte == 45) ≡ false
    no_minus byte digit = grind (arith, nat_tests)

    no_plus : (byte : ℕ) → is_digit byte ≡ true → (byte == 43) ≡ false
    no_plus byte digit = grind (arith, nat_tests)
