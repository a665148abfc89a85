-- The texts of numbers and words.
use Rattle.std.proofs.Common.{◌≡◌, ℕ, suc, ◌^◌, ◌<◌, ◌≤◌, Bool, true, false, cond, ℤ, pos, negsuc, neg_ℤ, List, [], ◌∷◌, Option, Some, None, Result}
use Rattle.std.proofs.Common.{refl, sym, ap, subst, ◌∙◌, arith, decimal, SFits, w64}
use Rattle.std.specs.Prelude.{◌&&◌, nat_le}
use Rattle.std.specs.Fmt.{signed_decimal}
use Rattle.std.specs.List.{list_all}
use Rattle.std.specs.Result.{result_ok}
use Rattle.std.specs.Str.{IsUtf8, bytes_eq}
use Rattle.std.specs.Str.Parse.{ParsesUnsigned, digits_value, signed_digits_value}
use Rattle.std.proofs.lemmas.Bool.{and_parts, and_from, cond-true}
use Rattle.std.proofs.lemmas.Bool.Decides.{nat_tests}
use Rattle.std.proofs.lemmas.Fmt.{IsAscii-decimal, decimal_injective, decimal_is_IsNumeral, parse-decimal}
use Rattle.std.proofs.lemmas.Option.{cond_some, none-some, same_Some}
use Rattle.std.proofs.lemmas.Slice.Eq.{bytes_eq-Decides}
use Rattle.std.proofs.lemmas.Str.{IsUtf8-from_ascii}
use Rattle.fixed_words.specs.Digits.{is_digit}
use Rattle.fixed_words.specs.Types.{is_word_of}
use Rattle.fixed_words.specs.declared.types.Ty.TheVariants.{Int64}
use Rattle.fixed_words.proofs.Numbers.{decimal_is}
use Rattle.list_laws.proofs.Truths.{le_asked, le_told, true_is_false}
use Rattle.text_laws.proofs.WordTexts.{unsigned_value, word_bound, word_fits, word_once}
use Rattle.save_point.specs.Reading.{IsNumberText, IsWordText, is_inside, word_in}
use Rattle.save_point.specs.SavedTexts.{number_limit}
use Rattle.text_tokens.specs.Results.{Tells}

-- ---- What has only one text

pub told_same : {A : Type 0} (Is : A → Type 0) → ((x y : A) → Is x → Is y → x ≡ y) → (one other : Option A) → Tells one Is → Tells other Is → one ≡ other
told_same Is once None None on_one on_other = refl
told_same Is once None (Some y) on_one on_other = absurd (on_one y on_other)
told_same Is once (Some x) None on_one on_other = absurd (on_other x on_one)
told_same Is once (Some x) (Some y) on_one on_other = ap Some (once x y on_one on_other)

-- ---- Numbers

pub number_utf8 : (bytes : List ℕ) (number : ℕ) → number ≤ number_limit → bytes ≡ decimal number → IsUtf8 bytes
number_utf8 bytes number within is = subst IsUtf8 (sym is) (IsUtf8-from_ascii (decimal number) (IsAscii-decimal number (omega arith)))

pub number_parsed : {E : Type 0} (bytes text : List ℕ) (parsed : Result ℕ E) (number : ℕ) → text ≡ bytes → ParsesUnsigned 64 10 text parsed
    → number ≤ number_limit → bytes ≡ decimal number → result_ok parsed ≡ Some number
number_parsed bytes text parsed number same parses within is =
    ap result_ok (parse-decimal 64 number text parsed (omega arith) (omega arith) (same ∙ is) parses)

pub number_once : (bytes : List ℕ) (one other : ℕ) → IsNumberText bytes one → IsNumberText bytes other → one ≡ other
number_once bytes one other is also = decimal_injective one other (omega (arith, is.0)) (omega (arith, also.0)) (sym is.1 ∙ also.1)

-- ---- Bytes of numbers

digits_inside : (bytes : List ℕ) → list_all is_digit bytes ≡ true → list_all is_inside bytes ≡ true
digits_inside [] all = refl
digits_inside (byte ∷ bytes) all =
    let parts = and_parts (is_digit byte) (list_all is_digit bytes) all in
    and_from (is_inside byte) (list_all is_inside bytes) (inside byte parts.0) (digits_inside bytes parts.1)
  where
    inside : (byte : ℕ) → is_digit byte ≡ true → is_inside byte ≡ true
    inside byte digit = grind (arith, nat_tests)

pub number_inside : (number : ℕ) → number < 2 ^ 64 → list_all is_inside (decimal number) ≡ true
number_inside number bound = digits_inside (decimal number) (decimal_is number bound).0

pub word_inside : (word : ℤ) → is_word_of Int64 word ≡ true → list_all is_inside (signed_decimal word) ≡ true
word_inside (pos n) fits = let bound = (word_bound (pos n) fits).sfits in number_inside n (omega arith)
word_inside (negsuc n) fits = let bound = (word_bound (negsuc n) fits).sfits in number_inside (suc n) (omega arith)

-- ---- The word that bytes are the text of

value_of_text : (word : ℤ) → is_word_of Int64 word ≡ true → signed_digits_value 10 (signed_decimal word) ≡ word
value_of_text (pos n) fits =
    let bound = (word_bound (pos n) fits).sfits in
    unsigned_value (decimal n) (decimal_is n (omega arith)).0 ∙ ap pos (decimal_is_IsNumeral n (omega arith)).1
value_of_text (negsuc n) fits =
    let bound = (word_bound (negsuc n) fits).sfits in
    ap (λ number. neg_ℤ (pos number)) (decimal_is_IsNumeral (suc n) (omega arith)).1

pub word_asked : (word : ℤ) → is_word_of Int64 word ≡ true → word_in (signed_decimal word) ≡ Some word
unfolding word_in
word_asked word fits =
    let bytes = signed_decimal word in
    ap (λ value. cond (bytes_eq bytes (signed_decimal value) && is_word_of Int64 value) (Some value) None) (value_of_text word fits)
    ∙ cond-true (bytes_eq bytes bytes && is_word_of Int64 word) (Some word) None
    (and_from (bytes_eq bytes bytes) (is_word_of Int64 word) ((bytes_eq-Decides bytes bytes).1 refl) fits)

word_told : (bytes : List ℕ) (word : ℤ) → word_in bytes ≡ Some word → IsWordText bytes word
unfolding word_in
word_told bytes word is =
    let value = signed_digits_value 10 bytes in
    let told = cond_some (bytes_eq bytes (signed_decimal value) && is_word_of Int64 value) value word is in
    let both = and_parts (bytes_eq bytes (signed_decimal value)) (is_word_of Int64 value) told.0 in
    subst (IsWordText bytes) told.1 (both.1, (bytes_eq-Decides bytes (signed_decimal value)).0 both.0)

word_tells_by : (bytes : List ℕ) (told : Option ℤ) → word_in bytes ≡ told → Tells told (IsWordText bytes)
word_tells_by bytes None is = λ word text. none-some word (sym is ∙ ap word_in text.1 ∙ word_asked word text.0)
word_tells_by bytes (Some word) is = word_told bytes word is

pub word_tells : (bytes : List ℕ) → Tells (word_in bytes) (IsWordText bytes)
word_tells bytes = word_tells_by bytes (word_in bytes) refl

-- Bytes that are parsed as no word, as a word with another text, and as a word with this text.
pub word_unread : (bytes : List ℕ) (parsed : Option ℤ) → ((word : ℤ) → is_word_of Int64 word ≡ true → bytes ≡ signed_decimal word → parsed ≡ Some word)
    → parsed ≡ None → None ≡ word_in bytes
word_unread bytes parsed parses none =
    told_same (IsWordText bytes) (word_once bytes) None (word_in bytes) (λ word text. none-some word (sym none ∙ parses word text.0 text.1)) (word_tells bytes)

pub word_other : (bytes shown : List ℕ) (word : ℤ) (parsed : Option ℤ) (same : Bool)
    → ((word : ℤ) → is_word_of Int64 word ≡ true → bytes ≡ signed_decimal word → parsed ≡ Some word) → parsed ≡ Some word → shown ≡ signed_decimal word
    → same ≡ bytes_eq shown bytes → same ≡ false → None ≡ word_in bytes
word_other bytes shown word parsed same parses is shown_is tests differs =
    told_same (IsWordText bytes) (word_once bytes) None (word_in bytes)
    (λ other text.
    let one = same_Some other word (sym (parses other text.0 text.1) ∙ is) in
    true_is_false same (tests ∙ (bytes_eq-Decides shown bytes).1 (shown_is ∙ sym (text.1 ∙ ap signed_decimal one))) differs)
    (word_tells bytes)

pub word_read : (bytes shown : List ℕ) (word : ℤ) (same : Bool) → SFits w64 word → shown ≡ signed_decimal word → same ≡ bytes_eq shown bytes → same ≡ true
    → Some word ≡ word_in bytes
word_read bytes shown word same fits shown_is tests is =
    told_same (IsWordText bytes) (word_once bytes) (Some word) (word_in bytes)
    (word_fits word fits, sym ((bytes_eq-Decides shown bytes).0 (sym tests ∙ is)) ∙ shown_is) (word_tells bytes)

-- ---- Whether bytes are the text of a number

abbrev number_of : List ℕ → Option ℕ
number_of bytes = let number = digits_value 10 bytes in cond (bytes_eq bytes (decimal number) && nat_le number number_limit) (Some number) None

number_asked : (number : ℕ) → number ≤ number_limit → number_of (decimal number) ≡ Some number
number_asked number within =
    let bytes = decimal number in
    ap (λ value. cond (bytes_eq bytes (decimal value) && nat_le value number_limit) (Some value) None) (decimal_is_IsNumeral number (omega arith)).1
    ∙ cond-true (bytes_eq bytes bytes && nat_le number number_limit) (Some number) None
    (and_from (bytes_eq bytes bytes) (nat_le number number_limit) ((bytes_eq-Decides bytes bytes).1 refl) (le_asked number number_limit within))

number_tells_by : (bytes : List ℕ) (told : Option ℕ) → number_of bytes ≡ told → Tells told (IsNumberText bytes)
number_tells_by bytes None is = λ number text. none-some number (sym is ∙ ap number_of text.1 ∙ number_asked number text.0)
number_tells_by bytes (Some number) is =
    let value = digits_value 10 bytes in
    let told = cond_some (bytes_eq bytes (decimal value) && nat_le value number_limit) value number is in
    let both = and_parts (bytes_eq bytes (decimal value)) (nat_le value number_limit) told.0 in
    subst (IsNumberText bytes) told.1 (le_told value number_limit both.1, (bytes_eq-Decides bytes (decimal value)).0 both.0)

pub number_told : (bytes : List ℕ) → (told : Option ℕ) × Tells told (IsNumberText bytes)
number_told bytes = (number_of bytes, number_tells_by bytes (number_of bytes) refl)
