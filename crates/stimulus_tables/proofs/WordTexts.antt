-- The texts of words, times and entries.
use Rattle.std.proofs.Common.{◌≡◌, ℕ, ◌^◌, ◌≤◌, Bool, true, false, ℤ, pos, negsuc, List, Option, Some, None}
use Rattle.std.proofs.Common.{sym, ap, subst, ◌∙◌, arith, SFits, w64}
use Rattle.std.specs.Prelude.{unsigned_abs, neg_ℤ, int_le}
use Rattle.std.specs.Fmt.{signed_decimal}
use Rattle.std.specs.Str.{bytes_eq}
use Rattle.std.proofs.lemmas.Bool.Decides.{nat_tests}
use Rattle.std.proofs.lemmas.Int.{ints}
use Rattle.std.proofs.lemmas.Option.{none-some, same_Some}
use Rattle.std.proofs.lemmas.Slice.Eq.{bytes_eq-Decides}
use Rattle.fixed_words.specs.Types.{is_word_of}
use Rattle.fixed_words.specs.declared.types.Ty.TheVariants.{Int64}
use Rattle.list_laws.proofs.Truths.{true_is_false}
use Rattle.text_laws.proofs.WordTexts.{word_fits, word_once}
use Rattle.stimulus_tables.specs.TableFields.{IsEntryText, IsTimeText, IsWordText}
use Rattle.text_tokens.specs.Results.{Tells}

abbrev Parses : List ℕ → Option ℤ → Type 0
Parses bytes parsed = (word : ℤ) → is_word_of Int64 word ≡ true → bytes ≡ signed_decimal word → parsed ≡ Some word

-- Bytes that are parsed as no word, as a word with another text, and as a word with this text.
pub word_unread : (bytes : List ℕ) (parsed told : Option ℤ) → Parses bytes parsed → parsed ≡ None → told ≡ None → Tells told (IsWordText bytes)
word_unread bytes parsed told parses none is =
    subst (λ one. Tells one (IsWordText bytes)) (sym is) (λ word text. none-some word (sym none ∙ parses word text.0 text.1))

pub word_other : (bytes shown : List ℕ) (word : ℤ) (parsed : Option ℤ) (same : Bool) → Parses bytes parsed → parsed ≡ Some word → shown ≡ signed_decimal word
    → same ≡ bytes_eq shown bytes → same ≡ false → (other : ℤ) → IsWordText bytes other → ⊥
word_other bytes shown word parsed same parses is shown_is tests differs other text =
    let one = same_Some other word (sym (parses other text.0 text.1) ∙ is) in
    true_is_false same (tests ∙ (bytes_eq-Decides shown bytes).1 (shown_is ∙ sym (text.1 ∙ ap signed_decimal one))) differs

pub word_read : (bytes shown : List ℕ) (word : ℤ) (same : Bool) → SFits w64 word → shown ≡ signed_decimal word → same ≡ bytes_eq shown bytes → same ≡ true
    → IsWordText bytes word
word_read bytes shown word same fits shown_is tests is = (word_fits word fits, sym ((bytes_eq-Decides shown bytes).0 (sym tests ∙ is)) ∙ shown_is)

-- ---- Times and entries

entry_is_word : (word : ℤ) → unsigned_abs word ≤ 10 ^ 15 → is_word_of Int64 word ≡ true
entry_is_word (pos n) small = grind (arith, ints, nat_tests)
entry_is_word (negsuc n) small = grind (arith, ints, nat_tests)

pub entry_other : (bytes : List ℕ) (word : ℤ) → IsWordText bytes word → (unsigned_abs word ≤ 10 ^ 15 → ⊥) → (other : ℤ) → IsEntryText bytes other → ⊥
entry_other bytes word is large other text =
    large (subst (λ w. unsigned_abs w ≤ 10 ^ 15) (word_once bytes other word (entry_is_word other text.0, text.1) is) text.0)

pub time_other : (bytes : List ℕ) (word : ℤ) → IsWordText bytes word → ((time : ℕ) → time ≤ 10 ^ 9 → pos time ≡ word → ⊥) → (other : ℕ) → IsTimeText bytes other → ⊥
time_other bytes word is none other text =
    none other text.0 (word_once bytes (pos other) word (entry_is_word (pos other) (omega (arith, text.0, absolute other)), text.1) is)
  where
    absolute : (n : ℕ) → unsigned_abs (pos n) ≡ n
    absolute n = omega arith

pub time_unread : (bytes : List ℕ) (told : Option ℤ) (time : Option ℕ) → Tells told (IsWordText bytes) → told ≡ None → time ≡ None → Tells time (IsTimeText bytes)
time_unread bytes told time tells none is =
    subst (λ one. Tells one (IsTimeText bytes)) (sym is)
    (λ other text. subst (λ one. Tells one (IsWordText bytes)) none tells (pos other) (entry_is_word (pos other) (omega (arith, text.0, absolute other)), text.1))
  where
    absolute : (n : ℕ) → unsigned_abs (pos n) ≡ n
    absolute n = omega arith

pub too_low : (word : ℤ) → int_le (neg_ℤ (pos (10 ^ 15))) word ≡ false → unsigned_abs word ≤ 10 ^ 15 → ⊥
too_low (pos n) low small = grind (arith, ints)
too_low (negsuc n) low small = grind (arith, ints)

pub too_high : (word : ℤ) → int_le word (pos (10 ^ 15)) ≡ false → unsigned_abs word ≤ 10 ^ 15 → ⊥
too_high (pos n) high small = grind (arith, ints)
too_high (negsuc n) high small = grind (arith, ints)
