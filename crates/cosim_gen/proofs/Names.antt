-- The names of components differ, and none is a reserved word.
use Rattle.std.proofs.Common.{◌≡◌, ℕ, ◌<◌, ◌≤◌, true, false, List, [], ◌∷◌, drop, length, None, refl, ap, arith}
use Rattle.std.specs.Prelude.{nat_eq}
use Rattle.std.specs.Fmt.{decimal}
use Rattle.std.specs.List.{list_all}
use Rattle.std.specs.Str.{bytes_eq}
use Rattle.std.proofs.lemmas.Bool.{and_parts, or_right}
use Rattle.std.proofs.lemmas.Bool.Decides.{nat_tests}
use Rattle.std.proofs.lemmas.Fmt.{decimal_injective, length-decimal-le}
use Rattle.list_laws.proofs.Truths.{never_true}
use Rattle.fixed_words.proofs.Numbers.{decimal_is}
use Rattle.unit_tree.specs.Tokens.{is_digit, is_letter, is_word_byte, IsName}
use Rattle.text_tokens.specs.Scanning.{keyword_of}
use Rattle.text_tokens.proofs.TableLemmas.{keyword_of_none}
use Rattle.text_laws.proofs.SpelledBytes.{all_pass}
use Rattle.language_laws.proofs.NameLaws.{same_bytes, bytes_of}
use Rattle.cosim_gen.specs.Generated.{name_in}

-- ---- They differ

pub one_name : (one other : ℕ) → one < 64 → other < 64 → name_in one ≡ name_in other → one ≡ other
one_name one other small few same = decimal_injective one other (omega arith) (omega arith) (ap (drop 1) same)

pub other_name : (one other : ℕ) → one < 64 → other < 64 → (one ≡ other → ⊥) → bytes_eq (name_in one) (name_in other) ≡ false
other_name one other small few apart =
    never_true (bytes_eq (name_in one) (name_in other)) (λ told. apart (one_name one other small few (same_bytes (name_in one) (name_in other) told)))

pub its_name : (place : ℕ) → bytes_eq (name_in place) (name_in place) ≡ true
its_name place = bytes_of (name_in place) (name_in place) refl

-- ---- They are names

-- `i` followed by digits is not a keyword.
not_reserved : (digits : List ℕ) → list_all is_digit digits ≡ true → keyword_of (105 ∷ digits) ≡ None
unfolding keyword_of
not_reserved [] all = refl
not_reserved (digit ∷ digits) all =
    let is = (and_parts (is_digit digit) (list_all is_digit digits) all).0 in
    let no_n : nat_eq 110 digit ≡ false = grind (arith, nat_tests) in
    let no_f : nat_eq 102 digit ≡ false = grind (arith, nat_tests) in
    rw (no_n, no_f) refl

pub is_name : (place : ℕ) → place < 64 → IsName (name_in place)
is_name place small =
    let digits = (decimal_is place (omega arith)).0 in
    let short : length (decimal place) ≤ 2 = length-decimal-le 2 place (omega arith) (omega arith) (omega arith) in (
      (refl, all_pass is_digit is_word_byte (λ byte is. or_right (is_letter byte) (is_digit byte) is) (decimal place) digits, omega arith),
      keyword_of_none (name_in place) (not_reserved (decimal place) digits),
    )
