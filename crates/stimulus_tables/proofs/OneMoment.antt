-- The fields of a moment determine it.
use Rattle.std.proofs.Common.{◌≡◌, ℕ, ◌^◌, ◌≤◌, ℤ, pos, negsuc, unsigned_abs, List, [], ◌∷◌, map, refl, ap₂, arith}
use Rattle.std.specs.Fmt.{decimal, signed_decimal}
use Rattle.std.specs.List.{AllByRecursion}
use Rattle.std.proofs.lemmas.Fmt.{decimal_injective, signed_decimal_injective}
use Rattle.list_laws.proofs.Lists.{same_first, same_rest}
use Rattle.stimulus_tables.specs.Tables.{IsWritable, fields_of_moment}
use Rattle.stimulus_tables.specs.declared.moment.Moment.{Moment}

abbrev AreSmall : List ℤ → Type 0
AreSmall words = AllByRecursion (λ (word : ℤ). unsigned_abs word ≤ 10 ^ 15) words

same_word : (one other : ℤ) → unsigned_abs one ≤ 10 ^ 15 → unsigned_abs other ≤ 10 ^ 15 → signed_decimal one ≡ signed_decimal other → one ≡ other
same_word (pos m) (pos n) small few same = signed_decimal_injective (pos m) (pos n) (omega (arith, small)) (omega (arith, few)) same
same_word (pos m) (negsuc n) small few same = signed_decimal_injective (pos m) (negsuc n) (omega (arith, small)) (omega (arith, few)) same
same_word (negsuc m) (pos n) small few same = signed_decimal_injective (negsuc m) (pos n) (omega (arith, small)) (omega (arith, few)) same
same_word (negsuc m) (negsuc n) small few same = signed_decimal_injective (negsuc m) (negsuc n) (omega (arith, small)) (omega (arith, few)) same

same_words : (ones others : List ℤ) → AreSmall ones → AreSmall others → map signed_decimal ones ≡ map signed_decimal others → ones ≡ others
same_words [] [] small few same = refl
same_words [] (other ∷ others) small few same = absurd cc
same_words (one ∷ ones) [] small few same = absurd cc
same_words (one ∷ ones) (other ∷ others) small few same =
    ap₂ (λ word words. word ∷ words)
    (same_word one other small.0 few.0
    (same_first (signed_decimal one) (signed_decimal other) (map signed_decimal ones) (map signed_decimal others) same))
    (same_words ones others small.1 few.1 (same_rest (signed_decimal one) (signed_decimal other) (map signed_decimal ones) (map signed_decimal others) same))

pub same_moment : (one other : Moment) → IsWritable one → IsWritable other → fields_of_moment one ≡ fields_of_moment other → one ≡ other
same_moment one other is told same =
    ap₂ (λ (time : ℕ) (words : List ℤ). record { time = time; words = words })
    (decimal_injective one.time other.time (omega (arith, is.time)) (omega (arith, told.time))
    (same_first (decimal one.time) (decimal other.time) (map signed_decimal one.words) (map signed_decimal other.words) same))
    (same_words one.words other.words is.words told.words
    (same_rest (decimal one.time) (decimal other.time) (map signed_decimal one.words) (map signed_decimal other.words) same))
