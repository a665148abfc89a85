-- A quotient that was rounded towards zero and its remainder, corrected to the floor.
use Rattle.std.proofs.Common.{◌≡◌, ◌≢◌, ℕ, Bool, true, false, zero, suc, ◌+◌, ◌-◌, ◌*◌, ◌/◌, ◌%◌, ◌⊎◌, inl, inr, refl, sym, ap, ◌∙◌, arith, ℤ, pos, negsuc}
use Rattle.std.proofs.Common.{neg_ℤ, ◌+ℤ◌, ◌-ℤ◌, w64, SFits, to_z, of_z}
use Rattle.std.specs.Int.RustNames.{int_div, int_rem}
use Rattle.std.specs.Int.{is_negative}
use Rattle.std.specs.Bool.{beq}
use mathlib.Core.Bool.{not}
use Rattle.std.proofs.lemmas.Int.{ints, to_z-of_z}
use Rattle.std.proofs.lemmas.Bool.{cases_lt}
use Rattle.std.proofs.lemmas.Nat.{div-mul-add, mod-mul-add}
use Rattle.std.proofs.Math.Nat.{div-add-mod}
use Rattle.fixed_words.specs.Laws.{left_over}
use Rattle.fixed_words.specs.Operations.{floor_quotient}
use Rattle.fixed_words.proofs.Floors.{by_positive, by_negative, never_below_zero}
use Rattle.fixed_words.proofs.Remainders.{positive_by_positive, negative_by_positive, positive_by_negative, negative_by_negative, nothing_by_negative}

-- The next dividend: either its remainder is one more, or its remainder is 0 and its quotient is one more.
pub record RestGrows (a b : ℕ) : Type 0 where
  pub quotient : suc a / suc b ≡ a / suc b
  pub left : suc a % suc b ≡ suc (a % suc b)

pub record IsFull (a b : ℕ) : Type 0 where
  pub quotient : suc a / suc b ≡ suc (a / suc b)
  pub left : suc a % suc b ≡ 0
  pub was : a % suc b ≡ b

one_more : (a b : ℕ) → RestGrows a b ⊎ IsFull a b
one_more a b =
    let parts : suc b * (a / suc b) + a % suc b ≡ a = div-add-mod a (suc b) in
    elim (cases_lt (suc (a % suc b)) (suc b)) [
      | inl below ↦
          let whole : suc a ≡ (a / suc b) * suc b + suc (a % suc b) = omega arith in
          inl (record {
            quotient = ap (λ n. n / suc b) whole ∙ div-mul-add (a / suc b) (suc b) (suc (a % suc b)) below;
            left = ap (λ n. n % suc b) whole ∙ mod-mul-add (a / suc b) (suc b) (suc (a % suc b)) below;
          })
      | inr reached ↦
          let last : a % suc b ≡ b = omega arith in
          let whole : suc a ≡ suc (a / suc b) * suc b + 0 = omega arith in
          inr (record {
            quotient = ap (λ n. n / suc b) whole ∙ div-mul-add (suc (a / suc b)) (suc b) 0 (omega arith);
            left = ap (λ n. n % suc b) whole ∙ mod-mul-add (suc (a / suc b)) (suc b) 0 (omega arith);
            was = last;
          })
    ]

-- The remainder has the divisor's sign, where zero counts as positive.
abbrev pub is_of_sign : ℤ → ℤ → Bool
is_of_sign d v = beq (is_negative (int_rem d v)) (is_negative v)

-- The quotient rounded towards zero and its remainder are those of the floor.
pub record IsAtFloor (d v : ℤ) : Type 0 where
  pub floor : int_div d v ≡ floor_quotient d v
  pub rest : int_rem d v ≡ left_over d v
  pub sign : (int_rem d v ≡ pos 0) ⊎ (is_of_sign d v ≡ true)

-- The quotient rounded towards zero is one more than the floor, and its remainder is less by the divisor.
pub record IsAboveFloor (d v : ℤ) : Type 0 where
  pub floor : int_div d v -ℤ pos 1 ≡ floor_quotient d v
  pub rest : int_rem d v +ℤ v ≡ left_over d v
  pub some : int_rem d v ≢ pos 0
  pub sign : is_of_sign d v ≡ false

not_negative : (a b : ℕ) → beq (is_negative (pos a)) (is_negative (pos (suc b))) ≡ true
not_negative a b = rw (never_below_zero a, never_below_zero (suc b)) refl

positives : (a b : ℕ) → IsAtFloor (pos a) (pos (suc b))
positives a b = record {
  floor = sym (by_positive (pos a) b);
  rest = sym (positive_by_positive a b);
  sign = inr (not_negative (a % suc b) b);
}

negative_left : (left b : ℕ) → (neg_ℤ (pos left) ≡ pos 0) ⊎ (beq (is_negative (neg_ℤ (pos left))) (is_negative (negsuc b)) ≡ true)
negative_left zero b = inl refl
negative_left (suc left) b = inr refl

negatives : (a b : ℕ) → IsAtFloor (negsuc a) (negsuc b)
negatives a b = record {
  floor = sym (by_negative (negsuc a) b);
  rest = sym (negative_by_negative a b);
  sign = negative_left (suc a % suc b) b;
}

nothing : (b : ℕ) → IsAtFloor (pos zero) (negsuc b)
nothing b =
    let none : zero / suc b ≡ 0 = omega arith in
    let left : zero % suc b ≡ 0 = omega arith in
    record {
      floor = ap (λ n. neg_ℤ (pos n)) none ∙ sym (by_negative (pos zero) b ∙ ap pos none);
      rest = ap pos left ∙ sym (nothing_by_negative b);
      sign = inl (ap pos left);
    }

-- a negative dividend by a positive divisor
below_room : (a b : ℕ) → RestGrows a b → IsAboveFloor (negsuc a) (pos (suc b))
below_room a b room = record {
  floor = ap (λ n. neg_ℤ (pos n) -ℤ pos 1) room.quotient ∙ omega (arith, ints) ∙ sym (by_positive (negsuc a) b);
  rest = ap (λ n. neg_ℤ (pos n) +ℤ pos (suc b)) room.left ∙ omega (arith, ints) ∙ sym (negative_by_positive a b);
  some = λ none. let same = ap (λ n. neg_ℤ (pos n)) room.left in cc;
  sign = ap (λ n. beq (is_negative (neg_ℤ (pos n))) (is_negative (pos (suc b)))) room.left ∙ rw (never_below_zero (suc b)) refl;
}

below_full : (a b : ℕ) → IsFull a b → IsAtFloor (negsuc a) (pos (suc b))
below_full a b full =
    let all : b - a % suc b ≡ 0 = omega (arith, full.was) in
    record {
      floor = ap (λ n. neg_ℤ (pos n)) full.quotient ∙ sym (by_positive (negsuc a) b);
      rest = ap (λ n. neg_ℤ (pos n)) full.left ∙ sym (negative_by_positive a b ∙ ap pos all);
      sign = inl (ap (λ n. neg_ℤ (pos n)) full.left);
    }

-- a positive dividend by a negative divisor
above_room : (a b : ℕ) → RestGrows a b → IsAboveFloor (pos (suc a)) (negsuc b)
above_room a b room = record {
  floor = ap (λ n. neg_ℤ (pos n) -ℤ pos 1) room.quotient ∙ omega (arith, ints) ∙ sym (by_negative (pos (suc a)) b);
  rest = ap (λ n. pos n +ℤ negsuc b) room.left ∙ omega (arith, ints) ∙ sym (positive_by_negative a b);
  some = λ none. let same = ap pos room.left in cc;
  sign = ap (λ n. beq (is_negative (pos n)) true) room.left ∙ rw (never_below_zero (suc (a % suc b))) refl;
}

above_full : (a b : ℕ) → IsFull a b → IsAtFloor (pos (suc a)) (negsuc b)
above_full a b full =
    let all : b - a % suc b ≡ 0 = omega (arith, full.was) in
    record {
      floor = ap (λ n. neg_ℤ (pos n)) full.quotient ∙ sym (by_negative (pos (suc a)) b);
      rest = ap pos full.left ∙ sym (positive_by_negative a b ∙ ap (λ n. neg_ℤ (pos n)) all);
      sign = inl (ap pos full.left);
    }

mended : (d v : ℤ) → v ≢ pos 0 → IsAtFloor d v ⊎ IsAboveFloor d v
mended d (pos zero) some = absurd (some refl)
mended (pos a) (pos (suc b)) some = inl (positives a b)
mended (negsuc a) (pos (suc b)) some = elim (one_more a b) [ inl room ↦ inr (below_room a b room) | inr full ↦ inl (below_full a b full) ]
mended (pos zero) (negsuc b) some = inl (nothing b)
mended (pos (suc a)) (negsuc b) some = elim (one_more a b) [ inl room ↦ inr (above_room a b room) | inr full ↦ inl (above_full a b full) ]
mended (negsuc a) (negsuc b) some = inl (negatives a b)

-- where there is a remainder that has not the divisor's sign
pub above_floor : (d v : ℤ) → v ≢ pos 0 → of_z w64 (int_rem d v) ≢ 0 → not (is_of_sign d v) ≡ true → IsAboveFloor d v
above_floor d v some left apart =
    elim (mended d v some) [
      | inl at ↦ elim at.sign [ inl none ↦ absurd (left (ap (of_z w64) none)) | inr same ↦ let turned = ap not same in absurd (cc) ]
      | inr above ↦ above
    ]

-- where the remainder has the divisor's sign
pub at_floor_by_sign : (d v : ℤ) → v ≢ pos 0 → not (is_of_sign d v) ≡ false → IsAtFloor d v
at_floor_by_sign d v some same =
    elim (mended d v some) [ inl at ↦ at | inr above ↦ let turned = ap not above.sign in absurd (cc) ]

-- where there is no remainder
pub at_floor_exactly : (d v : ℤ) → v ≢ pos 0 → SFits w64 (int_rem d v) → of_z w64 (int_rem d v) ≡ 0 → IsAtFloor d v
at_floor_exactly d v some fits none =
    elim (mended d v some) [ inl at ↦ at | inr above ↦ absurd (above.some (sym (to_z-of_z w64 (int_rem d v) fits) ∙ ap (to_z w64) none)) ]
