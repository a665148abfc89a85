-- The remainder of the floor of a quotient, by the signs of dividend and divisor.
use Rattle.std.proofs.Common.{◌≡◌, ◌≢◌, ℕ, zero, suc, ◌-◌, ◌%◌, ◌<◌, inl, inr, refl, sym, ap, ◌∙◌, subst, arith, ℤ, pos, negsuc, neg_ℤ, ◌-ℤ◌, ◌*ℤ◌}
use Rattle.std.specs.Int.{int_div_euclid, is_negative}
use Rattle.std.specs.Int.RustNames.{unsigned_abs}
use Rattle.std.proofs.lemmas.Int.{ints}
use Rattle.fixed_words.specs.Laws.{left_over, IsFloor}
use Rattle.fixed_words.proofs.Floors.{by_positive, by_negative, never_below_zero}

over_positive : (d : ℤ) (b : ℕ) → left_over d (pos (suc b)) ≡ d -ℤ (pos (suc b) *ℤ int_div_euclid d (pos (suc b)))
over_positive d b = ap (λ q. d -ℤ (pos (suc b) *ℤ q)) (by_positive d b)

over_negative : (d : ℤ) (b : ℕ) → left_over d (negsuc b) ≡ d -ℤ (negsuc b *ℤ int_div_euclid (neg_ℤ d) (pos (suc b)))
over_negative d b = ap (λ q. d -ℤ (negsuc b *ℤ q)) (by_negative d b)

pub positive_by_positive : (a b : ℕ) → left_over (pos a) (pos (suc b)) ≡ pos (a % suc b)
positive_by_positive a b = over_positive (pos a) b ∙ omega (arith, ints)

pub negative_by_positive : (a b : ℕ) → left_over (negsuc a) (pos (suc b)) ≡ pos (b - a % suc b)
negative_by_positive a b = over_positive (negsuc a) b ∙ omega (arith, ints)

pub positive_by_negative : (a b : ℕ) → left_over (pos (suc a)) (negsuc b) ≡ neg_ℤ (pos (b - a % suc b))
positive_by_negative a b = over_negative (pos (suc a)) b ∙ omega (arith, ints)

pub nothing_by_negative : (b : ℕ) → left_over (pos zero) (negsuc b) ≡ pos 0
nothing_by_negative b = over_negative (pos zero) b ∙ omega (arith, ints)

pub negative_by_negative : (a b : ℕ) → left_over (negsuc a) (negsuc b) ≡ neg_ℤ (pos (suc a % suc b))
negative_by_negative a b = over_negative (negsuc a) b ∙ omega (arith, ints)

-- the remainder of a multiple of a positive divisor
left_positive : (dividend : ℤ) (b left : ℕ) → left_over dividend (pos (suc b)) ≡ pos left → left < suc b → IsFloor dividend (pos (suc b))
left_positive dividend b left is below = record {
  smaller = subst (λ rest. unsigned_abs rest < suc b) (sym is) below;
  sign = inr (ap is_negative is ∙ never_below_zero left ∙ sym (never_below_zero (suc b)));
}

-- the remainder of a multiple of a negative divisor
left_negative : (dividend : ℤ) (b left : ℕ) → left_over dividend (negsuc b) ≡ neg_ℤ (pos left) → left < suc b → IsFloor dividend (negsuc b)
left_negative dividend b zero is below = record {
  smaller = subst (λ rest. unsigned_abs rest < suc b) (sym is) below;
  sign = inl is;
}
left_negative dividend b (suc left) is below = record {
  smaller = subst (λ rest. unsigned_abs rest < suc b) (sym is) below;
  sign = inr (ap is_negative is);
}

pub is_floor : (dividend divisor : ℤ) → divisor ≢ pos 0 → IsFloor dividend divisor
is_floor dividend (pos zero) some = absurd (some refl)
is_floor (pos a) (pos (suc b)) some = left_positive (pos a) b (a % suc b) (positive_by_positive a b) (omega arith)
is_floor (negsuc a) (pos (suc b)) some = left_positive (negsuc a) b (b - a % suc b) (negative_by_positive a b) (omega arith)
is_floor (pos zero) (negsuc b) some = left_negative (pos zero) b 0 (nothing_by_negative b) (omega arith)
is_floor (pos (suc a)) (negsuc b) some = left_negative (pos (suc a)) b (b - a % suc b) (positive_by_negative a b) (omega arith)
is_floor (negsuc a) (negsuc b) some = left_negative (negsuc a) b (suc a % suc b) (negative_by_negative a b) (omega arith)
