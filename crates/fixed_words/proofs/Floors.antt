-- The floor of a quotient, by the signs of dividend and divisor.
use Rattle.std.proofs.Common.{◌≡◌, ◌≢◌, ℕ, false, ltb, zero, suc, ◌+◌, ◌*◌, ◌/◌, if◌then◌else◌, refl, sym, ap, ◌∙◌, arith, ℤ, pos, negsuc, ◌*ℤ◌, neg_ℤ}
use Rattle.std.specs.Int.{int_div_euclid, is_negative}
use Rattle.std.proofs.Math.Nat.{mul-div-mul_right, div-div-eq-div-mul}
use Rattle.std.proofs.lemmas.Nat.{div-mul-add}
use Rattle.std.proofs.lemmas.Int.{ints}
use Rattle.fixed_words.specs.Operations.{floor_quotient}

pub never_below_zero : (b : ℕ) → ltb b 0 ≡ false
never_below_zero b = grind arith

-- a common factor that is positive cancels
natural_cancels : (a b c : ℕ) → a * suc c / (b * suc c) ≡ a / b
natural_cancels a b c = mul-div-mul_right a b (omega arith)

below_cancels : (a b c : ℕ) → (a * suc c + c) / (b * suc c) ≡ a / b
below_cancels a b c =
    let factors : b * suc c ≡ suc c * b = omega arith in
    let divided : (a * suc c + c) / suc c ≡ a = div-mul-add a (suc c) c (omega arith) in
    rw factors (sym (div-div-eq-div-mul (a * suc c + c) (suc c) b) ∙ ap (λ n. n / b) divided)

cancels : (a : ℤ) (b c : ℕ) → int_div_euclid (a *ℤ pos (suc c)) (pos (b * suc c)) ≡ int_div_euclid a (pos b)
cancels (pos a) b c = ap pos (natural_cancels a b c)
cancels (negsuc a) b c =
    let product : suc a * suc c ≡ suc (a * suc c + c) = omega arith in
    rw product (ap negsuc (below_cancels a b c))

signs_turn : (a : ℤ) (b : ℕ) → a *ℤ negsuc b ≡ neg_ℤ a *ℤ pos (suc b)
signs_turn (pos zero) b = omega (arith, ints)
signs_turn (pos (suc a)) b = refl
signs_turn (negsuc a) b = refl

pub by_positive : (d : ℤ) (b : ℕ) → floor_quotient d (pos (suc b)) ≡ int_div_euclid d (pos (suc b))
by_positive d b = cancels d (suc b) b

pub by_negative : (d : ℤ) (b : ℕ) → floor_quotient d (negsuc b) ≡ int_div_euclid (neg_ℤ d) (pos (suc b))
by_negative d b = ap (λ n. int_div_euclid n (pos (suc b * suc b))) (signs_turn d b) ∙ cancels (neg_ℤ d) (suc b) b

-- by the cases of the code: where the divisor is negative, both signs are changed
pub by_sign : (d v : ℤ) → v ≢ pos 0 → floor_quotient d v ≡ (if is_negative v then int_div_euclid (neg_ℤ d) (neg_ℤ v) else int_div_euclid d v)
by_sign d (pos zero) some = absurd (some refl)
by_sign d (pos (suc b)) some = rw (never_below_zero (suc b)) (by_positive d b)
by_sign d (negsuc b) some = by_negative d b
