-- Truth values, and tests on numbers.
use Rattle.std.proofs.Common.{◌≡◌, ℕ, zero, suc, ◌<◌, ◌≤◌, Bool, true, false, inl}
use Rattle.std.proofs.Common.{inr, refl, ◌⊎◌, arith, pos}
use Rattle.std.specs.Prelude.{IsTrue, not, nat_lt, nat_le, ◌&&◌, ◌||◌}
use Rattle.std.proofs.lemmas.Bool.Decides.{nat_tests}
use Rattle.std.specs.Int.{is_negative}

pub true_is_false : {A : Type 0} (b : Bool) → b ≡ true → b ≡ false → A
true_is_false true is isnt = absurd (cc)
true_is_false false is isnt = absurd (cc)

pub not_false : (b : Bool) → not b ≡ false → b ≡ true
not_false true is = refl
not_false false is = absurd (cc)

pub crossed : (a b c d : Bool) → ((a && b) && (c && d)) ≡ ((a && c) && (b && d))
crossed true true c d = refl
crossed true false true d = refl
crossed true false false d = refl
crossed false b c d = refl

pub le_told : (a b : ℕ) → IsTrue (nat_le a b) → a ≤ b
le_told a b e = grind (arith, nat_tests)

pub lt_not_told : (limit count : ℕ) → nat_lt limit count ≡ false → count ≤ limit
lt_not_told limit count is = grind (arith, nat_tests)

pub not_true : (b : Bool) → not b ≡ true → b ≡ false
not_true true is = absurd (cc)
not_true false is = refl

pub or_nothing : (b : Bool) → b ≡ (b || false)
or_nothing true = refl
or_nothing false = refl

pub and_true : (b : Bool) → (b && true) ≡ b
and_true true = refl
and_true false = refl

pub and_assoc : (a b c : Bool) → ((a && b) && c) ≡ (a && (b && c))
and_assoc true b c = refl
and_assoc false b c = refl

pub and_first : (one other : Bool) → IsTrue (one && other) → IsTrue one
and_first true other holds = refl
and_first false other holds = absurd (cc)

-- where the first holds and not both hold, the second doesn't
pub other_fails : (one other : Bool) → one ≡ true → (one && other) ≡ false → other ≡ false
other_fails true other holds none = none
other_fails false other holds none = absurd (cc)

pub le_asked : (a b : ℕ) → a ≤ b → nat_le a b ≡ true
le_asked a b is = grind (arith, nat_tests)

pub lt_told : (a b : ℕ) → nat_lt a b ≡ true → a < b
lt_told a b is = grind (arith, nat_tests)

pub lt_asked : (a b : ℕ) → a < b → nat_lt a b ≡ true
lt_asked a b is = grind (arith, nat_tests)

pub one_or_two : (n : ℕ) → 1 ≤ n → n ≤ 2 → (n ≡ 1) ⊎ (n ≡ 2)
one_or_two zero least most = absurd (omega arith)
one_or_two (suc zero) least most = inl refl
one_or_two (suc (suc zero)) least most = inr refl
one_or_two (suc (suc (suc more))) least most = absurd (omega arith)

pub not_negative : (n : ℕ) → is_negative (pos n) ≡ false
not_negative n = grind (arith, nat_tests)

-- where a disjunction fails both parts do
pub either_false : (one other : Bool) → (one || other) ≡ false → (one ≡ false) × (other ≡ false)
either_false true other is = absurd (cc)
either_false false other is = (refl, is)

pub never_true : (told : Bool) → (told ≡ true → ⊥) → told ≡ false
never_true true never = absurd (never refl)
never_true false never = refl
