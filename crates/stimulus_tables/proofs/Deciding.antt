-- Deciding statements: by tests, by parts, and for each element of a list.
use Rattle.std.proofs.Common.{◌≡◌, ℕ, zero, suc, ◌<◌, ◌≤◌, Bool, true, false, List, [], ◌∷◌, inl, inr, refl, subst, arith}
use Rattle.std.specs.Prelude.{◌⊎◌}
use Rattle.std.specs.List.{AllByRecursion}
use Rattle.std.specs.Str.{bytes_eq}
use Rattle.std.proofs.lemmas.Bool.{cases_lt}
use Rattle.language_laws.proofs.NameLaws.{bytes_of, same_bytes}
use Rattle.list_laws.proofs.Truths.{true_is_false}

abbrev pub Decided : Type 0 → Type 0
Decided P = P ⊎ (P → ⊥)

-- Something of this form exists, or nothing does.
abbrev pub Found : {A : Type 0} → (A → Type 0) → Type 0
Found {A} Is = ((a : A) × Is a) ⊎ ((a : A) → Is a → ⊥)

pub is_decided : (b : Bool) → Decided (b ≡ true)
is_decided true = inl refl
is_decided false = inr (λ is. true_is_false false is refl)

pub both_decided : {P Q : Type 0} → Decided P → Decided Q → Decided (P × Q)
both_decided (inl p) (inl q) = inl (p, q)
both_decided (inl p) (inr never) = inr (λ both. never both.1)
both_decided (inr never) q = inr (λ both. never both.0)

pub not_decided : {P : Type 0} → Decided P → Decided (P → ⊥)
not_decided (inl p) = inr (λ never. never p)
not_decided (inr never) = inl never

pub less_decided : (m n : ℕ) → Decided (m < n)
less_decided m n = by (cases_lt m n)
  where
    by : (m < n) ⊎ (n ≤ m) → Decided (m < n)
    by (inl less) = inl less
    by (inr more) = inr (λ less. absurd (omega (arith, less, more)))

pub at_most_decided : (m n : ℕ) → Decided (m ≤ n)
at_most_decided m n = by (cases_lt n m)
  where
    by : (n < m) ⊎ (m ≤ n) → Decided (m ≤ n)
    by (inl above) = inr (λ within. absurd (omega (arith, above, within)))
    by (inr within) = inl within

pub same_decided : (one other : List ℕ) → Decided (one ≡ other)
same_decided one other = by (bytes_eq one other) refl
  where
    by : (told : Bool) → bytes_eq one other ≡ told → Decided (one ≡ other)
    by true is = inl (same_bytes one other is)
    by false is = inr (λ same. true_is_false (bytes_eq one other) (bytes_of one other same) is)

pub each_decided : {A : Type 0} (Is : A → Type 0) → ((a : A) → Decided (Is a)) → (all : List A) → Decided (AllByRecursion Is all)
each_decided Is one [] = inl tt
each_decided Is one (a ∷ all) = both_decided (one a) (each_decided Is one all)

-- One of the numbers below a limit.
pub below_decided : (Is : ℕ → Type 0) → ((n : ℕ) → Decided (Is n)) → (limit : ℕ) → Decided ((n : ℕ) × (n < limit) × Is n)
below_decided Is one zero = inr (λ there. absurd (omega (arith, there.1)))
below_decided Is one (suc limit) = by (below_decided Is one limit) (one limit)
  where
    below : (there : (n : ℕ) × (n < suc limit) × Is n) → (((n : ℕ) × (n < limit) × Is n) → ⊥) → (Is limit → ⊥) → ⊥
    below (n, within, is) none never = at (cases_lt n limit)
      where
        at : (n < limit) ⊎ (limit ≤ n) → ⊥
        at (inl less) = none (n, less, is)
        at (inr more) = let last : n ≡ limit = omega (arith, within, more) in never (subst Is last is)

    by : Decided ((n : ℕ) × (n < limit) × Is n) → Decided (Is limit) → Decided ((n : ℕ) × (n < suc limit) × Is n)
    by (inl there) last = inl (there.0, omega (arith, there.1), there.2)
    by (inr none) (inl is) = inl (limit, omega arith, is)
    by (inr none) (inr never) = inr (λ there. below there none never)
