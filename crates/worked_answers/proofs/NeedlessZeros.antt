-- No number is written with a needless zero.
use Rattle.std.proofs.Common.{◌≡◌, ℕ, zero, suc, ◌<◌, ◌^◌, [], ◌∷◌, get_or, sym, subst, arith}
use Rattle.std.specs.Fmt.{decimal, digits}
use Rattle.std.proofs.lemmas.Fmt.{first_decimal}

pub no_needless_zero : (number digit : ℕ) → number < 2 ^ 64 → 48 ∷ digit ∷ [] ≡ decimal number → ⊥
unfolding digits
no_needless_zero zero digit bound is = absurd (cc is)
no_needless_zero (suc number) digit bound is =
    let above : 48 < 48 = subst (λ bytes. 48 < get_or bytes 0 0) (sym is) (first_decimal (suc number) (omega arith) bound) in
    omega (arith, above)
