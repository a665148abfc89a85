-- Steps to a limit, and where local steps end.
use Rattle.std.proofs.Common.{◌≡◌, ℕ, zero, suc, ◌+◌, ◌-◌, ◌*◌, ◌/◌, ◌<◌, ◌≤◌, inl, inr, arith, ap, ◌∙◌}
use Rattle.std.proofs.Math.Nat.{lt-div-mul-add, div-le_self, div-lt_iff_lt-mul, mul-div_cancel}
use Rattle.std.proofs.lemmas.Bool.Decides.{nat_tests}
use Rattle.std.proofs.lemmas.Bool.{cases_lt}
use Rattle.super_time.specs.LocalTime.{local_step, local_time, limit_of}

-- A limit that is not 0 ends where exactly that many local ticks have passed.
ends_at : (factor t local : ℕ) → 1 ≤ factor → t + limit_of factor t (suc local) ≡ (t / factor + suc local) * factor
ends_at factor t local some =
    let opened : limit_of factor t (suc local) ≡ (t / factor + suc local) * factor - t = grind (arith, nat_tests) in
    let next : t < t / factor * factor + factor = lt-div-mul-add some in
    let later : (t / factor + suc local) * factor ≡ t / factor * factor + factor + local * factor = omega arith in
    omega arith

pub passes : (factor t local : ℕ) → 1 ≤ factor → local_step factor t (limit_of factor t local) ≡ local
passes factor t zero some =
    let opened : limit_of factor t zero ≡ 0 = grind (arith, nat_tests) in
    let same : (t + limit_of factor t zero) / factor ≡ t / factor = ap (λ time. time / factor) (omega arith) in
    omega arith
passes factor t (suc local) some =
    let end : (t + limit_of factor t (suc local)) / factor ≡ t / factor + suc local = ap (λ time. time / factor) (ends_at factor t local some)
    ∙ mul-div_cancel (t / factor + suc local) some in
    omega arith

pub is_least : (factor t local h : ℕ) → 1 ≤ factor → h < limit_of factor t local → local_step factor t h < local
is_least factor t zero h some shorter =
    let opened : limit_of factor t zero ≡ 0 = grind (arith, nat_tests) in
    omega arith
is_least factor t (suc local) h some shorter =
    let before : t + h < (t / factor + suc local) * factor = omega (arith, ends_at factor t local some) in
    let less : (t + h) / factor < t / factor + suc local = (div-lt_iff_lt-mul some).1 before in
    omega arith

-- A step in which that many local ticks pass reaches the limit.
pub limit_is_at_most : (factor t local h : ℕ) → 1 ≤ factor → local ≤ local_step factor t h → limit_of factor t local ≤ h
limit_is_at_most factor t local h some within = elim (cases_lt h (limit_of factor t local)) [
  | inl shorter ↦ let fewer = is_least factor t local h some shorter in absurd (omega (arith, within, fewer))
  | inr reached ↦ reached
]

-- A local step ends where its step does, or before.
pub local_end : (factor t h : ℕ) → local_time factor t + local_step factor t h ≤ t + h
local_end factor t h = omega (arith, div-le_self t factor, div-le_self (t + h) factor)
