-- Numbers of options, digit by digit.
use Rattle.std.proofs.Common.{◌≡◌, ℕ, ◌+◌, ◌-◌, ◌*◌, ◌^◌, ◌<◌, ◌≤◌, List, [], ◌∷◌, length, get_or, drop, Option, Some, sym, ap, ◌∙◌, arith}
use Rattle.std.specs.Option.{option_and_then}
use Rattle.std.proofs.Math.Nat.{pow-le-pow_right}
use Rattle.std.proofs.lemmas.Bool.Decides.{nat_tests}
use Rattle.std.proofs.lemmas.Grind.{pow_more}
use Rattle.std.proofs.lemmas.List.{drop_all, drop_more}
use Rattle.command_line.specs.Options.{number_behind}

-- After a number of so many digits one more digit fits.
pub leaves_room : (number index : ℕ) → number < 10 ^ index → index ≤ 18 → number < 1000000000000000000
leaves_room number index small few =
    let top : 10 ^ index ≤ 10 ^ 18 = pow-le-pow_right (omega arith) few in
    omega (arith, small, top)

-- The number before a digit, with this digit.
pub digit_read : (number byte longer : ℕ) → number_behind number (byte ∷ []) ≡ Some longer → (longer ≡ 10 * number + (byte - 48)) × (byte - 48 ≤ 9)
digit_read number byte longer is = grind (arith, nat_tests)

pub grown : (number index byte longer : ℕ) → number < 10 ^ index → number_behind number (byte ∷ []) ≡ Some longer → longer < 10 ^ (index + 1)
grown number index byte longer small is =
    let read = digit_read number byte longer is in
    let more = pow_more 10 index in
    omega (arith, small, read.0, read.1, more)

-- One digit, and then the others.
cons : (before byte : ℕ) (bytes : List ℕ)
    → number_behind before (byte ∷ bytes) ≡ option_and_then (λ n. number_behind n bytes) (number_behind before (byte ∷ []))
cons before byte bytes = grind (arith, nat_tests)

pub one_more : (before : ℕ) (bytes : List ℕ) (place : ℕ) (made wanted : Option ℕ) → place < length bytes
    → made ≡ number_behind before (get_or bytes place 0 ∷ []) → number_behind before (drop place bytes) ≡ wanted
    → option_and_then (λ n. number_behind n (drop (place + 1) bytes)) made ≡ wanted
one_more before bytes place made wanted within is same =
    ap (option_and_then (λ n. number_behind n (drop (place + 1) bytes))) is
    ∙ sym (cons before (get_or bytes place 0) (drop (place + 1) bytes))
    ∙ sym (ap (number_behind before) (drop_more bytes place 0 within))
    ∙ same

pub no_more : (before : ℕ) (bytes : List ℕ) (place : ℕ) (wanted : Option ℕ) → length bytes ≤ place
    → number_behind before (drop place bytes) ≡ wanted → Some before ≡ wanted
no_more before bytes place wanted past same = sym (ap (number_behind before) (drop_all place bytes past)) ∙ same
