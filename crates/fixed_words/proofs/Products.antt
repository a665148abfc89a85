-- How large a product of two words is.
use Rattle.std.proofs.Common.{◌^◌, ◌≤◌, ℤ, ◌*ℤ◌, w64, SFits}
use Rattle.std.specs.Prelude.{unsigned_abs}
use Rattle.std.specs.Int.Signed.{nat_abs-le}
use Rattle.std.proofs.lemmas.Int.{unsigned_abs-mul}
use Rattle.std.proofs.Math.Nat.{mul-le-mul}

pub product_within : (a b : ℤ) → SFits w64 a → SFits w64 b → unsigned_abs (a *ℤ b) ≤ 2 ^ 126
product_within a b fits_a fits_b =
    let left : unsigned_abs a ≤ 2 ^ 63 = nat_abs-le a fits_a.sfits in
    let right : unsigned_abs b ≤ 2 ^ 63 = nat_abs-le b fits_b.sfits in
    rw (unsigned_abs-mul a b) (mul-le-mul left right)
