-- Decimal numbers without a sign: which bytes are digits, their number, and how a number is spelled.
use Rattle.std.specs.Prelude.{◌≡◌, ℕ, ◌+◌, ◌-◌, ◌*◌, ◌^◌, ◌<◌, ◌≤◌, Bool, ◌&&◌, nat_le, List, [], ◌∷◌, ◌++◌, length, IsTrue, Option, Some, None, if◌then◌else◌}
use Rattle.std.specs.List.{list_all}
use Rattle.model_rules.specs.Limits.{decimals_limit}

-- The bytes `0` to `9`.
abbrev pub is_digit : ℕ → Bool
is_digit byte = nat_le 48 byte && nat_le byte 57

-- The number of the digits, leading zeros allowed, after the number of the digits before them.
abbrev pub number_from : ℕ → List ℕ → ℕ
number_from before [] = before
number_from before (digit ∷ digits) = number_from (10 * before + (digit - 48)) digits

-- A point and the fraction after it; no point where there is no fraction.
abbrev pub pointed : List ℕ → List ℕ
pointed [] = []
pointed (digit ∷ digits) = 46 ∷ digit ∷ digits

-- A number: digits, or digits, a point and one to nine digits. Without the point its digits make `digits`,
-- at most 2^63.
pub record IsNumber (digits decimals : ℕ) (text : List ℕ) : Type 0 where
  pub whole : List ℕ
  pub fraction : List ℕ
  pub spelled : text ≡ whole ++ pointed fraction
  pub is_whole : IsTrue (list_all is_digit whole) × (0 < length whole)
  pub is_fraction : IsTrue (list_all is_digit fraction) × (length fraction ≡ decimals) × (decimals ≤ decimals_limit)
  pub value : number_from 0 (whole ++ fraction) ≡ digits
  pub bounded : digits ≤ 2 ^ 63

-- The number of the digits before and these bytes, where all bytes are digits and it is at most 2^63.
abbrev pub number_of_digits : ℕ → List ℕ → Option ℕ
number_of_digits before bytes =
    if list_all is_digit bytes && nat_le (number_from before bytes) (2 ^ 63) then Some (number_from before bytes) else None
