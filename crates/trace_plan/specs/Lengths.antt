-- Judged lengths of a run.
use Rattle.std.specs.Prelude.{◌≡◌, ◌≤◌, ◌^◌, ℕ, unwrap_or, Ok}
use Rattle.fixed_words.specs.declared.types.Literal.{Literal}
use Rattle.super_time.specs.Seconds.{ticks_in, seconds_of, AreDecimalsOf}

-- The seconds are a whole number of ticks, at most 10^15.
pub record IsLengthOf (resolution : ℕ) (seconds : Literal) : Type 0 where
  pub read : seconds_of resolution seconds ≡ Ok (unwrap_or (ticks_in resolution seconds) 0)
  pub most : unwrap_or (ticks_in resolution seconds) 0 ≤ 10 ^ 15

-- The seconds can be read as such a length.
pub record IsReadable (resolution : ℕ) (seconds : Literal) : Type 0 where
  pub decimals : AreDecimalsOf seconds
  pub length : IsLengthOf resolution seconds
