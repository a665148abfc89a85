-- Laws of time, and times that were worked out by hand.
use Rattle.std.specs.Prelude.{◌≡◌, ℕ, ◌≤◌, ◌<◌, true, pos, negsuc, Ok, Err}
use Rattle.fixed_words.specs.declared.types.Literal.TheVariants.{Number, Truth}
use Rattle.super_time.specs.LocalTime.{local_time, local_step, limit_of}
use Rattle.super_time.specs.Seconds.{seconds_of}
use Rattle.super_time.specs.declared.seconds.SecondsFault.TheVariants.{NotDecimal, NotMultiple, TooLarge}

-- A step to the limit is a local step of exactly that many local ticks, and every shorter step is a shorter
-- local step.
abbrev pub LimitsPassLocalTicks : Type 0
LimitsPassLocalTicks =
    (factor t local : ℕ) → 1 ≤ factor
    → (local_step factor t (limit_of factor t local) ≡ local) × ((h : ℕ) → h < limit_of factor t local → local_step factor t h < local)

-- Local times, local steps and limits.
pub record TimesAreWorked : Type 0 where
  pub time : local_time 10 19 ≡ 1
  pub step : local_step 10 7 5 ≡ 1
  pub held : local_step 10 7 2 ≡ 0
  pub limit : limit_of 10 7 2 ≡ 13
  pub no_limit : limit_of 10 7 0 ≡ 0
  pub greatest : limit_of 1000000000 999999999999999 9223372036854775807 ≡ 9223372036854775806000000001

-- Seconds in ticks, at some resolutions.
pub record SecondsAreWorked : Type 0 where
  pub whole : seconds_of 0 (Number (pos 50) 1) ≡ Ok 5
  pub fraction : seconds_of 3 (Number (pos 20) 3) ≡ Ok 20
  pub no_seconds : seconds_of 9 (Number (pos 0) 0) ≡ Ok 0
  pub truth : seconds_of 0 (Truth true) ≡ Err NotDecimal
  pub negative : seconds_of 0 (Number (negsuc 0) 0) ≡ Err NotDecimal
  pub negative_fraction : seconds_of 0 (Number (negsuc 4) 1) ≡ Err NotDecimal
  pub half_a_tick : seconds_of 0 (Number (pos 5) 1) ≡ Err NotMultiple
  pub too_fine : seconds_of 2 (Number (pos 20001) 3) ≡ Err NotMultiple
  pub longest : seconds_of 0 (Number (pos 1000000000000000) 0) ≡ Ok 1000000000000000
  pub too_long : seconds_of 0 (Number (pos 1000000000000001) 0) ≡ Err TooLarge
  pub too_long_by_half_a_tick : seconds_of 0 (Number (pos 10000000000000005) 1) ≡ Err NotMultiple
  pub too_long_in_ticks : seconds_of 9 (Number (pos 1000001) 0) ≡ Err TooLarge
