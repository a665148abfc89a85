-- Seconds as ticks: with resolution r, a tick is 10^-r seconds.
use Rattle.std.specs.Prelude.{ℕ, ◌≤◌, ⊤, List, ◌*◌, ◌/◌, ◌%◌, ◌^◌, ◌==◌, not, ◌&&◌, nat_lt, if◌then◌else◌, unsigned_abs, Option, Some, None, Result, Ok, Err}
use Rattle.std.specs.Int.{is_negative}
use Rattle.model_rules.specs.Limits.{decimals_limit}
use Rattle.fixed_words.specs.Texts.{fixed_text}
use Rattle.fixed_words.specs.declared.types.Literal.{Literal}
use Rattle.fixed_words.specs.declared.types.Literal.TheVariants as literal
use Rattle.super_time.specs.declared.seconds.SecondsFault.{SecondsFault}
use Rattle.super_time.specs.declared.seconds.SecondsFault.TheVariants.{NotDecimal, NotMultiple, TooLarge}

-- A literal has at most nine decimals.
abbrev pub AreDecimalsOf : Literal → Type 0
AreDecimalsOf (literal.Truth told) = ⊤
AreDecimalsOf (literal.Number number decimals) = decimals ≤ decimals_limit

-- A literal that is neither a truth value nor negative is a number of seconds: its word times 10^-d, for d
-- decimals. This is that number in ticks, where it is a whole number of them.
abbrev pub ticks_in : ℕ → Literal → Option ℕ
ticks_in resolution (literal.Truth told) = None
ticks_in resolution (literal.Number number decimals) =
    if not (is_negative number) && ((unsigned_abs number * 10 ^ resolution) % 10 ^ decimals == 0) then Some
    (unsigned_abs number * 10 ^ resolution / 10 ^ decimals) else None

-- A run has at most 10^15 ticks.
abbrev pub within_run : Option ℕ → Result ℕ SecondsFault
within_run None = Err NotMultiple
within_run (Some ticks) = if nat_lt (10 ^ 15) ticks then Err TooLarge else Ok ticks

-- The ticks of a literal, or why it has none: its form is judged first, then its value.
abbrev pub seconds_of : ℕ → Literal → Result ℕ SecondsFault
seconds_of resolution (literal.Truth told) = Err NotDecimal
seconds_of resolution (literal.Number number decimals) =
    if is_negative number then Err NotDecimal else within_run (ticks_in resolution (literal.Number number decimals))

-- A time in ticks as seconds: a decimal number with as many decimals as the resolution, and no point for 0.
abbrev pub seconds_text_of : ℕ → ℕ → List ℕ
seconds_text_of resolution ticks = fixed_text resolution ticks
