-- Local time: the clock of a component whose local tick is `factor` ticks of the system.
use Rattle.std.specs.Prelude.{ℕ, ◌+◌, ◌-◌, ◌*◌, ◌/◌, ◌==◌, if◌then◌else◌}

-- The local time at t: the number of whole local ticks until then.
abbrev pub local_time : ℕ → ℕ → ℕ
local_time factor t = t / factor

-- How many local ticks end in a step of length h from t.
abbrev pub local_step : ℕ → ℕ → ℕ → ℕ
local_step factor t h = (t + h) / factor - t / factor

-- The ticks until this many local ticks have passed from t; 0 for none.
abbrev pub limit_of : ℕ → ℕ → ℕ → ℕ
limit_of factor t local = if local == 0 then 0 else (t / factor + local) * factor - t
