-- Fields of the lines of a step log and of its summary.
use Rattle.std.specs.Prelude.{ℕ, List, [], slice_get}
use Rattle.std.specs.Option.{option_map, unwrap_or}
use Rattle.super_time.specs.Seconds.{seconds_text_of}
use Rattle.unit_tree.specs.WellFormed.{resolution_of}
use Rattle.unit_tree.specs.declared.system.System.{System}

-- The name of an instance by its number.
abbrev pub name_of : System → ℕ → List ℕ
name_of system instance = unwrap_or (option_map (λ i. i.name) (slice_get system.instances instance)) []

-- A number of ticks in seconds, with exactly the decimals of the resolution.
abbrev pub seconds_in : System → ℕ → List ℕ
seconds_in system ticks = seconds_text_of (resolution_of system) ticks
