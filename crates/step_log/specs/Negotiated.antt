-- How the code finds what is agreed on, from the cells of a run. No promise depends on these definitions.
use Rattle.std.specs.Prelude.{◌≡◌, ◌<◌, ℕ, false, List, length, slice_get, Option, Some}
use Rattle.std.specs.Option.{option_map}
use Rattle.event_runs.specs.Offers.{Steps, agreed_by}
use Rattle.event_runs.specs.Readings.{offers_of, pace_of}
use Rattle.step_log.specs.Steps.{limiter_by, limits_by, shortening_by, unless}
use Rattle.step_counts.specs.declared.step.Limiter.{Limiter}
use Rattle.step_counts.specs.declared.step.Shortening.{Shortening}
use Rattle.trace_core.specs.Runs.{RunState, is_filled}
use Rattle.unit_tree.specs.Successor.{first_told, step_end_of, steps_by}

-- No step of the phase was made yet.
abbrev pub IsBegun : RunState → Type 0
IsBegun r = (instance : ℕ) → instance < length r.plan.run.members → option_map is_filled (slice_get r.cells instance) ≡ Some false

-- The limits at the stand of a run.
abbrev pub limits_of : RunState → List (Option ℕ)
limits_of r = limits_by (pace_of r.plan.run) r.stand.at (offers_of r.plan.run r.stand.at r.stand.ports).limits

-- What limits a step of length h from there.
abbrev pub limiter_of : RunState → ℕ → Limiter
limiter_of r h = limiter_by (pace_of r.plan.run) r.stand.at (limits_of r) h

-- The results of the steps of length h from there.
abbrev pub trial_of : RunState → ℕ → Steps
trial_of r h = steps_by r.plan.run r.stand.at r.stand.ports h

-- The least reply to a step of length h. There is none where a step met a fault.
abbrev pub least_reply : RunState → ℕ → Option ℕ
least_reply r h = unless (first_told step_end_of (trial_of r h)) (agreed_by (pace_of r.plan.run) r.stand.at h (trial_of r h))

-- The first instance that replies `agreed` to a step of length h.
abbrev pub shortener_of : RunState → ℕ → ℕ → Option Shortening
shortener_of r h agreed = shortening_by (pace_of r.plan.run) r.stand.at h agreed (trial_of r h)
