-- The step that the members of a run agree on at a position, by the results of their calls there.
use Rattle.std.specs.Prelude.{ℕ, suc, ◌-◌, ◌==◌, nat_lt, List, [], ◌∷◌, map, zip, if◌then◌else◌, Option, Some, None, Result, Ok}
use Rattle.std.specs.List.{count_by, enumerate_from}
use Rattle.event_runs.specs.Offers.{Limits, Offers, Pace, Steps, agreed_by, limit_with, proposal_at}
use Rattle.step_counts.specs.declared.step.AgreedStep.{AgreedStep}
use Rattle.step_counts.specs.declared.step.Limiter.{Limiter}
use Rattle.step_counts.specs.declared.step.Limiter.TheVariants as limiter
use Rattle.step_counts.specs.declared.step.Shortening.{Shortening}
use Rattle.unit_tree.specs.Components.{Moved}
use Rattle.unit_tree.specs.Negotiation.{is_held, reply_of}
use Rattle.unit_tree.specs.Ports.{first_some}
use Rattle.unit_tree.specs.Successor.{Position, first_told, max_end_of, step_end_of, when}
use Rattle.unit_tree.specs.declared.ending.Ending.{Ending}
use Rattle.unit_tree.specs.declared.ending.Ending.TheVariants.{Completed, RowBudget}
use Rattle.fixed_words.specs.declared.types.Fault.{Fault}

-- The first thing that one of the items gives. Items are numbered from 0.
abbrev pub first_given : {A B : Type 0} → (ℕ × A → Option B) → List A → Option B
first_given give items = first_some (map give (enumerate_from 0 items))

-- ---- What limits the proposed step

-- The limits that the members set to a step, one after the other, by the results of their `max`.
abbrev pub limits_by : Pace → Position → Limits → List (Option ℕ)
limits_by pace at limits = map (limit_with at.point.t) (zip pace.factors limits)

-- An instance whose limit is h.
abbrev pub limited_to : ℕ → ℕ × Option ℕ → Option ℕ
limited_to h (instance, Some limit) = when (limit == h) instance
limited_to h (instance, None) = None

-- This instance, where there is one. Otherwise it is the stop where the step goes to the stop, and else `longest`.
abbrev pub limiter_or : Option ℕ → ℕ → ℕ → Limiter
limiter_or (Some instance) left h = limiter.Instance instance
limiter_or None left h = if left == h then limiter.Stop else limiter.Longest

-- What limits a step of length h: the first instance whose limit it is, and otherwise the stop or `longest`.
abbrev pub limiter_by : Pace → Position → List (Option ℕ) → ℕ → Limiter
limiter_by pace at limits h = limiter_or (first_given (limited_to h) limits) (pace.stop - at.point.t) h

-- ---- Who shortens it

-- An instance that replies `agreed` to a step of length h, with the local ticks that it accepted.
abbrev pub shortened_to : ℕ → ℕ → ℕ → ℕ × (ℕ × Option (Result Moved Fault)) → Option Shortening
shortened_to t h agreed (instance, (factor, Some (Ok moved))) =
    when (reply_of factor t h moved.accepted == agreed) (record { instance = instance; accepted = moved.accepted })
shortened_to t h agreed (instance, (factor, step)) = None

-- The first instance that replies the agreed step, where this is less than h.
abbrev pub shortening_by : Pace → Position → ℕ → ℕ → Steps → Option Shortening
shortening_by pace at h agreed trial =
    if nat_lt agreed h then first_given (shortened_to at.point.t h agreed) (zip pace.factors trial) else None

-- ---- The agreed step

-- How many members are held in a step of length h from t.
abbrev pub held_in : Pace → ℕ → ℕ → ℕ
held_in pace t h = count_by (λ factor. is_held factor t h) pace.factors

-- What the members agree on, by their limits, the proposed step, and the results of their steps of this length.
abbrev pub agreement_by : Pace → Position → Limits → ℕ → Steps → AgreedStep
agreement_by pace at limits h trial = record {
  point = at.point;
  proposed = h;
  limiter = limiter_by pace at (limits_by pace at limits) h;
  agreed = agreed_by pace at h trial;
  shortening = shortening_by pace at h (agreed_by pace at h trial) trial;
  held = held_in pace at.point.t (agreed_by pace at h trial);
}

-- How a run ends at a position before its members agree on a step, if it does: by the fault of an output, of a `max` or of a step,
-- at the stop, or with the last row.
abbrev pub end_before : Pace → Position → Option Ending → Limits → Steps → Option Ending
end_before pace at fault limits trial =
    first_some
    (fault
    ∷ when (at.point.t == pace.stop) Completed
    ∷ when (suc at.number == pace.row_budget) RowBudget
    ∷ first_told max_end_of limits
    ∷ first_told step_end_of trial
    ∷ [])

-- This, unless there is an ending.
abbrev pub unless : {A : Type 0} → Option Ending → A → Option A
unless None given = Some given
unless (Some ending) given = None

abbrev pub step_by : Pace → Position → Option Ending → Limits → ℕ → Steps → Option AgreedStep
step_by pace at fault limits h trial = unless (end_before pace at fault limits trial) (agreement_by pace at limits h trial)

-- The agreed step of a position, where the members come to agree on one. A component may refuse it when it is made again, and the
-- zero budget may not allow it; the run then ends.
abbrev pub step_at : Pace → Position → Offers → Option AgreedStep
step_at pace at offers =
    step_by pace at offers.fault offers.limits (proposal_at pace at offers) (offers.steps (proposal_at pace at offers))
