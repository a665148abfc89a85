-- Counts of steps that the components of a run agreed on.
use Rattle.std.specs.Prelude.{◌≡◌, ℕ, zero, suc, ◌==◌, nat_lt, min, Bool, true, false, List, [], ◌∷◌, ◌++◌, map, filter, length, count_by, Option, Some, None}
use Rattle.step_counts.specs.declared.counts.InstanceCounts.{InstanceCounts}
use Rattle.step_counts.specs.declared.counts.StepCounts.{StepCounts}
use Rattle.step_counts.specs.declared.step.AgreedStep.{AgreedStep}
use Rattle.step_counts.specs.declared.step.Limiter.{Limiter}
use Rattle.step_counts.specs.declared.step.Limiter.TheVariants as limiter
use Rattle.step_counts.specs.declared.step.Shortening.{Shortening}

-- ---- Of one step

-- The limiter is the instance, the stop, or `longest`.
abbrev pub is_instance : ℕ → Limiter → Bool
is_instance instance (limiter.Instance other) = other == instance
is_instance instance _ = false

abbrev pub is_stop : Limiter → Bool
is_stop limiter.Stop = true
is_stop _ = false

abbrev pub is_longest : Limiter → Bool
is_longest limiter.Longest = true
is_longest _ = false

-- The instance limits the step.
abbrev pub is_limited_by : ℕ → AgreedStep → Bool
is_limited_by instance step = is_instance instance step.limiter

-- It is the instance that shortens a step.
abbrev pub is_shortener : ℕ → Option Shortening → Bool
is_shortener instance (Some shortening) = shortening.instance == instance
is_shortener instance None = false

-- The instance shortens the step.
abbrev pub is_shortened_by : ℕ → AgreedStep → Bool
is_shortened_by instance step = is_shortener instance step.shortening

-- The step is made again, since it is shorter than the proposed one.
abbrev pub is_redone : AgreedStep → Bool
is_redone step = nat_lt step.agreed step.proposed

-- ---- Of a list of steps

-- The lesser of a number and another one, if there is another one.
abbrev pub lesser : Option ℕ → ℕ → ℕ
lesser None number = number
lesser (Some other) number = min other number

-- The least of some numbers. No numbers have none.
abbrev pub least : List ℕ → Option ℕ
least [] = None
least (number ∷ numbers) = Some (lesser (least numbers) number)

-- What is counted of an instance.
abbrev pub counts_of : List AgreedStep → ℕ → InstanceCounts
counts_of steps instance = record {
  instance = instance;
  limited = count_by (is_limited_by instance) steps;
  shortened = count_by (is_shortened_by instance) steps;
  least_limit = least (map (λ step. step.proposed) (filter (is_limited_by instance) steps));
}

-- The numbers below a number.
abbrev pub below : ℕ → List ℕ
below zero = []
below (suc number) = below number ++ number ∷ []

-- What is counted of each instance, of so many.
abbrev pub all_counts : ℕ → List AgreedStep → List InstanceCounts
all_counts instances steps = map (counts_of steps) (below instances)

-- These are the counts of these agreed steps, for so many instances.
pub record IsCountOf (many : ℕ) (agreed : List AgreedStep) (counts : StepCounts) : Type 0 where
  pub steps : counts.steps ≡ length agreed
  pub redone : counts.redone ≡ count_by is_redone agreed
  pub to_stop : counts.to_stop ≡ count_by (λ step. is_stop step.limiter) agreed
  pub longest : counts.longest ≡ count_by (λ step. is_longest step.limiter) agreed
  pub instances : counts.instances.items ≡ all_counts many agreed
