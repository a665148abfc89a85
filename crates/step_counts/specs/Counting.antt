-- How the code counts. `HasRoom` is what a call requires; no promise depends on the other definitions.
use Rattle.std.specs.Prelude.{◌<◌, ◌+◌, ℕ, Bool, if◌then◌else◌, Some}
use Rattle.std.specs.List.{AllByRecursion}
use Rattle.model_rules.specs.Limits.{rows_limit}
use Rattle.step_counts.specs.Counts.{is_limited_by, is_shortened_by, lesser}
use Rattle.step_counts.specs.declared.counts.InstanceCounts.{InstanceCounts}
use Rattle.step_counts.specs.declared.counts.StepCounts.{StepCounts}
use Rattle.step_counts.specs.declared.step.AgreedStep.{AgreedStep}

abbrev pub once : Bool → ℕ
once told = if told then 1 else 0

-- The counts of an instance with one step more.
abbrev pub with_step : InstanceCounts → AgreedStep → InstanceCounts
with_step counts step = record {
  instance = counts.instance;
  limited = counts.limited + once (is_limited_by counts.instance step);
  shortened = counts.shortened + once (is_shortened_by counts.instance step);
  least_limit = if is_limited_by counts.instance step then Some (lesser counts.least_limit step.proposed) else counts.least_limit;
}

-- The counts of an instance are below the greatest number of rows.
pub record IsBelowRows (counts : InstanceCounts) : Type 0 where
  pub limited : counts.limited < rows_limit
  pub shortened : counts.shortened < rows_limit

-- So few steps were counted that one more may be.
pub record HasRoom (counts : StepCounts) : Type 0 where
  pub steps : counts.steps < rows_limit
  pub redone : counts.redone < rows_limit
  pub to_stop : counts.to_stop < rows_limit
  pub longest : counts.longest < rows_limit
  pub instances : AllByRecursion IsBelowRows counts.instances.items
