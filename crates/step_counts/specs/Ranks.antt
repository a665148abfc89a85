-- The order of instances in a summary: what to look at first.
use Rattle.std.specs.Prelude.{ℕ, ◌==◌, nat_lt, Bool, List, count_by, find, if◌then◌else◌, Option, Some, None}
use Rattle.step_counts.specs.declared.counts.InstanceCounts.{InstanceCounts}

-- How many faults an instance has, where this instance ended the run by its fault, if one did.
abbrev pub faults_of : Option ℕ → ℕ → ℕ
faults_of None instance = 0
faults_of (Some faulted) instance = if faulted == instance then 1 else 0

-- The greater number comes first. For equal numbers something else decides.
abbrev pub by_more : ℕ → ℕ → Bool → Bool
by_more one other otherwise = if one == other then otherwise else nat_lt other one

-- An instance comes before another one if it has more faults, or else if it shortens more steps, or else if it limits more steps,
-- or else if its number is less.
abbrev pub comes_before : Option ℕ → InstanceCounts → InstanceCounts → Bool
comes_before faulted one other =
    by_more (faults_of faulted one.instance) (faults_of faulted other.instance)
    (by_more one.shortened other.shortened (by_more one.limited other.limited (nat_lt one.instance other.instance)))

-- The rank of an instance: how many instances come before it.
abbrev pub rank_of : Option ℕ → List InstanceCounts → InstanceCounts → ℕ
rank_of faulted instances one = count_by (λ other. comes_before faulted other one) instances

-- The instance of a rank, if there is one.
abbrev pub at_rank : Option ℕ → List InstanceCounts → ℕ → Option InstanceCounts
at_rank faulted instances rank = find (λ one. rank_of faulted instances one == rank) instances
