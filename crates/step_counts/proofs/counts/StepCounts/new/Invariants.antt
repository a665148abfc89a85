use Rattle.std.proofs.Common.{◌≡◌, []}
use Rattle.step_counts.specs.Counts.{all_counts}
use Rattle.step_counts.proofs.counts.StepCounts.new.Given as goal

abbrev pub invariant-loop-instance : goal.invariant-loop-instance
invariant-loop-instance l = l.list.items ≡ all_counts l.instance []
