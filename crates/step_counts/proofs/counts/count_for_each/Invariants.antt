use Rattle.std.proofs.Common.{◌≡◌}
use Rattle.step_counts.proofs.CountLaws.{changed_first}
use Rattle.step_counts.specs.Counting.{with_step}
use Rattle.step_counts.proofs.counts.count_for_each.Given as goal

abbrev pub invariant-loop-place : goal.invariant-loop-place
invariant-loop-place l = l.instances ≡ changed_first (λ counts. with_step counts l.step) l.place l.fn.instances
