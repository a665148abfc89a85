use Rattle.std.proofs.Common.{◌≡◌, ◌++◌}
use Rattle.std.specs.List.{flat_map}
use Rattle.step_counts.specs.Counts.{below}
use Rattle.step_counts.specs.Ranks.{at_rank}
use Rattle.step_counts.specs.Summaries.{instance_line}
use Rattle.step_counts.proofs.text.append_instances.Given as goal

abbrev pub invariant-loop-rank : goal.invariant-loop-rank
invariant-loop-rank l =
    l.out.items ≡ l.fn.out.items ++ flat_map (λ rank. instance_line l.system l.faulted (at_rank l.faulted l.instances rank)) (below l.rank)
