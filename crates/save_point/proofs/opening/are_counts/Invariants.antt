use Rattle.std.proofs.Common.{◌≡◌, length, map, take}
use Rattle.save_point.proofs.opening.are_counts.Given as goal

abbrev pub invariant-loop-instance : goal.invariant-loop-instance
invariant-loop-instance l = take l.instance l.counts ≡ map length (take l.instance l.run.stand.at.states)
