use Rattle.std.proofs.Common.{length}
use Rattle.nest_text.proofs.GroupWalks.{GatheredSoFar}
use Rattle.nest_text.proofs.groups.gather.Given as goal

abbrev pub invariant-loop-alloc : goal.invariant-loop-alloc
invariant-loop-alloc l = GatheredSoFar l.text l.before l.initial.body l.rest l.number l.body

abbrev pub decreases-loop-alloc : goal.decreases-loop-alloc
decreases-loop-alloc l = length l.rest
