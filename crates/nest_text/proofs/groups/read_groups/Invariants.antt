use Rattle.std.proofs.Common.{length}
use Rattle.nest_text.proofs.GroupWalks.{ReadSoFar}
use Rattle.nest_text.proofs.groups.read_groups.Given as goal

abbrev pub invariant-loop-rest : goal.invariant-loop-rest
invariant-loop-rest l = ReadSoFar l.text l.rest l.number l.groups l.heads

abbrev pub decreases-loop-rest : goal.decreases-loop-rest
decreases-loop-rest l = length l.rest
