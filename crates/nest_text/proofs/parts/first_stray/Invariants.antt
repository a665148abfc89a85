use Rattle.std.proofs.Common.{length}
use Rattle.nest_text.proofs.LineWalks.{StraysLeft}
use Rattle.nest_text.proofs.parts.first_stray.Given as goal

abbrev pub invariant-loop-rest : goal.invariant-loop-rest
invariant-loop-rest l = StraysLeft l.text l.rest l.number l.place

abbrev pub decreases-loop-rest : goal.decreases-loop-rest
decreases-loop-rest l = length l.rest
