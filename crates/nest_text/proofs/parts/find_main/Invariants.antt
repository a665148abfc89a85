use Rattle.std.proofs.Common.{length}
use Rattle.nest_text.proofs.TextCuts.{MainLeft}
use Rattle.nest_text.proofs.parts.find_main.Given as goal

abbrev pub invariant-loop-rest : goal.invariant-loop-rest
invariant-loop-rest l = MainLeft l.text l.rest l.number

abbrev pub decreases-loop-rest : goal.decreases-loop-rest
decreases-loop-rest l = length l.rest
