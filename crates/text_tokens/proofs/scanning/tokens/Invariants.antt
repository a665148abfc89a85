use Rattle.std.proofs.Common.{length}
use Rattle.text_tokens.proofs.TokenLemmas.{Completes}
use Rattle.text_tokens.proofs.scanning.tokens.Given as goal

abbrev pub invariant-loop-rest : goal.invariant-loop-rest
invariant-loop-rest l = Completes l.line l.tokens l.rest

abbrev pub decreases-loop-rest : goal.decreases-loop-rest
decreases-loop-rest l = length l.rest
