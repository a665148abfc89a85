use Rattle.trace_core.proofs.RestoredWords.{Giving}
use Rattle.trace_core.proofs.opening_at.restore_words.Given as goal

abbrev pub invariant-loop-instance : goal.invariant-loop-instance
invariant-loop-instance l = Giving l.fn.units l.words l.units l.instance l.rest
