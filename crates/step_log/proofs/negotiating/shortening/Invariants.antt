use Rattle.step_log.proofs.Agreements.{ShortenedFrom}
use Rattle.step_log.proofs.negotiating.shortening.Given as goal

abbrev pub invariant-loop-instance : goal.invariant-loop-instance
invariant-loop-instance l = ShortenedFrom l.run l.h l.agreed l.instance
