use Rattle.std.proofs.Common.{length}
use Rattle.trace_verify.proofs.PartingLaws.{IsPassed}
use Rattle.trace_verify.proofs.parting.part.Given as goal

abbrev pub invariant-loop-rest : goal.invariant-loop-rest
invariant-loop-rest l = IsPassed l.input l.rest

abbrev pub decreases-loop-rest : goal.decreases-loop-rest
decreases-loop-rest l = length l.rest
