use Rattle.std.proofs.Common.{length}
use Rattle.unit_text.proofs.ReadingLaws.{BlankSoFar}
use Rattle.unit_text.proofs.reading.header_of.Given as goal

abbrev pub invariant-loop-rest : goal.invariant-loop-rest
invariant-loop-rest l = BlankSoFar l.text l.rest l.number

abbrev pub decreases-loop-rest : goal.decreases-loop-rest
decreases-loop-rest l = length l.rest
