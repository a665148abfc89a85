use Rattle.std.proofs.Common.{length}
use Rattle.unit_text.proofs.ReadingLaws.{Reached}
use Rattle.unit_text.proofs.reading.read_lines.Given as goal

abbrev pub invariant-loop-rest : goal.invariant-loop-rest
invariant-loop-rest l = Reached l.text l.rest l.header l.number l.draft l.marks.items

abbrev pub decreases-loop-rest : goal.decreases-loop-rest
decreases-loop-rest l = length l.rest
