use Rattle.std.proofs.Common.{length}
use Rattle.guess_board.proofs.needs.+matching.Given as goal

abbrev pub decreases-matching : goal.decreases-matching
decreases-matching l = length l.line.now
