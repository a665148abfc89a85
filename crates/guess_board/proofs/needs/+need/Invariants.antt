use Rattle.std.proofs.Common.{length}
use Rattle.guess_board.proofs.needs.+need.Given as goal

abbrev pub decreases-need : goal.decreases-need
decreases-need l = length l.line.now
