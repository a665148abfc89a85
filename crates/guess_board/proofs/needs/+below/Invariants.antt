use Rattle.std.proofs.Common.{length}
use Rattle.guess_board.proofs.needs.+below.Given as goal

abbrev pub decreases-below : goal.decreases-below
decreases-below l = length l.slots.now
