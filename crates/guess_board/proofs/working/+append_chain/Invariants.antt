use Rattle.std.proofs.Common.{length}
use Rattle.guess_board.proofs.working.+append_chain.Given as goal

abbrev pub decreases-append_chain : goal.decreases-append_chain
decreases-append_chain l = length l.cells.now
