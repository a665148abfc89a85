use Rattle.guess_board.proofs.ChainLaws.{answered_next}
use Rattle.guess_board.proofs.laws.needs_are_answered_next.Goals as goal

pub returns : goal.returns
returns c = answered_next
