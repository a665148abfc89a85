use Rattle.guess_board.proofs.ChainLaws.{is_short}
use Rattle.guess_board.proofs.laws.chains_are_short.Goals as goal

pub returns : goal.returns
returns c = is_short
