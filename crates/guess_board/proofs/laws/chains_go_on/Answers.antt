use Rattle.guess_board.proofs.ChainLaws.{goes_on}
use Rattle.guess_board.proofs.laws.chains_go_on.Goals as goal

pub returns : goal.returns
returns c = goes_on
