use Rattle.cosim_answers.proofs.PlainFits.{saved_positions_are_read}
use Rattle.cosim_answers.proofs.laws.saved_positions_are_read.Goals as goal

pub returns : goal.returns
returns c = saved_positions_are_read
