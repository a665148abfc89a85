use Rattle.save_point.proofs.PositionsOnce.{one_position}
use Rattle.save_point.proofs.laws.numbers_have_one_position.Goals as goal

pub returns : goal.returns
returns c = one_position
