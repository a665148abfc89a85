use Rattle.save_point.proofs.PositionTexts.{position_is_saved}
use Rattle.save_point.proofs.laws.positions_are_saved.Goals as goal

pub returns : goal.returns
returns c = position_is_saved
