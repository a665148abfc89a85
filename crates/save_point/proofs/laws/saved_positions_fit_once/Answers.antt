use Rattle.save_point.proofs.PositionsOnce.{fits_one_or_none}
use Rattle.save_point.proofs.laws.saved_positions_fit_once.Goals as goal

pub returns : goal.returns
returns c = fits_one_or_none
