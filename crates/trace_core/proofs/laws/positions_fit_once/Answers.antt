use Rattle.trace_core.proofs.FitLaws.{fits_once}
use Rattle.trace_core.proofs.laws.positions_fit_once.Goals as goal

pub returns : goal.returns
returns c = fits_once
