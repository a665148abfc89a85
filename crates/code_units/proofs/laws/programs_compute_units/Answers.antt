use Rattle.code_units.proofs.UnitsCompute.{units_compute}
use Rattle.code_units.proofs.laws.programs_compute_units.Goals as goal

pub returns : goal.returns
returns c = units_compute
