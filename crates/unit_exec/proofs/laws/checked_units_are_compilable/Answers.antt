use Rattle.unit_exec.proofs.CheckedUnits.{checked_units}
use Rattle.unit_exec.proofs.laws.checked_units_are_compilable.Goals as goal

pub returns : goal.returns
returns c = checked_units
