use Rattle.code_units.proofs.CheapUnits.{codes_cheap}
use Rattle.code_units.proofs.laws.codes_cost_what_trees_do.Goals as goal

pub returns : goal.returns
returns c = codes_cheap
