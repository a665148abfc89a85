use Rattle.nest_runs.proofs.WorkedWays.{worked}
use Rattle.nest_runs.proofs.worked.a_nest_is_worked.Goals as goal

pub returns-clause-ports : goal.returns-clause-ports
returns-clause-ports c = worked
