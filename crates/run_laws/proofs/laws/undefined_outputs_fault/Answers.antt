use Rattle.run_laws.proofs.AssignmentLaws.{undefined_faults}
use Rattle.run_laws.proofs.laws.undefined_outputs_fault.Goals as goal

pub returns : goal.returns
returns c = undefined_faults
