use Rattle.run_laws.proofs.AssignmentLaws.{one_assignment}
use Rattle.run_laws.proofs.laws.assignments_are_unique.Goals as goal

pub returns : goal.returns
returns c = one_assignment
