use Rattle.event_runs.proofs.FaultLaws.{fault_is_read}
use Rattle.event_runs.proofs.laws.faults_are_read.Goals as goal

pub returns : goal.returns
returns c = fault_is_read
