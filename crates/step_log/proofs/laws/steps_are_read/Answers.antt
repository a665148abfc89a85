use Rattle.step_log.proofs.EventReports.{steps_read}
use Rattle.step_log.proofs.laws.steps_are_read.Goals as goal

pub returns : goal.returns
returns c = steps_read
