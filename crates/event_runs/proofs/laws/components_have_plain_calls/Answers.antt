use Rattle.event_runs.proofs.CallLaws.{plain_calls}
use Rattle.event_runs.proofs.laws.components_have_plain_calls.Goals as goal

pub returns : goal.returns
returns c = plain_calls
