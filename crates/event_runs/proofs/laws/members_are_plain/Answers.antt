use Rattle.event_runs.proofs.SystemMembers.{members_plain}
use Rattle.event_runs.proofs.laws.members_are_plain.Goals as goal

pub returns : goal.returns
returns c = members_plain
