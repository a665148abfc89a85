use Rattle.save_point.proofs.SavedTraces.{can_be_resumed}
use Rattle.save_point.proofs.laws.traces_can_be_resumed.Goals as goal

pub returns : goal.returns
returns c = can_be_resumed
