use Rattle.run_laws.proofs.Rests.{tail}
use Rattle.run_laws.proofs.laws.tails_go_on.Goals as goal

pub returns : goal.returns
returns c = tail
