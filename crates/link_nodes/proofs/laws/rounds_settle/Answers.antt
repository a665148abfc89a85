use Rattle.link_nodes.proofs.SettledLaws.{rounds_settle_all}
use Rattle.link_nodes.proofs.laws.rounds_settle.Goals as goal

pub returns : goal.returns
returns c = rounds_settle_all
