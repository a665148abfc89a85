use Rattle.link_nodes.proofs.RoundLaws.{rounds_keep_to_the_trace}
use Rattle.link_nodes.proofs.laws.rounds_keep.Goals as goal

pub returns : goal.returns
returns c = rounds_keep_to_the_trace
