use Rattle.wire_graph.proofs.CycleLaws.{cycles_are_judged_once}
use Rattle.wire_graph.proofs.laws.cycles_are_judged_once.Goals as goal

pub returns : goal.returns
returns c = cycles_are_judged_once
