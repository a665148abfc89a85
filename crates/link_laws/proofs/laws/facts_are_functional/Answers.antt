use Rattle.link_laws.proofs.BoardLaws.{one_fact}
use Rattle.link_laws.proofs.laws.facts_are_functional.Goals as goal

pub returns : goal.returns
returns c = one_fact
