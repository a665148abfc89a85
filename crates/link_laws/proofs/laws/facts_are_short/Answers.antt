use Rattle.link_laws.proofs.ShortFacts.{fact_is_short}
use Rattle.link_laws.proofs.laws.facts_are_short.Goals as goal

pub returns : goal.returns
returns c = fact_is_short
