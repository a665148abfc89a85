use Rattle.link_laws.proofs.PassLaws.{passes_close}
use Rattle.link_laws.proofs.laws.passes_are_enough.Goals as goal

pub returns : goal.returns
returns c = passes_close
