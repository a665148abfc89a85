use Rattle.spec_core.proofs.KnowLaws.{every_interleaving_is_told_lem}
use Rattle.spec_core.proofs.laws.every_interleaving_is_told.Goals as goal

pub returns : goal.returns
returns c = every_interleaving_is_told_lem
