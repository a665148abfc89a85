use Rattle.language_laws.proofs.PartLaws.{system_is}
use Rattle.language_laws.proofs.laws.canonical_parts_say_the_system.Goals as goal

pub returns : goal.returns
returns c = system_is
