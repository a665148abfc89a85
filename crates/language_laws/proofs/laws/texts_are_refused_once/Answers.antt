use Rattle.language_laws.proofs.RefusalLaws.{refused_once}
use Rattle.language_laws.proofs.laws.texts_are_refused_once.Goals as goal

pub returns : goal.returns
returns c = refused_once
