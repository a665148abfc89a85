use Rattle.text_accept.proofs.Acceptance.{judged_once}
use Rattle.text_accept.proofs.laws.texts_are_judged_once.Goals as goal

pub returns : goal.returns
returns c = judged_once
