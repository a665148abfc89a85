use Rattle.unit_text.proofs.AnswerLaws.{answered_once}
use Rattle.unit_text.proofs.KnownForms.{known}
use Rattle.unit_text.proofs.laws.texts_are_answered_once.Goals as goal

pub returns : goal.returns
returns c = answered_once known
