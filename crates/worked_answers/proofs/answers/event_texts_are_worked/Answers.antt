use Rattle.std.proofs.Common.{refl}
use Rattle.std.specs.Fmt.{digits}
use Rattle.worked_answers.proofs.answers.event_texts_are_worked.Goals as goal

pub returns : goal.returns
unfolding digits
returns c = record { all = refl; sampled = refl; zero = refl }
