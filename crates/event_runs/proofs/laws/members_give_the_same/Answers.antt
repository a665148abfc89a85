use Rattle.event_runs.proofs.OfferLaws.{give_the_same}
use Rattle.event_runs.proofs.laws.members_give_the_same.Goals as goal

pub returns : goal.returns
returns c = give_the_same
