use Rattle.event_runs.proofs.TurnLaws.{next_same, successor_is}
use Rattle.event_runs.proofs.laws.successors_are_by_offers.Goals as goal

pub returns : goal.returns
returns c = record { successor = successor_is; same = next_same }
