use Rattle.spec_core.proofs.TicketSums.{all_tickets_add_up, tickets_add_up, tickets_are_out}
use Rattle.spec_core.proofs.laws.tickets_are_in_hands.Goals as goal

pub returns-clause-out : goal.returns-clause-out
returns-clause-out c = tickets_are_out

pub returns-clause-lanes : goal.returns-clause-lanes
returns-clause-lanes c = tickets_add_up

pub returns-clause-sums : goal.returns-clause-sums
returns-clause-sums c = all_tickets_add_up
