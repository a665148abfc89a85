use Rattle.guess_board.proofs.TicketLaws.{ticket_fits}
use Rattle.guess_board.proofs.laws.tickets_fit.Goals as goal

pub returns : goal.returns
returns c = ticket_fits
