use Rattle.ticket_deque.proofs.OnceLaws as onces
use Rattle.ticket_deque.proofs.laws.each_place_taken_once.Goals as goal

pub returns : goal.returns
returns g c = onces.each_place_taken_once _
