use Rattle.ticket_deque.proofs.OnceLaws as onces
use Rattle.ticket_deque.proofs.laws.each_item_once.Goals as goal

pub returns : goal.returns
returns g c = onces.each_item_once _
