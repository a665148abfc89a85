use Rattle.ticket_deque.proofs.Rules.{admits}
use Rattle.ticket_deque.proofs.reach.Reach.of.Goals as goal

pub pass-requires : goal.pass-requires
pass-requires g c = admits
