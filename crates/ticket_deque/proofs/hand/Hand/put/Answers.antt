use Rattle.ticket_deque.proofs.Rules.{puts}
use Rattle.ticket_deque.proofs.hand.Hand.put.Goals as goal

pub push_as-requires-clause-pushes : goal.push_as-requires-clause-pushes
push_as-requires-clause-pushes g c = puts _ _ _ c.self.invariant.first
