use Rattle.ticket_deque.proofs.Rules.{takes}
use Rattle.ticket_deque.proofs.reach.steal_first.Goals as goal

pub steal_as-requires-clause-takes : goal.steal_as-requires-clause-takes
steal_as-requires-clause-takes g c = takes _ _
