use Rattle.std.proofs.Common.{ap}
use Rattle.ticket_deque.proofs.Rules.{takes, hand_next}
use Rattle.ticket_deque.proofs.hand.Hand.next.Goals as goal

pub pop_as-requires-clause-fifo : goal.pop_as-requires-clause-fifo
pop_as-requires-clause-fifo g c = λ _. takes _ _

pub returns-clause-some : goal.returns-clause-some
returns-clause-some g c =
    let owner = c.self.invariant.owner in
    hand_next c.pop_as.result _ _ _ _ _ owner.0 owner.1 _ c.self.view_is (ap (λ d. d.0) c.pop_as.ensures.same.0.0) owner.2 c.pop_as.ensures.rule
