use Rattle.work_crew.proofs.Hands.{fewer_left_in}
use Rattle.work_crew.proofs.worker.Tickets.give_back.Goals as goal

pub loop-ticket-smaller : goal.loop-ticket-smaller
loop-ticket-smaller g c = fewer_left_in c.loop-ticket.self.hand c.next.new.self c.in-Some.ticket c.in-Some.ensures.some
