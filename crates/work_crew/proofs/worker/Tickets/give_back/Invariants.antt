use Rattle.work_crew.proofs.Hands.{left_in}
use Rattle.work_crew.proofs.worker.Tickets.give_back.Given as goal

abbrev pub decreases-loop-ticket : goal.decreases-loop-ticket
decreases-loop-ticket g l = left_in l.self.hand
