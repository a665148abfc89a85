use Rattle.std.proofs.Common.{◌≡◌}
use Rattle.crossbeam_deque.specs.Handles.{view, IsPassOf, SamePass, stealer_deque}
use Rattle.ticket_deque.proofs.reach.steal_first.Given as goal

abbrev pub invariant-loop : goal.invariant-loop
invariant-loop g l = SamePass l.initial.pass l.pass × IsPassOf (stealer_deque l.stealer) l.pass × (view l.pass ≡ view l.initial.pass)
