use Rattle.std.proofs.Common.{◌≡◌}
use Rattle.spec_core.specs.Rounds.{DoesAll, draw_after, drawn_from}
use Rattle.spec_core.proofs.rounds.let_workers_act.Given as goal

abbrev pub invariant-loop : goal.invariant-loop
invariant-loop l = record {
  did : DoesAll (drawn_from l.initial.draw l.workers l.instances l.counter) l.initial.world l.initial.replies l.world l.replies;
  draw : l.draw ≡ draw_after l.initial.draw l.counter;
}
