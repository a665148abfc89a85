use Rattle.std.proofs.Common.{◌≡◌}
use Rattle.work_crew.proofs.coordinator.look.Given as goal

abbrev pub invariant-loop-turn : goal.invariant-loop-turn
invariant-loop-turn g l = l.run ≡ l.initial.run
