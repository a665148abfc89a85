use Rattle.spec_core.specs.Rounds.{AreServedAll}
use Rattle.spec_core.proofs.rounds.serve_all.Given as goal

abbrev pub invariant-loop-instance : goal.invariant-loop-instance
invariant-loop-instance l = AreServedAll l.instance l.initial.world l.initial.replies l.world l.replies
