use Rattle.spec_core.specs.Rounds.{DoesAll, publishes}
use Rattle.spec_core.proofs.rounds.publish_all.Given as goal

abbrev pub invariant-loop-instance : goal.invariant-loop-instance
invariant-loop-instance l = DoesAll (publishes l.instance) l.initial.world l.initial.replies l.world l.replies
