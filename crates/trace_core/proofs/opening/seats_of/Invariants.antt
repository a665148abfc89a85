use Rattle.trace_core.proofs.OpeningLaws.{SeatedSoFar}
use Rattle.trace_core.proofs.opening.seats_of.Given as goal

abbrev pub invariant-loop-instance : goal.invariant-loop-instance
invariant-loop-instance l = SeatedSoFar l.snaps l.seats.items l.units l.instance
