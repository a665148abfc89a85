use Rattle.std.proofs.Common.{[], get_or}
use Rattle.trace_core.specs.Seats.{IsCommitted, saved}
use Rattle.trace_core.proofs.LoopLaws.{Turned, SavedSoFar}
use Rattle.trace_core.proofs.steps.commit_all.Given as goal

abbrev pub invariant-loop-instance : goal.invariant-loop-instance
invariant-loop-instance l = record {
  turned : Turned (λ k old new. IsCommitted (get_or l.units.inputs k []) old new) l.fn.seats l.seats l.instance;
  so_far : SavedSoFar l.fn.seats (saved l.fn.snaps l.fn.seats) l.units.states l.instance l.snaps;
}
