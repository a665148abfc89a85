use Rattle.wire_graph.proofs.SortingLaws.{IsRound}
use Rattle.wire_graph.proofs.sorting.Sorting.try_all.Given as goal

abbrev pub invariant-loop-place : goal.invariant-loop-place
invariant-loop-place l = IsRound l.routes l.initial.self.places.items l.self.places.items l.self.placed.items l.place
