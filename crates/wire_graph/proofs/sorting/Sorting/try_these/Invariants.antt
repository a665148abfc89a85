use Rattle.wire_graph.specs.Sorting.{IsSorting, Grows}
use Rattle.wire_graph.proofs.sorting.Sorting.try_these.Given as goal

abbrev pub invariant-loop-place : goal.invariant-loop-place
invariant-loop-place l = IsSorting l.routes l.self.places.items l.self.placed.items × Grows l.initial.self.places.items l.self.places.items
