use Rattle.std.proofs.Common.{◌-◌, length}
use Rattle.wire_graph.specs.Sorting.{IsSorting, Grows}
use Rattle.wire_graph.proofs.sorting.Sorting.follow.Given as goal

abbrev pub invariant-loop-head : goal.invariant-loop-head
invariant-loop-head l = IsSorting l.routes l.self.places.items l.self.placed.items × Grows l.initial.self.places.items l.self.places.items

abbrev pub decreases-loop-head : goal.decreases-loop-head
decreases-loop-head l = length l.routes.outputs - l.head
