use Rattle.std.proofs.Common.{◌-◌, length}
use Rattle.wire_graph.specs.Sorting.{IsSorting}
use Rattle.wire_graph.proofs.sorting.Sorting.fill.Given as goal

abbrev pub invariant-loop-self : goal.invariant-loop-self
invariant-loop-self l = IsSorting l.routes l.self.places.items l.self.placed.items

abbrev pub decreases-loop-self : goal.decreases-loop-self
decreases-loop-self l = length l.routes.outputs - length l.self.places.items
