use Rattle.std.proofs.Common.{◌≡◌, length, map}
use Rattle.nest_ways.specs.Reaching.{AreAllInside}
use Rattle.nest_ways.proofs.scopes.inner_of_groups.Given as goal

abbrev pub invariant-loop-group : goal.invariant-loop-group
invariant-loop-group l = AreAllInside l.scopes (map (λ one. one.items) l.lists.items) × (length l.lists.items ≡ l.group)
