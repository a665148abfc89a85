use Rattle.nest_ways.specs.Reaching.{AreInside}
use Rattle.nest_ways.proofs.scopes.inner_in.Given as goal

abbrev pub invariant-loop-instance : goal.invariant-loop-instance
invariant-loop-instance l = AreInside l.scopes l.group l.inner.items
