use Rattle.nest_ways.specs.Reaching.{AreKnown}
use Rattle.nest_ways.proofs.known.know_all.Given as goal

abbrev pub invariant-loop-scope : goal.invariant-loop-scope
invariant-loop-scope l = AreKnown l.names l.scopes l.known.items
