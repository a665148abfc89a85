use Rattle.nest_ways.specs.Reaching.{AreKnown}
use Rattle.nest_ways.proofs.known.know_targets.Given as goal

abbrev pub invariant-loop-wire : goal.invariant-loop-wire
invariant-loop-wire l = AreKnown l.names l.scopes l.known.items
