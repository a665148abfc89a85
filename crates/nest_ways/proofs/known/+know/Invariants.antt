use Rattle.std.proofs.Common.{◌+◌, ◌*◌}
use Rattle.nest_ways.specs.Reaching.{AreKnown}
use Rattle.nest_ways.proofs.known.+know.Given as goal

abbrev pub invariant-know-loop-line : goal.invariant-know-loop-line
invariant-know-loop-line l = AreKnown l.names l.scopes l.known.items

abbrev pub decreases-know : goal.decreases-know
decreases-know l = 2 * l.depth

abbrev pub decreases-know_line : goal.decreases-know_line
decreases-know_line l = 2 * l.depth + 1
