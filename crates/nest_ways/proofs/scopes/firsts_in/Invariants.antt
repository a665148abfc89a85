use Rattle.std.proofs.Common.{◌≡◌, length}
use Rattle.nest_ways.specs.Reaching.{AreAlike}
use Rattle.nest_ways.proofs.scopes.firsts_in.Given as goal

abbrev pub invariant-loop-offset : goal.invariant-loop-offset
invariant-loop-offset l = AreAlike l.scopes l.group l.firsts.items × (length l.firsts.items ≡ l.offset)
