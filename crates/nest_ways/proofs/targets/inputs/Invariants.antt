use Rattle.std.proofs.Common.{◌≡◌, ◌++◌, drop}
use Rattle.nest_ways.specs.Reaching.{inputs_at}
use Rattle.nest_ways.proofs.targets.inputs.Given as goal

abbrev pub invariant-loop-end : goal.invariant-loop-end
invariant-loop-end l =
    l.spots ++ inputs_at l.names l.scopes l.base (drop l.end-index l.ends) ≡ inputs_at l.names l.scopes l.base l.ends
