use Rattle.std.proofs.Common.{◌≡◌, ◌++◌, drop, map}
use Rattle.nest_names.specs.Flattening.{spot_in}
use Rattle.nest_names.specs.Tables.{items_at}
use Rattle.nest_names.proofs.scope.put_expanded.Given as goal

abbrev pub invariant-loop-line : goal.invariant-loop-line
invariant-loop-line l =
    l.spots ++ map (spot_in l.scope) (items_at l.ins (drop l.line-index l.line-items))
    ≡ l.initial.spots ++ map (spot_in l.scope) (items_at l.ins l.line-items)
