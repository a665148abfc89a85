use Rattle.std.proofs.Common.{List, ◌++◌, map, take}
use Rattle.std.specs.List.{flat_map}
use Rattle.nest_ways.specs.Reaching.{ReadsAlike, SameKept, onward}
use Rattle.nest_names.specs.declared.scope.Spot.{Spot}
use Rattle.nest_ways.specs.declared.ends.End.{End}
use Rattle.nest_ways.proofs.ends.are_among.Given as goal

abbrev pub invariant-loop-end : goal.invariant-loop-end
invariant-loop-end l =
    (input : End → List Spot) → ReadsAlike l.firsts input
    → SameKept (flat_map input l.ends) (flat_map input (l.ends ++ map (onward l.offset) (take l.end-index l.inner)))
