use Rattle.std.proofs.Common.{◌≡◌, ◌++◌, drop}
use Rattle.std.specs.List.{flat_map}
use Rattle.nest_names.specs.Flattening.{expand}
use Rattle.nest_names.proofs.scope.one_level.Given as goal

abbrev pub invariant-loop-spot : goal.invariant-loop-spot
invariant-loop-spot l = l.expanded ++ flat_map (expand l.names) (drop l.spot-index l.spots) ≡ flat_map (expand l.names) l.spots
