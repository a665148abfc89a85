use Rattle.std.specs.List.{AllZip}
use Rattle.std.specs.Prelude.{take}
use Rattle.spec_core.specs.Keeping.{IsUnitOf}
use Rattle.spec_core.proofs.opening.units_of.Given as goal

abbrev pub invariant-loop-lane : goal.invariant-loop-lane
invariant-loop-lane l = AllZip IsUnitOf (take l.lane-index l.lanes) l.units.items
