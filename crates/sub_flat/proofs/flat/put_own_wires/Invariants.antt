use Rattle.std.proofs.Common.{drop}
use Rattle.std.specs.List.{flat_map}
use Rattle.nest_names.specs.Flattening.{flat_wire}
use Rattle.sub_flat.proofs.PutLaws.{PutSoFar}
use Rattle.sub_flat.proofs.flat.put_own_wires.Given as goal

abbrev pub invariant-loop-wire : goal.invariant-loop-wire
invariant-loop-wire l =
    PutSoFar 2048 l.initial.wires l.wires (flat_map (flat_wire l.names l.scope) (drop l.wire-index l.wire-items))
    (flat_map (flat_wire l.names l.scope) l.wire-items)
