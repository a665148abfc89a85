use Rattle.std.proofs.Common.{◌+◌, ◌*◌, drop}
use Rattle.std.specs.List.{flat_map}
use Rattle.sub_flat.specs.FlatReading.{wires_inside}
use Rattle.sub_flat.proofs.PutLaws.{PutSoFar}
use Rattle.sub_flat.proofs.flat.+wires.Given as goal

abbrev pub invariant-put_wires-loop-instance : goal.invariant-put_wires-loop-instance
invariant-put_wires-loop-instance l =
    PutSoFar 2048 l.initial.wires l.wires (flat_map (wires_inside l.names l.depth l.scope) (drop l.instance-index l.instance-items))
    (flat_map (wires_inside l.names l.depth l.scope) l.instance-items)

abbrev pub decreases-put_wires_inside : goal.decreases-put_wires_inside
decreases-put_wires_inside l = 2 * l.depth

abbrev pub decreases-put_wires : goal.decreases-put_wires
decreases-put_wires l = 2 * l.depth + 1
