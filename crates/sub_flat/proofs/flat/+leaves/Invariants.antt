use Rattle.std.proofs.Common.{◌+◌, ◌*◌, drop}
use Rattle.std.specs.List.{flat_map}
use Rattle.sub_flat.specs.FlatReading.{leaves_inside}
use Rattle.sub_flat.proofs.PutLaws.{PutSoFar}
use Rattle.sub_flat.proofs.flat.+leaves.Given as goal

abbrev pub invariant-put_leaves-loop-instance : goal.invariant-put_leaves-loop-instance
invariant-put_leaves-loop-instance l =
    PutSoFar 64 l.initial.instances l.instances (flat_map (leaves_inside l.names l.depth l.scope) (drop l.instance-index l.instance-items))
    (flat_map (leaves_inside l.names l.depth l.scope) l.instance-items)

abbrev pub decreases-put_inside : goal.decreases-put_inside
decreases-put_inside l = 2 * l.depth

abbrev pub decreases-put_leaves : goal.decreases-put_leaves
decreases-put_leaves l = 2 * l.depth + 1
