use Rattle.std.proofs.Common.{◌∷◌, [], drop}
use Rattle.std.specs.List.{flat_map}
use Rattle.sub_flat.specs.FlatReading.{wire_between}
use Rattle.sub_flat.proofs.PutLaws.{PutSoFar}
use Rattle.sub_flat.proofs.flat.put_to.Given as goal

abbrev pub invariant-loop-one : goal.invariant-loop-one
invariant-loop-one l =
    PutSoFar 2048 l.initial.wires l.wires (flat_map (λ to. wire_between l.from to ∷ []) (drop l.one-index l.to))
    (flat_map (λ to. wire_between l.from to ∷ []) l.to)
