use Rattle.std.proofs.Common.{◌<◌, ◌+◌, ◌∷◌, [], arith, length, subst, sym}
use Rattle.std.specs.List.{flat_map}
use Rattle.sub_flat.specs.FlatReading.{wire_between}
use Rattle.sub_flat.specs.declared.fault.Unflat.TheVariants.{TooLarge}
use Rattle.sub_flat.proofs.PutLaws.{one_each, put_failed}
use Rattle.sub_flat.proofs.flat.put_to.Goals as goal

pub returns-then-len-ge-MOST_CONNECTIONS : goal.returns-then-len-ge-MOST_CONNECTIONS
returns-then-len-ge-MOST_CONNECTIONS c =
    let one = wire_between c.args.from.now in
    let most = c.if-len-ge-MOST_CONNECTIONS.true in
    let long = c.len.ensures in
    let over : 2048 < length c.loop-one.wires + length (one c.one-item.result ∷ []) = omega (arith, most, long) in
    subst (λ all. 2048 < length c.args.wires.now + length all) (sym (one_each one c.args.to.now))
    (put_failed (λ to. one to ∷ []) 2048 c.args.wires.now c.loop-one.wires (flat_map (λ to. one to ∷ []) c.args.to.now) c.args.to.now c.loop-one.one-index
    c.one-item.result TooLarge c.loop-one-test.true c.one-item.is c.loop-one.invariant over)
