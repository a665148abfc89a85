use Rattle.std.proofs.Common.{map, arith}
use Rattle.link_core.proofs.LoopLaws.{one_made, value_there, as_many_values}
use Rattle.link_core.proofs.notes.fill.Goals as goal

pub loop-place-preserved : goal.loop-place-preserved
loop-place-preserved g c =
    one_made c.loop-place.items.items (map (λ item. c.args.value) c.args.items.now.items) c.loop-place.place c.args.value
    (omega (arith, c.loop-place-test.true, as_many_values c.args.items.now.items c.args.value, c.loop-place.invariant.long))
    (value_there c.args.items.now.items c.args.value c.loop-place.place) c.loop-place.invariant
