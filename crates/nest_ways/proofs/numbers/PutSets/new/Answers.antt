use Rattle.std.proofs.Common.{◌∷◌, [], ap, arith, length, length-append, subst}
use Rattle.nest_ways.specs.Sets.{HasNumberAt}
use Rattle.nest_ways.proofs.SetLaws.{none_put}
use Rattle.nest_ways.proofs.numbers.PutSets.new.Goals as goal

pub loop-preserved : goal.loop-preserved
loop-preserved c =
    let pushed = ap length c.in_ok-push.ensures.items in
    let parts = length-append c.loop.sets.items (c.new.result ∷ []) in
    let count = c.loop.invariant.0 in (
      omega (arith, pushed, parts, count),
      λ scope number put.
          none_put c.loop.sets.items c.new.result c.loop.invariant.1 c.new.ensures.none scope number
          (subst (λ sets. HasNumberAt sets scope number) c.in_ok-push.ensures.items put),
    )
