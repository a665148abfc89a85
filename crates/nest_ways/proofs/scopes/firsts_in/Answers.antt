use Rattle.std.proofs.Common.{◌∷◌, [], ap, arith, length, length-append}
use Rattle.nest_ways.proofs.AlikeLaws.{alike_more}
use Rattle.nest_ways.proofs.scopes.firsts_in.Goals as goal

pub loop-offset-preserved : goal.loop-offset-preserved
loop-offset-preserved c =
    let firsts = c.loop-offset.firsts.items in
    let one = c.first_alike.result in
    let long = ap length c.in_ok-push.ensures.items in
    let parts = length-append firsts (one ∷ []) in
    let was = c.loop-offset.invariant.1 in (
      alike_more c.args.scopes.now c.args.group firsts c.push.new.self.items c.loop-offset.offset one c.loop-offset.invariant.0 was
          c.first_alike.ensures c.in_ok-push.ensures.items,
      omega (arith, long, parts, was),
    )
