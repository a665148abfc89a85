use Rattle.std.proofs.Common.{◌∷◌, [], ap, arith, length, length-append, subst, sym}
use Rattle.nest_ways.specs.Sets.{AreEmpty}
use Rattle.nest_ways.proofs.SetLaws.{empty_more}
use Rattle.nest_ways.proofs.done.DoneInputs.new.Goals as goal

pub loop-preserved : goal.loop-preserved
loop-preserved c =
    let sets = c.loop.sets.items in
    let pushed = ap length c.in_ok-push.ensures.items in
    let parts = length-append sets (c.empty.result ∷ []) in
    let count = c.loop.invariant.0 in (
      omega (arith, pushed, parts, count),
      subst AreEmpty (sym c.in_ok-push.ensures.items)
          (λ place number has. c.loop.invariant.1 place number (empty_more sets c.empty.result c.empty.ensures place number has)),
    )
