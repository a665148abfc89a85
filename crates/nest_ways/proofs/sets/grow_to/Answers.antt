use Rattle.std.proofs.Common.{◌∷◌, [], ap, arith, length, length-append, subst, sym}
use Rattle.nest_ways.specs.Sets.{HasAt}
use Rattle.nest_ways.proofs.SetLaws.{empty_more, has_more}
use Rattle.nest_ways.proofs.sets.grow_to.Goals as goal

pub loop-preserved : goal.loop-preserved
loop-preserved c =
    let before = c.loop.words.items in
    let one = c.empty.result in
    let pushed = c.in_ok-push.ensures.ok in
    let long = ap length pushed in
    let parts = length-append before (one ∷ []) in
    let least = c.loop.invariant.2 in (
      λ at bit has. subst (λ words. HasAt words at bit) (sym pushed) (has_more before (one ∷ []) at bit (c.loop.invariant.0 at bit has)),
      λ at bit has. c.loop.invariant.1 at bit (empty_more before one c.empty.ensures at bit (subst (λ words. HasAt words at bit) pushed has)),
      omega (arith, long, parts, least),
    )

pub returns-in_ok-push-clause-still : goal.returns-in_ok-push-clause-still
returns-in_ok-push-clause-still c at bit has =
    let before = c.loop.words.items in
    subst (λ words. HasAt words at bit) (sym c.in_ok-push.ensures.ok) (has_more before (c.empty.result ∷ []) at bit (c.loop.invariant.0 at bit has))

pub returns-in_ok-push-clause-only : goal.returns-in_ok-push-clause-only
returns-in_ok-push-clause-only c at bit has =
    c.loop.invariant.1 at bit
    (empty_more c.loop.words.items c.empty.result c.empty.ensures at bit (subst (λ words. HasAt words at bit) c.in_ok-push.ensures.ok has))
