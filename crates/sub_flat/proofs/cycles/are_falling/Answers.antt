use Rattle.std.proofs.Common.{arith, map}
use Rattle.std.proofs.lemmas.List.{length-map}
use Rattle.sub_flat.proofs.NestingLaws.{falling_end, falling_next}
use Rattle.sub_flat.proofs.cycles.are_falling.Goals as goal

pub loop-place-preserved : goal.loop-place-preserved
loop-place-preserved c =
    falling_next (map (λ one. one.items) c.args.inner.now) c.args.levels.now c.loop-place.place c.level.result c.inside.result.now c.are_below.result
    c.loop-place.invariant c.inside.ensures c.level.ensures c.are_below.ensures c.if-not-are_below.false

pub returns : goal.returns
returns c = λ holds.
    let long = length-map c.args.inner.now (λ one. one.items) in
    let past = c.loop-place-test.false in
    falling_end (map (λ one. one.items) c.args.inner.now) c.args.levels.now c.loop-place.place (omega (arith, long, past)) c.loop-place.invariant
