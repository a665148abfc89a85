use Rattle.std.proofs.Common.{arith, get_or}
use Rattle.std.proofs.lemmas.Option.{slice_get-get_or}
use Rattle.nest_ways.specs.declared.sets.SetWord.{SetWord}
use Rattle.nest_ways.proofs.SetLaws.{empty_next}
use Rattle.nest_ways.proofs.sets.empty_before.Goals as goal

pub loop-place-preserved : goal.loop-place-preserved
loop-place-preserved c =
    let words = c.args.words.now in
    let place = c.loop-place.place in
    let none : SetWord = record { bits = 0 } in
    empty_next words place (get_or words place none) (slice_get-get_or words place none c.loop-place-test.true) (c.is_empty.ensures.0 c.if-not-is_empty.false) c.loop-place.invariant

pub returns-clause-least : goal.returns-clause-least
returns-clause-least c place bit has =
    let low = c.loop-place.invariant place bit has in
    let end = c.loop-place-test.false in omega (arith, low, end)
