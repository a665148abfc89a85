use Rattle.std.proofs.Common.{◌≡◌, Some, arith, get_or, refl, slice_get}
use Rattle.std.proofs.lemmas.Option.{slice_get-get_or, slice_get_within}
use Rattle.nest_ways.specs.declared.sets.SetWord.{SetWord}
use Rattle.nest_ways.proofs.SetLaws.{within_here}
use Rattle.nest_ways.proofs.sets.are_within.Goals as goal

pub returns-then-not-is_within : goal.returns-then-not-is_within
returns-then-not-is_within c =
    let ones = c.args.ones.now in
    let place = c.loop-place.place in
    let none : SetWord = record { bits = 0 } in
    let one = get_or ones place none in
    let there : slice_get ones place ≡ Some one = slice_get-get_or ones place none c.loop-place-test.true in (
      λ no. absurd (cc),
      λ all.
          let within = c.is_within.ensures.1 (λ bit is. (c.word_at.ensures bit).1 (all place bit (one, there, is))) in
          let not = c.if-not-is_within.true in absurd (cc),
    )

pub loop-place-preserved : goal.loop-place-preserved
loop-place-preserved c =
    let ones = c.args.ones.now in
    let place = c.loop-place.place in
    let none : SetWord = record { bits = 0 } in
    within_here ones c.args.others.now place (get_or ones place none) c.word_at.result (slice_get-get_or ones place none c.loop-place-test.true)
    (c.is_within.ensures.0 c.if-not-is_within.false) (λ bit is. (c.word_at.ensures bit).0 is) c.loop-place.invariant

pub returns : goal.returns
returns c = (
  λ told place bit has.
      let within = slice_get_within c.args.ones.now place has.0 has.1 in
      let long = c.loop-place-test.false in c.loop-place.invariant place bit (omega (arith, within, long)) has,
  λ all. refl,
)
