use Rattle.std.proofs.Common.{◌≡◌, ◌⊎◌, ◌∙◌, ◌+◌, ℕ, ap, arith, get_or, inl, inr, refl, slice_get, sym, Some}
use Rattle.std.proofs.lemmas.Option.{slice_get-get_or, slice_get_within}
use Rattle.nest_ways.specs.Sets.{HasAt, HasNumber, IsInWord}
use Rattle.nest_ways.specs.declared.sets.NumberSet.{NumberSet}
use Rattle.nest_ways.specs.declared.sets.SetWord.{SetWord}
use Rattle.nest_ways.proofs.SetLaws.{number_to, within_next, word_comes}
use Rattle.nest_ways.proofs.sets.NumberSet.put_all.Goals as goal

pub loop-place-preserved : goal.loop-place-preserved
loop-place-preserved c =
    let old = c.loop-place.self in
    let other = c.args.set.now in
    let new : NumberSet = record { start = old.start; words = c.put_word.new.words } in
    let words = c.as_slice-word-items.result.now in
    let place = c.loop-place.place in
    let there = c.in-Some.ahead + place in
    let long = c.in_ok-grow_to.ensures.long in
    let length = c.len.ensures.value in
    let none : SetWord = record { bits = 0 } in
    let word = get_or words place none in
    let at : slice_get other.words.items place ≡ Some word =
    ap (λ those. slice_get those place) (sym c.as_slice-word-items.ensures) ∙ slice_get-get_or words place none c.loop-place-test.true in
    let sub = c.in-Some.ensures in
    let same = c.loop-place.invariant.1 in
    let far : other.start ≡ old.start + c.in-Some.ahead = omega (arith, sub, same) in (
      λ number held.
          further number
          (word_comes old new other word c.in-Some.ahead place there refl far refl at
          (λ k bit has. before word there k bit (c.put_word.ensures.only k bit has)) number held),
      same,
      λ number had.
          let was = c.loop-place.invariant.2 number had in record {
            place = was.place;
            bit = was.bit;
            has = still was.place was.bit was.has;
            is = was.is;
          },
      within_next other.words.items new.words.items place there c.in-Some.ahead word word at refl (λ bit is. is) c.put_word.ensures.there
          (λ k bit less has. still (c.in-Some.ahead + k) bit (c.loop-place.invariant.3 k bit less has)),
      omega (arith, long, length),
    )
  where
    still : (k bit : ℕ) → HasAt c.loop-place.self.words.items k bit → HasAt c.put_word.new.words.items k bit
    still k bit has = c.put_word.ensures.still k bit (c.in_ok-grow_to.ensures.still k bit has)

    before : (word : SetWord) (there k bit : ℕ) → ((k ≡ there) × IsInWord word bit) ⊎ HasAt c.grow_to.new.words.items k bit
        → ((k ≡ there) × IsInWord word bit) ⊎ HasAt c.loop-place.self.words.items k bit
    before word there k bit (inl here) = inl here
    before word there k bit (inr was) = inr (c.in_ok-grow_to.ensures.only k bit was)

    further : (number : ℕ) → HasNumber c.args.set.now number ⊎ HasNumber c.loop-place.self number
        → HasNumber c.args.set.now number ⊎ HasNumber c.begin.new.self number
    further number (inl here) = inl here
    further number (inr was) = c.loop-place.invariant.0 number was

pub returns-clause-there : goal.returns-clause-there
returns-clause-there c told =
    let sub = c.in-Some.ensures in
    let same = c.loop-place.invariant.1 in
    let long = c.loop-place-test.false in
    let start : c.args.set.now.start ≡ c.loop-place.self.start + c.in-Some.ahead = omega (arith, sub, same) in
    number_to c.args.set.now c.loop-place.self c.in-Some.ahead start
    (λ place bit has.
    let within =
    slice_get_within c.as_slice-word-items.result.now place has.0 (ap (λ those. slice_get those place) c.as_slice-word-items.ensures ∙ has.1) in
    c.loop-place.invariant.3 place bit (omega (arith, within, long)) has)

pub returns-clause-group : goal.returns-clause-group
returns-clause-group c none number near =
    let room = c.begin.ensures.group none number near in
    let same = c.loop-place.invariant.1 in omega (arith, room, same)
