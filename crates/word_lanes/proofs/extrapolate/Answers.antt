use Rattle.std.proofs.Common.{◌∙◌, ap, arith, length, ◌≡◌, length-append, length-drop, length-take-le, take, ◌-◌}
use Rattle.std.proofs.lemmas.List.{take_rest}
use borrow.Rule.Slice.PartMut.{put_mid}
use Rattle.word_lanes.specs.Guess.{guesses}
use Rattle.word_lanes.proofs.GuessLemmas.{put_rest, written_on, written_all, guesses_from_low, guesses_to_high, drop-guesses, drop-EachAtMost}
use Rattle.word_lanes.proofs.extrapolate.Goals as goal

pub vectors-preserved : goal.vectors-preserved
vectors-preserved c =
    let at = c.vectors.at in
    let line = guesses c.args.last.now c.args.before.now c.args.low.now c.args.high.now in
    let ys = c.guess_lanes.new.out in
    let next = simp take_rest at c.guess_lanes.ensures in
    let from = drop-guesses at c.args.last.now c.args.before.now c.args.low.now c.args.high.now (omega arith) (omega arith) (omega arith) in
    let long : length ys ≡ length c.vectors.out - at = (simp take_rest at c.guess_lanes.auto.out) ∙ length-drop at c.vectors.out in
    rw (put_rest at c.vectors.out ys (omega arith)) (
      simp length-append (omega (arith, length-take-le at c.vectors.out (omega arith))),
      written_on at 8 c.vectors.out ys line (omega arith) c.vectors.invariant.1 (next ∙ ap (take 8) from),
    )

pub guess_words-requires-clause-intervals : goal.guess_words-requires-clause-intervals
guess_words-requires-clause-intervals c = simp take_rest (drop-EachAtMost c.vectors.at c.args.low.now c.args.high.now c.requires.intervals)

pub returns : goal.returns
returns c =
    let at = c.vectors.at in
    let ys = c.guess_words.new.out in
    let line = guesses c.args.last.now c.args.before.now c.args.low.now c.args.high.now in
    let rest = simp take_rest at c.guess_words.ensures in
    let from = drop-guesses at c.args.last.now c.args.before.now c.args.low.now c.args.high.now (omega arith) (omega arith) (omega arith) in
    let whole : put_mid at (length c.vectors.out - at) c.vectors.out ys ≡ line =
    put_rest at c.vectors.out ys (omega arith) ∙ written_all at c.vectors.out ys line c.vectors.invariant.1 (rest ∙ from) in
    record {
      guesses = whole;
      from_low = rw whole (guesses_from_low c.args.last.now c.args.before.now c.args.low.now c.args.high.now);
      to_high = rw whole (guesses_to_high c.args.last.now c.args.before.now c.args.low.now c.args.high.now c.requires.intervals);
    }
