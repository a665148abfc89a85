use Rattle.std.proofs.Common.{rules, sym, ◌∙◌, arith, pos, get_or, FitsSigned}
use Rattle.std.proofs.lemmas.Int.{to_z-of_z}
use Rattle.std.proofs.lemmas.List.{take_all}
use Rattle.std.specs.Int.{w64}
use Rattle.word_lanes.specs.Guess.{guesses}
use Rattle.word_lanes.proofs.GuessLemmas.{interval_at, length-guesses, written_more, get_or-guesses}
use Rattle.word_lanes.proofs.guess_words.Goals as goal

pub guess_word-requires : goal.guess_word-requires
guess_word-requires c =
    let k = c.loop-place.place in
    let low_fits : FitsSigned w64 (get_or c.args.low.now k (pos 0)) = search rules in
    let high_fits : FitsSigned w64 (get_or c.args.high.now k (pos 0)) = search rules in
    rw (to_z-of_z w64 _ low_fits, to_z-of_z w64 _ high_fits)
    (interval_at c.args.low.now c.args.high.now k (pos 0) c.requires.intervals (omega arith) (omega arith))

pub loop-place-preserved : goal.loop-place-preserved
loop-place-preserved c =
    let line = guesses c.args.last.now c.args.before.now c.args.low.now c.args.high.now in
    let k = c.loop-place.place in
    let long = length-guesses c.args.last.now c.args.before.now c.args.low.now c.args.high.now (omega arith) (omega arith) (omega arith) in
    let last_fits : FitsSigned w64 (get_or c.args.last.now k (pos 0)) = search rules in
    let before_fits : FitsSigned w64 (get_or c.args.before.now k (pos 0)) = search rules in
    let low_fits : FitsSigned w64 (get_or c.args.low.now k (pos 0)) = search rules in
    let high_fits : FitsSigned w64 (get_or c.args.high.now k (pos 0)) = search rules in
    let result = to_z-of_z w64 c.guess_word.result (record { sfits = c.guess_word.type_inv }) in
    written_more k c.loop-place.out line _ (omega arith) (omega arith) c.loop-place.invariant
    (result
    ∙ c.guess_word.ensures
    ∙ rw (to_z-of_z w64 _ last_fits, to_z-of_z w64 _ before_fits, to_z-of_z w64 _ low_fits, to_z-of_z w64 _ high_fits)
    (sym (get_or-guesses c.args.last.now c.args.before.now c.args.low.now c.args.high.now k (pos 0) _ (omega arith) (omega arith) (omega arith) (omega arith))))

pub returns : goal.returns
returns c =
    let line = guesses c.args.last.now c.args.before.now c.args.low.now c.args.high.now in
    let k = c.loop-place.place in
    let long = length-guesses c.args.last.now c.args.before.now c.args.low.now c.args.high.now (omega arith) (omega arith) (omega arith) in
    sym (take_all k c.loop-place.out (omega arith)) ∙ c.loop-place.invariant ∙ take_all k line (omega arith)
