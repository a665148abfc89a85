use Rattle.std.proofs.Common.{refl, arith}
use Rattle.std.proofs.lemmas.List.{take_rest}
use Rattle.word_lanes.proofs.MismatchLemmas.{further, take_further, joined}
use Rattle.word_lanes.proofs.first_mismatch.Goals as goal

pub returns-in-Some-clause-least : goal.returns-in-Some-clause-least
returns-in-Some-clause-least c =
    let least = simp take_rest at c.in-Some.ensures.least in
    further c.vectors.at c.args.a.now c.args.b.now c.in-Some.lane (omega arith) (omega arith) c.vectors.invariant.1 least

pub vectors-preserved : goal.vectors-preserved
vectors-preserved c =
    let same = simp take_rest at c.in_default.ensures.equal in
    (omega arith, take_further c.vectors.at 8 c.args.a.now c.args.b.now c.vectors.invariant.1 same)

pub returns-in-Some-differing_word-clause-least : goal.returns-in-Some-differing_word-clause-least
returns-in-Some-differing_word-clause-least c =
    let least = simp take_rest at c.in-Some-differing_word.ensures.least in
    further c.vectors.at c.args.a.now c.args.b.now c.in-Some-differing_word.place (omega arith) (omega arith) c.vectors.invariant.1 least

pub returns-in-None-clause-equal : goal.returns-in-None-clause-equal
returns-in-None-clause-equal c =
    let same = simp take_rest at c.in-None.ensures.equal in
    (λ none. joined c.vectors.at c.args.a.now c.args.b.now c.vectors.invariant.1 (same.0 none), λ e. refl)
