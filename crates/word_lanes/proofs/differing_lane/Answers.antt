use Rattle.std.proofs.Common.{sym, ◌∙◌, arith}
use Rattle.word_lanes.proofs.MismatchLemmas.{same_without_mask, lowest_within, loaded_first}
use Rattle.word_lanes.proofs.differing_lane.Goals as goal

pub returns-then-differing-eq0-clause-equal : goal.returns-then-differing-eq0-clause-equal
returns-then-differing-eq0-clause-equal c =
    sym c.load.ensures.value
    ∙ same_without_mask c.load.result c.load-2.result (omega arith) (omega arith) c.load.ensures.fits c.load-2.ensures.fits c.if-differing-eq0.true
    ∙ c.load-2.ensures.value

pub returns-else-differing-eq0-clause-within : goal.returns-else-differing-eq0-clause-within
returns-else-differing-eq0-clause-within c =
    omega (arith, lowest_within c.load.result c.load-2.result (omega arith) (omega arith) c.if-differing-eq0.false)

pub returns-else-differing-eq0-clause-least : goal.returns-else-differing-eq0-clause-least
returns-else-differing-eq0-clause-least c =
    loaded_first 8 c.args.a.now c.args.b.now c.load.result c.load-2.result
    (omega arith) c.load.ensures.value c.load-2.ensures.value c.load.ensures.lanes c.load-2.ensures.lanes
    c.load.ensures.fits c.load-2.ensures.fits c.if-differing-eq0.false
