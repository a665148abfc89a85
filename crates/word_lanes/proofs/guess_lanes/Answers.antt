use Rattle.word_lanes.proofs.GuessLemmas.{stored}
use Rattle.word_lanes.proofs.guess_lanes.Goals as goal

pub returns : goal.returns
returns c =
    stored 8 c.args.out.now c.args.last.now c.args.before.now c.args.low.now c.args.high.now c.requires.out_lanes
    c.load-last.ensures.value c.load.ensures.value c.load-3.ensures.value c.load-2.ensures.value
    c.load-last.ensures.lanes c.load.ensures.lanes c.load-3.ensures.lanes c.load-2.ensures.lanes
    c.load-last.ensures.fits c.load.ensures.fits c.load-3.ensures.fits c.load-2.ensures.fits
