use Rattle.std.proofs.Common.{◌∙◌}
use Rattle.unit_check.specs.Questions.{asked_of}
use Rattle.unit_check.proofs.NumberedWalks.{passed}
use Rattle.unit_check.proofs.walk.past_units.Goals as goal

pub loop-place-preserved : goal.loop-place-preserved
loop-place-preserved c =
    c.loop-place.invariant
    ∙ passed
    (asked_of c.args.walker.now.question c.args.walker.now.tables.now) c.loop-place.place c.loop-place.next c.in_ok-next.next
    c.args.walker.now.tables.now.units c.past_numbered.result c.past_numbered.ensures c.in_ok-next.was
