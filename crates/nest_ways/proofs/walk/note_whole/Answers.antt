use Rattle.std.proofs.Common.{subst, sym}
use Rattle.nest_ways.specs.Walking.{IsDoneFrom}
use Rattle.nest_ways.proofs.walk.note_whole.Goals as goal

pub note_put-requires-clause-all : goal.note_put-requires-clause-all
note_put-requires-clause-all c known found =
    subst (λ ends. IsDoneFrom c.args.start.now ends c.args.inlet.scope known) (sym c.note_done.ensures.ends) (c.requires.all known found)
