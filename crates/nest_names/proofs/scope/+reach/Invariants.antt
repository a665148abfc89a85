use Rattle.nest_names.proofs.scope.+reach.Given as goal

abbrev pub decreases-reach : goal.decreases-reach
decreases-reach l = l.depth
