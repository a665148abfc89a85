use Rattle.nest_names.proofs.scope.+follow.Given as goal

abbrev pub decreases-follow : goal.decreases-follow
decreases-follow l = l.depth
