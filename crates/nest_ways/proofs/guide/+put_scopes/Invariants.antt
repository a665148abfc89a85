use Rattle.nest_ways.proofs.guide.+put_scopes.Given as goal

abbrev pub decreases-put_scopes : goal.decreases-put_scopes
decreases-put_scopes l = l.depth
