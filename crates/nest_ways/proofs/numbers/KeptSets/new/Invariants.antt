use Rattle.nest_ways.specs.Sets.{AreKeptSets}
use Rattle.nest_ways.proofs.numbers.KeptSets.new.Given as goal

abbrev pub invariant-loop-group : goal.invariant-loop-group
invariant-loop-group l = AreKeptSets l.numbered l.known l.sets.items
