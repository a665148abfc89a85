use Rattle.std.proofs.Common.{◌≤◌, length}
use Rattle.nest_ways.specs.Sets.{AreKeptSets}
use Rattle.nest_ways.proofs.numbers.number_inputs.Given as goal

abbrev pub invariant-loop-input : goal.invariant-loop-input
invariant-loop-input l = AreKeptSets l.numbered l.known l.sets.items × (l.first ≤ length l.numbered)
