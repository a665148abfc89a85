use Rattle.std.proofs.Common.{◌≡◌, length}
use Rattle.nest_ways.specs.Sets.{AreEmpty}
use Rattle.nest_ways.proofs.done.DoneInputs.new.Given as goal

abbrev pub invariant-loop : goal.invariant-loop
invariant-loop l = (length l.sets.items ≡ l.counter) × AreEmpty l.sets.items
