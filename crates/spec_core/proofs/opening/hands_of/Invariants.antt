use Rattle.std.specs.Prelude.{◌≡◌, [], replicate}
use Rattle.spec_core.specs.Keeping.{tickets_of}
use Rattle.spec_core.proofs.opening.hands_of.Given as goal

abbrev pub invariant-loop : goal.invariant-loop
invariant-loop l = tickets_of l.hands.items ≡ replicate l.counter []
