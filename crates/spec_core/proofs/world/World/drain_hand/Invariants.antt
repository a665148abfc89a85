use Rattle.spec_core.specs.Draining.{IsHandAt}
use Rattle.spec_core.proofs.world.World.drain_hand.Given as goal

abbrev pub invariant-loop : goal.invariant-loop
invariant-loop l = IsHandAt l.fn.self l.fn.worker l.tickets l.counter l.self
