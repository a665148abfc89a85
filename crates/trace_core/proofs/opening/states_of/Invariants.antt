use Rattle.std.proofs.Common.{◌≡◌, ℤ, Vec, Global, map, take}
use Rattle.trace_core.proofs.opening.states_of.Given as goal

abbrev pub invariant-loop-instance : goal.invariant-loop-instance
invariant-loop-instance l = map (λ (state : Vec ℤ Global). state.items) l.states.items ≡ take l.instance l.units.states
