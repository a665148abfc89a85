use Rattle.std.proofs.Common.{◌≡◌, map}
use Rattle.link_core.proofs.LoopLaws.{Made}
use Rattle.link_core.proofs.keeping.restore_states.Given as goal
use Rattle.port_solve.specs.Solved.{HaveStates}

abbrev pub invariant-loop-instance : goal.invariant-loop-instance
invariant-loop-instance l = record {
  made : Made l.units.states l.instance (map (λ one. one.items) l.states);
  have : HaveStates l.fn.units.plan.run l.units.states;
  plan : l.units.plan ≡ l.fn.units.plan;
  inputs : l.units.inputs ≡ l.fn.units.inputs;
}
