use Rattle.std.proofs.Common.{map}
use Rattle.link_core.proofs.LoopLaws.{Made}
use Rattle.link_core.proofs.keeping.keep_states.Given as goal
use Rattle.port_solve.specs.Solved.{HaveStates}

abbrev pub invariant-loop-instance : goal.invariant-loop-instance
invariant-loop-instance l = record {
  long : HaveStates l.units.plan.run (map (λ one. one.items) l.states.items);
  made : Made (map (λ one. one.items) l.states.items) l.instance l.units.states;
}
