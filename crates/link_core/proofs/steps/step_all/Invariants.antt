use Rattle.std.proofs.Common.{◌≡◌}
use Rattle.link_core.specs.Noted.{stepped}
use Rattle.link_core.proofs.TriedSteps.{Stepping}
use Rattle.link_core.proofs.steps.step_all.Given as goal
use Rattle.unit_tree.specs.Negotiation.{all_inputs}
use Rattle.unit_tree.specs.Ports.{Ports}

abbrev pub invariant-loop-instance : goal.invariant-loop-instance
invariant-loop-instance l = record {
  so : (ports : Ports) → l.fn.units.inputs ≡ all_inputs l.plan.run ports
      → Stepping l.fn.units l.units l.instance (stepped l.plan.run l.owners l.me l.t l.h ports l.fn.units.states);
  plan : l.units.plan ≡ l.fn.units.plan;
}
