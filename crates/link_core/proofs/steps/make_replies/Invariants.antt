use Rattle.std.proofs.Common.{◌≡◌, map, zip}
use Rattle.link_laws.specs.Making.{with_said}
use Rattle.link_core.specs.Noted.{AreNotes, HasRoom, making_in, part_at}
use Rattle.link_core.proofs.PassBodies.{Going}
use Rattle.link_core.proofs.steps.make_replies.Given as goal
use Rattle.port_solve.specs.Solved.{HaveStates}
use Rattle.unit_tree.specs.Negotiation.{all_inputs}
use Rattle.unit_tree.specs.Ports.{Ports}
use Rattle.unit_tree.specs.Successor.{standings}

abbrev pub invariant-loop-instance : goal.invariant-loop-instance
invariant-loop-instance l = record {
  going : (ports : Ports) → l.fn.units.inputs ≡ all_inputs l.plan.run ports
      → Going (with_said l.trial.redo l.me (part_at l.owners l.me l.trial.point l.trial.row l.fn.units.states) ports l.trial.h)
      (zip l.owners (standings l.plan.run (part_at l.owners l.me l.trial.point l.trial.row l.fn.units.states))) (making_in l.fn.notes)
      (making_in l.notes) l.instance;
  notes : AreNotes l.plan.run l.notes;
  room : HasRoom l.notes;
  kept : l.units ≡ l.fn.units;
  before : HaveStates l.plan.run (map (λ one. one.items) l.before.items);
}
