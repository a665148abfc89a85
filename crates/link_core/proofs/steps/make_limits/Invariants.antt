use Rattle.std.proofs.Common.{◌≡◌, zip}
use Rattle.link_laws.specs.Making.{with_limit}
use Rattle.link_core.specs.Noted.{AreNotes, HasRoom, making_in, part_at}
use Rattle.link_core.proofs.PassBodies.{Going}
use Rattle.link_core.proofs.steps.make_limits.Given as goal
use Rattle.unit_tree.specs.Negotiation.{all_inputs}
use Rattle.unit_tree.specs.Ports.{Ports}
use Rattle.unit_tree.specs.Successor.{standings}

abbrev pub invariant-loop-instance : goal.invariant-loop-instance
invariant-loop-instance l = record {
  going : (ports : Ports) → l.fn.units.inputs ≡ all_inputs l.plan.run ports
      → Going (with_limit l.me (part_at l.owners l.me l.point l.row l.fn.units.states) ports)
      (zip l.owners (standings l.plan.run (part_at l.owners l.me l.point l.row l.fn.units.states))) (making_in l.fn.notes) (making_in l.notes) l.instance;
  notes : AreNotes l.plan.run l.notes;
  room : HasRoom l.notes;
  kept : l.units ≡ l.fn.units;
}
