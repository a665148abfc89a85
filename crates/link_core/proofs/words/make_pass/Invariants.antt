use Rattle.std.proofs.Common.{◌≡◌, false}
use Rattle.link_laws.specs.Making.{held, own_states, ports_in, with_word}
use Rattle.link_core.specs.Noted.{AreNotes, HasRoom, making_in}
use Rattle.link_core.proofs.PassBodies.{Going}
use Rattle.link_core.proofs.words.make_pass.Given as goal
use Rattle.port_solve.specs.Solved.{HaveTheirWords}

abbrev pub invariant-loop-place : goal.invariant-loop-place
invariant-loop-place l = record {
  going : Going (with_word l.me l.row) (held l.plan.run l.owners (own_states l.owners l.me l.fn.units.states)) (making_in l.fn.notes)
      (making_in l.notes) l.place;
  none : l.made ≡ false → making_in l.notes ≡ making_in l.fn.notes;
  notes : AreNotes l.plan.run l.notes;
  room : HasRoom l.notes;
  words : HaveTheirWords l.plan.run (ports_in l.notes.words.items) l.units.inputs;
  states : l.units.states ≡ l.fn.units.states;
  plan : l.units.plan ≡ l.fn.units.plan;
}
