use Rattle.std.proofs.Common.{◌≡◌, length}
use Rattle.std.specs.List.{enumerate_from}
use Rattle.link_laws.specs.Making.{held, own_states, ports_in}
use Rattle.link_core.specs.Noted.{AreNotes, HasRoom, making_in}
use Rattle.link_core.proofs.PassBodies.{Turning}
use Rattle.link_core.proofs.words.make_words.Given as goal
use Rattle.port_solve.specs.Solved.{HaveTheirWords}

abbrev pub invariant-loop-turn : goal.invariant-loop-turn
invariant-loop-turn l = record {
  turning : Turning l.me l.row (enumerate_from 0 (held l.plan.run l.owners (own_states l.owners l.me l.fn.units.states)))
      (length (held l.plan.run l.owners (own_states l.owners l.me l.fn.units.states))) (making_in l.fn.notes) (making_in l.notes) l._turn;
  notes : AreNotes l.plan.run l.notes;
  room : HasRoom l.notes;
  words : HaveTheirWords l.plan.run (ports_in l.notes.words.items) l.units.inputs;
  states : l.units.states ≡ l.fn.units.states;
  plan : l.units.plan ≡ l.fn.units.plan;
}
