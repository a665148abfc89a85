-- What settling does with a run whose cells are full: it follows the successor.
use Rattle.std.specs.Prelude.{◌≡◌, ℕ, true, [], None, ◌⊎◌}
use Rattle.trace_core.specs.Runs.{RunState, arrived, cells_of, ArePortsKnown}
use Rattle.trace_core.specs.declared.phase.Phase.TheVariants.{Trial, Redo, Ended}
use Rattle.trace_core.specs.declared.phase.Settle.{Settle}
use Rattle.trace_core.specs.declared.phase.Settle.TheVariants as settle
use Rattle.unit_tree.specs.Negotiation.{all_inputs}
use Rattle.unit_tree.specs.Successor.{ends, agreed, is_redone, trial_end, successor}
use Rattle.unit_tree.specs.Trace.{Goes}
use Rattle.unit_tree.specs.declared.ending.Ending.{Ending}

-- The run tried the proposed step, no step faulted, and the agreed step is shorter.
pub record IsRedoDue (r : RunState) : Type 0 where
  pub h : ℕ
  pub trial : r.phase ≡ Trial h
  pub no_fault : trial_end r.plan.run r.stand.at r.stand.ports ≡ None
  pub shorter : is_redone r.plan.run r.stand.at r.stand.ports ≡ true

-- The run goes to the redo, by the agreed length. Nothing else changes.
abbrev pub with_redo : RunState → RunState
with_redo r = record r {
  phase = Redo (agreed r.plan.run r.stand.at r.stand.ports);
  cells = cells_of r.plan.run r.stand.at.point.t (Redo (agreed r.plan.run r.stand.at r.stand.ports));
}

-- The run went to the next stand.
pub record Moves (old new : RunState) : Type 0 where
  pub no_redo : IsRedoDue old → ⊥
  pub goes : Goes old.plan.run old.stand new.stand
  pub is : new ≡ arrived old.plan old.opened new.stand (all_inputs old.plan.run old.stand.ports) old.found old.own

-- The run ends at its stand.
pub record Ends (old new : RunState) : Type 0 where
  pub no_redo : IsRedoDue old → ⊥
  pub ending : Ending
  pub ended : successor old.plan.run old.stand.at old.stand.ports ≡ ends ending
  pub is : new ≡ record old { phase = Ended ending; cells = [] }

-- It is a redo exactly where one is due, a row where the run comes to a stand at which all ports have words, and otherwise an
-- end.
abbrev pub Settled : RunState → RunState → Settle → Type 0
Settled old new settle.Redo = IsRedoDue old × (new ≡ with_redo old)
Settled old new settle.Row = Moves old new × ArePortsKnown new.plan.run new.stand
Settled old new settle.Ended = (Moves old new × (ArePortsKnown new.plan.run new.stand → ⊥)) ⊎ Ends old new
