-- How a run passes from stand to stand, whoever fills its cells.
use Rattle.std.specs.Prelude.{◌≡◌, ℕ, suc, ◌+◌, Bool, true, false, ◌⊎◌, Result, slice_set}
use Rattle.std.specs.List.{count_by}
use Rattle.fixed_words.specs.declared.types.Fault.{Fault}
use Rattle.trace_core.specs.Runs.{Filled, AreCellsFull, ArePortsKnown, RunState, arrived, is_empty_cell}
use Rattle.trace_core.specs.declared.phase.Phase.TheVariants.{Ended}
use Rattle.unit_tree.specs.Components.{Moved}
use Rattle.unit_tree.specs.Successor.{ends, successor}
use Rattle.unit_tree.specs.Trace.{Goes, cells_at}
use Rattle.unit_tree.specs.declared.ending.Ending.{Ending}

-- The run has come to its stand, and no cell was filled there.
abbrev pub IsFresh : RunState → Type 0
IsFresh r = r ≡ arrived r.plan r.opened r.stand r.before r.found r.own

-- All cells of the stand were filled, from answers or by the run's own steps.
abbrev pub AreCellsFilled : RunState → RunState → Type 0
AreCellsFilled old new = new.found + new.own ≡ old.found + old.own + cells_at old.plan.run old.stand

-- The run came to the next stand, when all cells of the one before were filled.
pub record Passes (old new : RunState) : Type 0 where
  pub planned : new.plan ≡ old.plan
  pub goes : Goes old.plan.run old.stand new.stand
  pub fresh : IsFresh new
  pub filled : AreCellsFilled old new

-- The run ended at its stand, when all cells there were filled.
pub record Stops (old new : RunState) : Type 0 where
  pub ending : Ending
  pub ended : successor old.plan.run old.stand.at old.stand.ports ≡ ends ending
  pub planned : new.plan ≡ old.plan
  pub stand : new.stand ≡ old.stand
  pub phase : new.phase ≡ Ended ending
  pub filled : AreCellsFilled old new

-- How a run went on from a row: it came to the next row, it came to a stand without a row, or it ended at its stand.
abbrev pub WentOn : RunState → RunState → Bool → Type 0
WentOn old new true = Passes old new × ArePortsKnown new.plan.run new.stand
WentOn old new false = (Passes old new × (ArePortsKnown new.plan.run new.stand → ⊥)) ⊎ Stops old new

-- All steps of the phase were made, by anyone: only the cells changed, and as many were counted as were required.
pub record AreStepsThere (old new : RunState) : Type 0 where
  pub full : AreCellsFull new.cells
  pub is : new ≡ record old { cells = new.cells; found = new.found; own = new.own }
  pub counted : new.found + new.own ≡ old.found + old.own + count_by is_empty_cell old.cells

-- The required step of an instance was made, by anyone.
pub record IsFilled (old : RunState) (instance : ℕ) (new : RunState) : Type 0 where
  pub step : Result Moved Fault
  pub is : new ≡ record old { cells = slice_set old.cells instance (Filled step); found = new.found; own = new.own }
  pub counted : new.found + new.own ≡ suc (old.found + old.own)
