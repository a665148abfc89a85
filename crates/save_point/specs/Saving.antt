-- The effect of saving a position of a run, and which position a saved text needs for opening a run.
use Rattle.std.specs.Prelude.{◌≡◌, ℕ, List, ◌++◌, map, length}
use Rattle.save_point.specs.SavedTexts.{saved_text}
use Rattle.save_point.specs.declared.reading.Saved.{Saved}
use Rattle.trace_core.specs.OpenedAt.{FitsPosition}
use Rattle.trace_core.specs.Runs.{IsOpened, RunState}
use Rattle.trace_plan.specs.Plans.{Planned}
use Rattle.unit_tree.specs.Compositions.{Composition}
use Rattle.unit_tree.specs.Successor.{Position}
use Rattle.unit_tree.specs.Trace.{IsPositionOf}

-- The saved text of the position with this number in the trace was appended to a text.
pub record PutsPosition (plan : Planned) (number : ℕ) (old new : List ℕ) : Type 0 where
  pub at : Position
  pub is_position : IsPositionOf plan.run number at
  pub put : new ≡ old ++ saved_text plan.system at

-- The trace has no position with this number.
abbrev pub HasNoPosition : Composition → ℕ → Type 0
HasNoPosition run number = (at : Position) → IsPositionOf run number at → ⊥

-- The position is the saved one, and a run of the plan may have it: the names are those of the instances in their order, and
-- each has as many words as its state.
pub record FitsSaved (plan : Planned) (saved : Saved) (at : Position) : Type 0 where
  pub position : FitsPosition plan.run saved.row saved.point saved.states at
  pub names_are : saved.names ≡ map (λ instance. instance.name) plan.system.instances
  pub counts_are : saved.counts ≡ map length at.states

-- A run of the plan can be at no position that fits what was saved.
abbrev pub FitsNone : Planned → Saved → Type 0
FitsNone plan saved = (at : Position) → FitsSaved plan saved at → ⊥

-- The run was opened at the saved position, and has made no step yet.
pub record IsOpenedBy (plan : Planned) (saved : Saved) (r : RunState) : Type 0 where
  pub fits : FitsSaved plan saved r.opened
  pub opened : IsOpened plan r.opened r
