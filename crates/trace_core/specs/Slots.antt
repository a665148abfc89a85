-- Slots of steps: the slot of a step that was made, and of one that wasn't made yet.
use Rattle.std.specs.Prelude.{ℕ, Bool, not, Result, Ok, Err}
use Rattle.fixed_words.specs.declared.types.Fault.{Fault}
use Rattle.trace_core.specs.Runs.{Cell}
use Rattle.trace_core.specs.Runs as cell
use Rattle.step_rule.specs.Steps.{is_full}
use Rattle.step_rule.specs.declared.steps.Slot.{Slot}
use Rattle.step_rule.specs.declared.steps.Slot.TheVariants.{Held, Empty, Took, Failed}

-- The slot of a step that accepted so many local ticks, or met a fault.
abbrev pub slot_for : Result ℕ Fault → Slot
slot_for (Ok accepted) = Took accepted
slot_for (Err fault) = Failed fault

-- The step was not made yet.
abbrev pub is_empty : Slot → Bool
is_empty slot = not (is_full slot)

-- The slot of a cell: the result of its step without the state after it.
abbrev pub slot_seen : Cell → Slot
slot_seen cell.Held = Held
slot_seen cell.Empty = Empty
slot_seen (cell.Filled (Ok moved)) = Took moved.accepted
slot_seen (cell.Filled (Err fault)) = Failed fault
