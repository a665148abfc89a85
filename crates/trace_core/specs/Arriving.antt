-- Arriving at a stand, by lists of states and inputs.
use Rattle.std.specs.Prelude.{◌≡◌, ℕ, suc, ◌==◌, ℤ, List, if◌then◌else◌, Option, Some, None, Result, Ok, Err}
use Rattle.super_time.specs.declared.point.Point.{Point}
use Rattle.trace_core.specs.Seats.{AreBegun, all_told, asked}
use Rattle.trace_core.specs.declared.phase.Phase.{Phase}
use Rattle.trace_core.specs.declared.phase.Phase.TheVariants.{Trial, Redo, Ended}
use Rattle.trace_core.specs.declared.seat.Seat.{Seat}
use Rattle.unit_tree.specs.Compositions.{Member, Composition}
use Rattle.unit_tree.specs.Successor.{Position}
use Rattle.unit_tree.specs.declared.ending.Ending.{Ending}
use Rattle.unit_tree.specs.declared.ending.Ending.TheVariants.{Completed, RowBudget}

-- The position at a point, with these states.
abbrev pub position_with : Point → List (List ℤ) → ℕ → Position
position_with point states number = record { point = point; states = states; number = number }

-- The trial of a proposed step, or the end.
abbrev pub tried : Result ℕ Ending → Phase
tried (Ok h) = Trial h
tried (Err ending) = Ended ending

-- The phase where all ports have words, for these states and inputs.
abbrev pub phase_there : Composition → Point → ℕ → List (List ℤ) → List (List ℤ) → Phase
phase_there run point number states inputs =
    if point.t == run.stop then Ended Completed
    else (if suc number == run.row_budget then Ended RowBudget
    else tried (asked run point.t (all_told point.t run.members states inputs)))

-- The end, where there is one, and otherwise another phase.
abbrev pub ended_or : Option Ending → Phase → Phase
ended_or (Some ending) phase = Ended ending
ended_or None phase = phase

-- The seats are prepared for the step of a trial. An end leaves them as they are.
abbrev pub AreBegunIn : ℕ → Phase → List Member → List Seat → List Seat → Type 0
AreBegunIn t (Trial h) members old new = AreBegun t h members old new
AreBegunIn t (Redo h) members old new = AreBegun t h members old new
AreBegunIn t (Ended ending) members old new = new ≡ old
