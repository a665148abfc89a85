-- The rows of a run bound its work.
use Rattle.std.specs.Prelude.{ℕ, ◌+◌, ◌*◌, ◌≤◌, ◌==◌, List, length}
use Rattle.std.specs.List.{count_by}
use Rattle.super_time.specs.declared.point.Point.{Point}
use Rattle.unit_tree.specs.Compositions.{Composition, run_of}
use Rattle.unit_tree.specs.Trace.{Stand, Row, rows_of, cells_of, IsTraceOf}
use Rattle.unit_tree.specs.declared.ending.Ending.{Ending}
use Rattle.unit_tree.specs.declared.system.System.{System}

-- The cells of any stands are at most two for each member and row: one step in the trial, and one in the redo.
abbrev pub CellsAreBounded : Type 0
CellsAreBounded = (run : Composition) (stands : List Stand) → cells_of run stands ≤ 2 * length run.members * length (rows_of run stands)

-- How many rows have a time, in ticks.
abbrev pub rows_at : ℕ → List Row → ℕ
rows_at t rows = count_by (λ row. row.point.t == t) rows

-- At one time there is at most one row more than the zero budget.
abbrev pub TimesAreBounded : Type 0
TimesAreBounded =
    (system : System) (rows : List Row) (last : Point) (ending : Ending) → IsTraceOf system rows last ending → (t : ℕ)
    → rows_at t rows ≤ (run_of system).zero_budget + 1
