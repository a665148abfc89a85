-- A phase that requires no step can be settled.
use Rattle.std.proofs.Common.{◌≡◌, ℕ, zero, suc, ◌+◌, ◌<◌, ◌≤◌, ◌⊎◌, inl, inr, List, [], ◌∷◌, length, Some, subst, arith}
use Rattle.std.specs.Prelude.{slice_get}
use Rattle.std.proofs.lemmas.Bool.{cases_lt}
use Rattle.trace_core.specs.Runs.{Cell, Empty, RunState, Stands, AreCellsFull}
use Rattle.trace_rows.proofs.Filling.{few_cells, full_cell}

-- None of the first cells is empty.
abbrev pub NoneWanted : List Cell → ℕ → Type 0
NoneWanted cells count = (place : ℕ) → place < count → slice_get cells place ≡ Some Empty → ⊥

pub one_more : (cells : List Cell) (count : ℕ) → NoneWanted cells count → (slice_get cells count ≡ Some Empty → ⊥) → NoneWanted cells (count + 1)
one_more cells count none unwanted place before empty = by (cases_lt place count)
  where
    by : (place < count) ⊎ (count ≤ place) → ⊥
    by (inl below) = none place below empty
    by (inr past) =
        let same : place ≡ count = omega (arith, before, past) in
        unwanted (subst (λ place. slice_get cells place ≡ Some Empty) same empty)

pub all_full : (cells : List Cell) (count : ℕ) → length cells ≤ count → NoneWanted cells count → AreCellsFull cells
all_full [] count within none = tt
all_full (cell ∷ cells) zero within none = absurd (omega (arith, within))
all_full (cell ∷ cells) (suc count) within none = (
  full_cell cell (λ empty. none zero (omega arith) empty),
  all_full cells count (omega (arith, within)) (λ place before empty. none (suc place) (omega (arith, before)) empty),
)

pub few_steps : (r : RunState) → Stands r → length r.cells ≤ 64
few_steps r stands = omega (arith, few_cells r stands, stands.bounded.members)
