-- What stays of a run when it settles.
use Rattle.std.proofs.Common.{◌≡◌, ◌≤◌, inl, inr, ap, arith}
use Rattle.run_laws.proofs.RunTraces.{goes_to}
use Rattle.trace_core.specs.Runs.{RunState}
use Rattle.trace_core.specs.Settling.{Moves, Settled}
use Rattle.trace_core.specs.declared.phase.Settle.{Settle}
use Rattle.trace_core.specs.declared.phase.Settle.TheVariants as settle
use Rattle.unit_tree.specs.Successor.{Position}

-- The counts of rows don't fall.
pub settled_number : (old new : RunState) (to : Settle) → Settled old new to → old.stand.at.number ≤ new.stand.at.number
settled_number old new to settled = by to settled
  where
    moved : Moves old new → old.stand.at.number ≤ new.stand.at.number
    moved moves =
        let next = ap (λ (at : Position). at.number) (goes_to old.plan.run old.stand new.stand moves.goes) in
        omega (arith, next)

    by : (to : Settle) → Settled old new to → old.stand.at.number ≤ new.stand.at.number
    by settle.Redo (due, is) =
        let same = ap (λ (r : RunState). r.stand.at.number) is in
        omega (arith, same)
    by settle.Row (moves, known) = moved moves
    by settle.Ended (inl (moves, unknown)) = moved moves
    by settle.Ended (inr ended) =
        let same = ap (λ (r : RunState). r.stand.at.number) ended.is in
        omega (arith, same)

-- The plan stays.
pub settled_plan : (old new : RunState) (to : Settle) → Settled old new to → new.plan ≡ old.plan
settled_plan old new settle.Redo (due, is) = ap (λ (r : RunState). r.plan) is
settled_plan old new settle.Row (moved, known) = ap (λ (r : RunState). r.plan) moved.is
settled_plan old new settle.Ended (inl (moved, unknown)) = ap (λ (r : RunState). r.plan) moved.is
settled_plan old new settle.Ended (inr ended) = ap (λ (r : RunState). r.plan) ended.is
