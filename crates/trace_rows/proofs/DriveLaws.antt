-- A run that is driven from row to row.
use Rattle.std.proofs.Common.{◌≡◌, ℕ, true, false, Bool, Option, List, inl, inr, ap, subst}
use Rattle.trace_core.specs.Runs.{IsOpened, RunState, Stands}
use Rattle.trace_plan.specs.Plans.{Planned}
use Rattle.unit_tree.specs.Compositions.{run_of}
use Rattle.unit_tree.specs.Successor.{Position}
use Rattle.trace_rows.specs.Passing.{Passes, WentOn}
use Rattle.trace_rows.specs.declared.tally.Tally.{Tally}
use Rattle.trace_rows.proofs.RunEnds.{IsDone, done_next, done_there}
use Rattle.trace_rows.proofs.RunKept.{Given, Kept}

pub going_on : (old new : RunState) (came : Bool) → came ≡ true → WentOn old new came → Passes old new
going_on old new came is went = (subst (WentOn old new) is went).0

pub ended_by : (old new : RunState) (came : Bool) → came ≡ false → WentOn old new came → WentOn old new false
ended_by old new came is went = subst (WentOn old new) is went

pub done_by : (plan : Planned) (from : Position) (old new : RunState) (held0 held : Option (List ℕ)) (faults0 faults : ℕ) (tally : Tally) → Given plan from
    → Kept plan from old held0 held faults0 faults tally → WentOn old new false → Stands new → IsDone plan from new held0 held tally
done_by plan from old new held0 held faults0 faults tally given kept (inl (moved, unknown)) stands =
    done_next plan from old new held0 held faults0 faults tally given kept moved stands unknown
done_by plan from old new held0 held faults0 faults tally given kept (inr there) stands =
    done_there plan from old new held0 held faults0 faults tally kept there

-- ---- Where a run was opened

pub opened_at : (plan : Planned) (at : Position) (r : RunState) → IsOpened plan at r → r.opened ≡ at
opened_at plan at r opened = ap (λ (s : RunState). s.opened) opened.is

pub composed_of : (plan : Planned) (at : Position) (r : RunState) → IsOpened plan at r → Stands r → plan.run ≡ run_of plan.system
composed_of plan at r opened stands =
    subst (λ (p : Planned). p.run ≡ run_of p.system) (ap (λ (s : RunState). s.plan) opened.is) stands.composed
