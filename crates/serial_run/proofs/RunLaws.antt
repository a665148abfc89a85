-- A run by its own steps: nothing in its report came from others.
use Rattle.std.proofs.Common.{◌≡◌, ℕ, ◌+◌, ◌≤◌, Option, List, Result, Ok, Err, subst, ◌∙◌, arith}
use Rattle.std.specs.Prelude.{IfOk}
use Rattle.trace_core.specs.Runs.{RunState}
use Rattle.unit_tree.specs.Trace.{HasCells}
use Rattle.unit_tree.specs.declared.system.System.{System}
use Rattle.trace_rows.specs.Reports.{ReportsTrace, TellsRun}
use Rattle.trace_rows.specs.declared.fault.CrewFault.{CrewFault}
use Rattle.trace_rows.specs.declared.report.Report.{Report}
use Rattle.serial_run.specs.Alone.{IsAlone}

pub alone_by : (r : RunState) (result : Result Report CrewFault) → IfOk result (TellsRun r) → r.found ≡ 0 → IfOk result IsAlone
alone_by r (Ok report) told none =
    record { found = told.found ∙ none; tickets = told.tickets; posted = told.posted; back = told.back; lapsed = told.lapsed }
alone_by r (Err fault) told none = tt

own_alone : (found own : ℕ) → found ≡ 0 → found + own ≡ own
own_alone found own none = omega (arith, none)

pub own_cells : (system : System) (held held' : Option (List ℕ)) (result : Result Report CrewFault) → IfOk result (ReportsTrace system held held')
    → IfOk result IsAlone → IfOk result (λ report. HasCells system report.own)
own_cells system held held' (Ok report) reports alone = subst (HasCells system) (own_alone report.found report.own alone.found) reports.cells
own_cells system held held' (Err fault) reports alone = tt

pub own_bounded : (most : Report → ℕ) (result : Result Report CrewFault) → IfOk result (λ report. report.found + report.own ≤ most report)
    → IfOk result (λ report. report.own ≤ most report)
own_bounded most (Ok report) all = own_at_most report.found report.own (most report) all
  where
    own_at_most : (found own most : ℕ) → found + own ≤ most → own ≤ most
    own_at_most found own most all = omega (arith, all)
own_bounded most (Err fault) all = tt
