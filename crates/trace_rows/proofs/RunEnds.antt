-- What a run has written and reports when it is over, or given up.
use Rattle.std.proofs.Common.{◌≡◌, ℕ, ◌+◌, ◌*◌, ◌≤◌, List, [], ◌∷◌, ◌++◌, length, Option, Some, None, Result, Ok, Err, refl, sym, ap, subst, ◌∙◌, append-nil}
use Rattle.std.proofs.Common.{append_assoc, arith}
use Rattle.std.specs.List.{cons_option}
use Rattle.std.specs.Prelude.{IfOk, OnErr}
use Rattle.std.specs.Io.KnownBytes.{Appends}
use Rattle.std.proofs.KnownBytes.{Appends-trans}
use Rattle.std.proofs.lemmas.List.Elements.{filter_map-append}
use Rattle.cosim_io.specs.Pieces.{AppendsPrefix}
use Rattle.cosim_io.proofs.PieceLemmas.{AppendsPrefix-nil, AppendsPrefix-after, AppendsPrefix-longer, AppendsPrefix-whole}
use Rattle.trace_core.specs.Runs.{RunState, Stands, ArePortsKnown, IsPhase, first_end}
use Rattle.trace_core.specs.declared.phase.Phase.TheVariants.{Ended}
use Rattle.trace_csv.specs.Columns.{columns_of}
use Rattle.trace_csv.specs.TraceText.{row_line}
use Rattle.trace_plan.specs.Plans.{Planned}
use Rattle.unit_tree.specs.Compositions.{Composition, run_of}
use Rattle.unit_tree.specs.Ports.{first_some, port_fault}
use Rattle.unit_tree.specs.Successor.{Position, ends, first_position, max_end, row_end, stop_end, successor}
use Rattle.unit_tree.specs.Trace.{Stand, GoesOnFrom, IsTrace, Row, row_at, row_unless, rows_of, cells_at, cells_of}
use Rattle.unit_tree.specs.WellFormed.{resolution_of}
use Rattle.unit_tree.specs.declared.ending.Ending.{Ending}
use Rattle.unit_tree.specs.declared.system.System.{System}
use Rattle.run_laws.proofs.RunTraces.{one_rest}
use Rattle.trace_rows.specs.Lines.{header_of, lines_of, rows_here}
use Rattle.trace_rows.specs.Passing.{Passes, Stops}
use Rattle.trace_rows.specs.Reports.{report_of, AreTicketsTold, ReportsRest, AppendsRestPrefix, ReportsTrace, AppendsTracePrefix}
use Rattle.trace_rows.specs.Sums.{sum_shown}
use Rattle.trace_rows.specs.declared.fault.CrewFault.{CrewFault}
use Rattle.trace_rows.specs.declared.report.Report.{Report}
use Rattle.trace_rows.specs.declared.tally.Tally.{Tally}
use Rattle.trace_rows.proofs.BoundLaws.{cells_are_bounded}
use Rattle.trace_rows.proofs.FreshRuns.{phase_by, ended_as, cells_ended, same_end}
use Rattle.trace_rows.proofs.RowLaws.{text_is}
use Rattle.trace_rows.proofs.RunKept.{Given, ArePut, IsAt, Come, Kept, passed_at, cells-push, filled_more, lines-append}
use Rattle.trace_rows.proofs.PassedStands.{Walked, walked_end, last_is, front_along}

-- ---- The run is over

-- The run ended here, after these stands, and all cells were made.
pub record IsFinished (plan : Planned) (from : Position) (passed : List Stand) (r : RunState) : Type 0 where
  pub walked : Walked plan.run from passed r.stand
  pub filled : r.found + r.own ≡ cells_of plan.run (passed ++ (r.stand ∷ []))
  pub ending : Ending
  pub phase : r.phase ≡ Ended ending
  pub ended : successor plan.run r.stand.at r.stand.ports ≡ ends ending

-- At the stand where it was.
pub over_there : (plan : Planned) (from : Position) (passed : List Stand) (old new : RunState) → IsAt plan from passed old → Stops old new
    → IsFinished plan from passed new
over_there plan from passed old new at there =
    let stand : old.stand ≡ new.stand = sym there.stand in
    record {
      walked = subst (Walked plan.run from passed) stand at.walked;
      filled =
          filled_more plan old.plan passed old.stand (old.found + old.own) (new.found + new.own) at.planned at.filled there.filled
          ∙ ap (λ here. cells_of plan.run (passed ++ (here ∷ []))) stand;
      ending = there.ending;
      phase = there.phase;
      ended = subst (λ (here : Stand). successor plan.run here.at here.ports ≡ ends there.ending) stand
          (subst (λ (p : Planned). successor p.run old.stand.at old.stand.ports ≡ ends there.ending) at.planned there.ended);
    }

-- At a stand with a port fault, which has no row.
over_at : (plan : Planned) (from : Position) (passed : List Stand) (r : RunState) (fault : Option Ending) → IsAt plan from passed r
    → port_fault r.plan.run r.stand.at.states r.stand.ports ≡ fault → (fault ≡ None → ⊥) → IsFinished plan from passed r × (row_at plan.run r.stand ≡ None)
over_at plan from passed r None at is unknown = absurd (unknown refl)
over_at plan from passed r (Some ending) at is unknown =
    let first : first_end r.plan.run r.stand ≡ Some ending =
    ap (λ fault. first_some (fault ∷ stop_end r.plan.run r.stand.at ∷ row_end r.plan.run r.stand.at ∷ max_end r.plan.run r.stand.at r.stand.ports ∷ [])) is in
    let over = phase_by r (Some ending) at.fresh first in
    let none : row_at r.plan.run r.stand ≡ None = ap (λ fault. row_unless fault r.stand.at.point r.stand.ports) is in (
      record {
        walked = at.walked;
        filled = at.filled
            ∙ nothing_more (cells_of plan.run passed) (cells_at plan.run r.stand)
            (subst (λ (p : Planned). cells_at p.run r.stand ≡ 0) at.planned (cells_ended r.plan.run r.stand ending first))
            ∙ sym (cells-push plan.run passed r.stand);
        ending = ending;
        phase = over.phase;
        ended = subst (λ (p : Planned). successor p.run r.stand.at r.stand.ports ≡ ends ending) at.planned
            (ended_as r.plan.run r.stand r.phase ending (subst (IsPhase r.plan.run r.stand r.phase) over.none at.stands.phase_is) over.phase);
      },
      subst (λ (p : Planned). row_at p.run r.stand ≡ None) at.planned none,
    )
  where
    nothing_more : (before here : ℕ) → here ≡ 0 → before ≡ before + here
    nothing_more before here is = omega arith

-- At the next stand, where this has no row.
pub over_next : (plan : Planned) (from : Position) (passed : List Stand) (old new : RunState) → Given plan from → IsAt plan from passed old → Passes old new
    → Stands new → (ArePortsKnown new.plan.run new.stand → ⊥) → IsFinished plan from (passed ++ (old.stand ∷ [])) new × (row_at plan.run new.stand ≡ None)
over_next plan from passed old new given at on stands unknown =
    over_at plan from (passed ++ (old.stand ∷ [])) new (port_fault new.plan.run new.stand.at.states new.stand.ports)
    (passed_at plan from passed old new given at on stands) refl unknown

-- The stands are then a whole rest of the position.
pub over_goes : (plan : Planned) (from : Position) (passed : List Stand) (r : RunState) (ending : Ending) → Given plan from → IsFinished plan from passed r
    → r.phase ≡ Ended ending → GoesOnFrom plan.run from (passed ++ (r.stand ∷ [])) ending
over_goes plan from passed r ending given over is =
    let one = one_rest plan.run given.order given.members given.ordered from given.words given.in_bounds in
    let whole = walked_end plan.run from passed r.stand one.stands one.ending over.ending over.walked over.ended one.goes_on in
    let ends_so : one.ending ≡ ending = whole.1 ∙ same_end (sym over.phase ∙ is) in
    subst (λ stands. GoesOnFrom plan.run from stands ending) whole.0 (subst (GoesOnFrom plan.run from one.stands) ends_so one.goes_on)

-- All rows were written too.
pub record IsDone (plan : Planned) (from : Position) (r : RunState) (held0 held : Option (List ℕ)) (tally : Tally) : Type 0 where
  pub passed : List Stand
  pub over : IsFinished plan from passed r
  pub put : ArePut plan (passed ++ (r.stand ∷ [])) held0 held tally

-- After the row here.
pub done_there : (plan : Planned) (from : Position) (old new : RunState) (held0 held : Option (List ℕ)) (faults0 faults : ℕ) (tally : Tally)
    → Kept plan from old held0 held faults0 faults tally → Stops old new → IsDone plan from new held0 held tally
done_there plan from old new held0 held faults0 faults tally kept there = record {
  passed = kept.passed;
  over = over_there plan from kept.passed old new kept.at there;
  put = subst (λ here. ArePut plan (kept.passed ++ (here ∷ [])) held0 held tally) (sym there.stand) kept.put;
}

-- A stand with a port fault has no row.
put_on : (plan : Planned) (passed : List Stand) (here : Stand) (held0 held : Option (List ℕ)) (tally : Tally) → row_at plan.run here ≡ None
    → ArePut plan passed held0 held tally → ArePut plan (passed ++ (here ∷ [])) held0 held tally
put_on plan passed here held0 held tally none put =
    let rows : rows_of plan.run passed ≡ rows_of plan.run (passed ++ (here ∷ [])) =
    sym (filter_map-append (row_at plan.run) passed (here ∷ []) ∙ ap (λ found. rows_of plan.run passed ++ cons_option found []) none
    ∙ append-nil (rows_of plan.run passed)) in
    record {
      out = subst (λ rows. Appends held0 held (lines_of plan.system rows)) rows put.out;
      rows = put.rows ∙ ap length rows;
      sum = put.sum ∙ ap (sum_shown (columns_of plan.system)) rows;
    }

-- At a stand that has no row after it.
pub done_next : (plan : Planned) (from : Position) (old new : RunState) (held0 held : Option (List ℕ)) (faults0 faults : ℕ) (tally : Tally) → Given plan from
    → Kept plan from old held0 held faults0 faults tally → Passes old new → Stands new → (ArePortsKnown new.plan.run new.stand → ⊥)
    → IsDone plan from new held0 held tally
done_next plan from old new held0 held faults0 faults tally given kept on stands unknown =
    let over = over_next plan from kept.passed old new given kept.at on stands unknown in
    record {
      passed = kept.passed ++ (old.stand ∷ []);
      over = over.0;
      put = put_on plan (kept.passed ++ (old.stand ∷ [])) new.stand held0 held tally over.1 kept.put;
    }

-- ---- What it reports

-- The report is that of a run which ended in this way at its stand.
pub record IsReportOf (r : RunState) (ending : Ending) (tally : Tally) (report : Report) : Type 0 where
  pub outcome : report.outcome ≡ ending
  pub last : report.last ≡ r.stand.at.point
  pub rows : report.rows ≡ tally.rows
  pub sum : report.sum ≡ tally.sum
  pub found : report.found ≡ r.found
  pub own : report.own ≡ r.own
  pub tickets : AreTicketsTold report

pub report_by : (r : RunState) (ending : Ending) (tally : Tally) (report : Report) → report ≡ report_of r ending tally → IsReportOf r ending tally report
report_by r ending tally report is =
    subst (IsReportOf r ending tally) (sym is)
    (record { outcome = refl; last = refl; rows = refl; sum = refl; found = refl; own = refl; tickets = refl })

pub reports_rest : (plan : Planned) (from : Position) (r : RunState) (held0 held : Option (List ℕ)) (tally : Tally) (ending : Ending) (report : Report)
    → Given plan from → IsDone plan from r held0 held tally → r.phase ≡ Ended ending → IsReportOf r ending tally report
    → ReportsRest plan from held0 held report
reports_rest plan from r held0 held tally ending report given done is told = record {
  stands = done.passed ++ (r.stand ∷ []);
  goes_on = subst (GoesOnFrom plan.run from (done.passed ++ (r.stand ∷ []))) (sym told.outcome) (over_goes plan from done.passed r ending given done.over is);
  last = told.last ∙ sym (last_is done.passed r.stand);
  out = done.put.out;
  rows_counted = told.rows ∙ done.put.rows;
  summed = told.sum ∙ done.put.sum;
  cells = ap (λ found. found + report.own) told.found ∙ ap (λ own. r.found + own) told.own ∙ done.over.filled;
  tickets = told.tickets;
}

-- ---- The run is given up

-- The line of a row in the trace of a system.
abbrev line : System → Row → List ℕ
line system row = row_line (resolution_of system) (columns_of system) row.point row.words

front_of : (system : System) (run : Composition) (from : Position) (passed : List Stand) (here : Stand) (held0 held held' : Option (List ℕ))
    → Walked run from passed here → Appends held0 held (lines_of system (rows_of run passed))
    → AppendsPrefix held held' (lines_of system (rows_of run (here ∷ []))) → (stands : List Stand) (ending : Ending) → GoesOnFrom run from stands ending
    → AppendsPrefix held0 held' (lines_of system (rows_of run stands))
unfolding lines_of
front_of system run from passed here held0 held held' walked put front stands ending rest =
    front_along run (line system) from passed here held0 held held' walked put front stands ending rest

pub front_come : (plan : Planned) (from : Position) (r : RunState) (held0 held held' : Option (List ℕ)) (faults0 faults : ℕ) (tally : Tally)
    → Come plan from r held0 held faults0 faults tally → AppendsPrefix held held' (lines_of plan.system (rows_here plan r.stand))
    → AppendsRestPrefix plan from held0 held'
front_come plan from r held0 held held' faults0 faults tally come front = record {
  begins = λ stands ending rest.
      front_of plan.system plan.run from come.passed r.stand held0 held held' come.at.walked come.put.out front stands ending rest;
}

-- After the row here.
pub front_kept : (plan : Planned) (from : Position) (r : RunState) (held0 held : Option (List ℕ)) (faults0 faults : ℕ) (tally : Tally)
    → Kept plan from r held0 held faults0 faults tally → AppendsRestPrefix plan from held0 held
front_kept plan from r held0 held faults0 faults tally kept = record {
  begins = λ stands ending rest.
      let on = kept.at.walked stands ending rest in
      let here = kept.passed ++ (r.stand ∷ []) in
      let split : stands ≡ here ++ on.later = on.split ∙ sym (append_assoc kept.passed (r.stand ∷ []) on.later) in
      let lines : lines_of plan.system (rows_of plan.run stands)
      ≡ lines_of plan.system (rows_of plan.run here) ++ lines_of plan.system (rows_of plan.run on.later) =
      ap (λ all. lines_of plan.system (rows_of plan.run all)) split
      ∙ ap (lines_of plan.system) (filter_map-append (row_at plan.run) here on.later)
      ∙ lines-append plan.system (rows_of plan.run here) (rows_of plan.run on.later) in
      subst (AppendsPrefix held0 held) (sym lines)
      (AppendsPrefix-longer held0 held (lines_of plan.system (rows_of plan.run here)) (lines_of plan.system (rows_of plan.run on.later))
      (AppendsPrefix-whole held0 held (lines_of plan.system (rows_of plan.run here)) kept.put.out));
}

-- ---- A whole trace: the header, and then the rest of the first position

pub traced : (plan : Planned) (from : Position) (held0 held held' : Option (List ℕ)) (report : Report) → plan.run ≡ run_of plan.system
    → from ≡ first_position plan.run → Appends held0 held (header_of plan.system) → ReportsRest plan from held held' report
    → ReportsTrace plan.system held0 held' report
traced plan from held0 held held' report composed first put rest =
    let trace : IsTrace (run_of plan.system) rest.stands report.outcome =
    subst (λ run. IsTrace run rest.stands report.outcome) composed (subst (λ at. GoesOnFrom plan.run at rest.stands report.outcome) first rest.goes_on) in
    record {
      rows = rows_of plan.run rest.stands;
      trace = record { stands = rest.stands; trace = trace; rows_are = ap (λ run. rows_of run rest.stands) composed; last_is = rest.last };
      out = subst (Appends held0 held') (text_is plan.system (rows_of plan.run rest.stands))
          (Appends-trans held0 held held' (header_of plan.system) (lines_of plan.system (rows_of plan.run rest.stands)) put rest.out);
      rows_counted = rest.rows_counted;
      summed = rest.summed;
      cells = record {
        stands = rest.stands;
        ending = report.outcome;
        trace = trace;
        is = rest.cells ∙ ap (λ run. cells_of run rest.stands) composed;
      };
      tickets = rest.tickets;
    }

traced_front : (plan : Planned) (from : Position) (held0 held held' : Option (List ℕ)) → plan.run ≡ run_of plan.system → from ≡ first_position plan.run
    → Appends held0 held (header_of plan.system) → AppendsRestPrefix plan from held held' → AppendsTracePrefix plan.system held0 held'
traced_front plan from held0 held held' composed first put front = record {
  begins = λ rows last ending trace.
      let stands : GoesOnFrom plan.run from trace.stands ending =
      subst (λ at. GoesOnFrom plan.run at trace.stands ending) (sym first) (subst (λ run. IsTrace run trace.stands ending) (sym composed) trace.trace) in
      let rows_are : rows_of plan.run trace.stands ≡ rows = ap (λ run. rows_of run trace.stands) composed ∙ sym trace.rows_are in
      subst (AppendsPrefix held0 held') (ap (λ rows. header_of plan.system ++ lines_of plan.system rows) rows_are ∙ text_is plan.system rows)
      (AppendsPrefix-after held0 held held' (header_of plan.system) (lines_of plan.system (rows_of plan.run trace.stands)) put
      (front.begins trace.stands ending stands));
}

pub traced_ok : (plan : Planned) (from : Position) (held0 held held' : Option (List ℕ)) (result : Result Report CrewFault) → plan.run ≡ run_of plan.system
    → from ≡ first_position plan.run → Appends held0 held (header_of plan.system) → IfOk result (ReportsRest plan from held held')
    → IfOk result (ReportsTrace plan.system held0 held')
traced_ok plan from held0 held held' (Ok report) composed first put rest = traced plan from held0 held held' report composed first put rest
traced_ok plan from held0 held held' (Err fault) composed first put rest = tt

pub traced_err : (plan : Planned) (from : Position) (held0 held held' : Option (List ℕ)) (result : Result Report CrewFault) → plan.run ≡ run_of plan.system
    → from ≡ first_position plan.run → Appends held0 held (header_of plan.system) → OnErr result (AppendsRestPrefix plan from held held')
    → OnErr result (AppendsTracePrefix plan.system held0 held')
traced_err plan from held0 held held' (Ok report) composed first put front = tt
traced_err plan from held0 held held' (Err fault) composed first put front = traced_front plan from held0 held held' composed first put front

pub front_header : (system : System) (held held' : Option (List ℕ)) → AppendsPrefix held held' (header_of system) → AppendsTracePrefix system held held'
front_header system held held' front = record {
  begins = λ rows last ending trace.
      subst (AppendsPrefix held held') (text_is system rows) (AppendsPrefix-longer held held' (header_of system) (lines_of system rows) front);
}

pub front_none : (system : System) (held : Option (List ℕ)) → AppendsTracePrefix system held held
front_none system held = front_header system held held (AppendsPrefix-nil held (header_of system))

-- ---- How many cells were filled

pub rest_bounded : (plan : Planned) (from : Position) (held held' : Option (List ℕ)) (report : Report) → ReportsRest plan from held held' report
    → report.found + report.own ≤ 2 * length plan.run.members * report.rows
rest_bounded plan from held held' report rest =
    subst (λ filled. filled ≤ 2 * length plan.run.members * report.rows) (sym rest.cells)
    (subst (λ rows. cells_of plan.run rest.stands ≤ 2 * length plan.run.members * rows) (sym rest.rows_counted) (cells_are_bounded plan.run rest.stands))

pub all_bounded : (plan : Planned) (from : Position) (held held' : Option (List ℕ)) (result : Result Report CrewFault)
    → IfOk result (ReportsRest plan from held held') → IfOk result (λ report. report.found + report.own ≤ 2 * length plan.run.members * report.rows)
all_bounded plan from held held' (Ok report) rest = rest_bounded plan from held held' report rest
all_bounded plan from held held' (Err fault) rest = tt
