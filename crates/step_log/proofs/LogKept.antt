-- The invariant of the loop over the steps of a logged run, and what it has written when it is over or given up.
use Rattle.std.proofs.Common.{◌≡◌, ℕ, false, List, [], ◌∷◌, ◌++◌, Option, Some, None, inl, inr, refl, sym, ap, subst, ◌∙◌, append-nil, append_assoc}
use Rattle.std.specs.Io.KnownBytes.{Appends}
use Rattle.std.specs.List.{cons_option, flat_map}
use Rattle.std.proofs.KnownBytes.{Appends-trans}
use Rattle.std.proofs.lemmas.Grind.{flat_map-append}
use Rattle.cosim_io.specs.Pieces.{AppendsPrefix}
use Rattle.cosim_io.proofs.PieceLemmas.{AppendsPrefix-after, AppendsPrefix-longer}
use Rattle.event_runs.specs.Readings.{offers_of, pace_of}
use Rattle.step_log.proofs.EventReports.{no_step}
use Rattle.step_counts.specs.declared.step.AgreedStep.{AgreedStep}
use Rattle.step_log.proofs.StepLists.{own_is, steps-append}
use Rattle.step_log.specs.Lines.{line_if, log_header, step_line}
use Rattle.step_log.specs.Reports.{AppendsReportPrefix, ReportsSteps, log_of, plain_step, plain_steps}
use Rattle.step_log.specs.declared.report.RunEnd.{RunEnd}
use Rattle.step_log.specs.declared.report.StepReport.TheVariants.{Log}
use Rattle.trace_core.specs.Runs.{IsOpened, RunState, Stands}
use Rattle.trace_core.specs.declared.phase.Phase.TheVariants.{Ended}
use Rattle.trace_plan.specs.Plans.{Planned}
use Rattle.trace_rows.proofs.PassedStands.{last_is}
use Rattle.trace_rows.proofs.RunEnds.{IsFinished, over_goes, over_next, over_there}
use Rattle.trace_rows.proofs.RunKept.{Given, IsAt, at_first, passed_at}
use Rattle.trace_rows.specs.Passing.{Passes, WentOn}
use Rattle.unit_tree.specs.Compositions.{Composition, run_of}
use Rattle.unit_tree.specs.Ports.{port_fault}
use Rattle.unit_tree.specs.Successor.{Position, first_position}
use Rattle.unit_tree.specs.Trace.{GoesOnFrom, IsTrace, Stand, cells_of, row_unless}
use Rattle.unit_tree.specs.declared.ending.Ending.{Ending}
use Rattle.unit_tree.specs.declared.system.System.{System}

-- ---- Lines of stands

abbrev pub log_line : System → Composition → Stand → List ℕ
log_line system run stand = line_if system (plain_step run stand)

unfoldable pub log_lines : System → Composition → List Stand → List ℕ
log_lines system run stands = flat_map (step_line system) (plain_steps run stands)

lines-append : (system : System) (run : Composition) (passed later : List Stand)
    → log_lines system run (passed ++ later) ≡ log_lines system run passed ++ log_lines system run later
unfolding log_lines
lines-append system run passed later =
    ap (flat_map (step_line system)) (steps-append run passed later)
    ∙ flat_map-append (step_line system) (plain_steps run passed) (plain_steps run later)

line_of_one : (system : System) (step : Option AgreedStep) → flat_map (step_line system) (cons_option step []) ≡ line_if system step
line_of_one system None = refl
line_of_one system (Some step) = append-nil (step_line system step)

one_line : (system : System) (run : Composition) (here : Stand) → log_lines system run (here ∷ []) ≡ log_line system run here
unfolding log_lines plain_steps
one_line system run here = line_of_one system (plain_step run here)

no_lines : (system : System) (run : Composition) → log_lines system run [] ≡ []
unfolding log_lines plain_steps
no_lines system run = refl

log_is : (system : System) (run : Composition) (stands : List Stand) → log_header ++ log_lines system run stands ≡ log_of system (plain_steps run stands)
unfolding log_lines
log_is system run stands = refl

-- A stand with a port fault has no line.
faulted : (system : System) (run : Composition) (here : Stand) (fault : Option Ending) → port_fault run here.at.states here.ports ≡ fault
    → row_unless fault here.at.point here.ports ≡ None → log_line system run here ≡ []
faulted system run here None is none = absurd (cc)
faulted system run here (Some ending) is none =
    ap (λ step. line_if system step)
    (no_step (pace_of run) here.at (offers_of run here.at here.ports) ending is)

-- ---- What is written so far

-- The lines of these stands follow the header.
abbrev Written : Planned → List Stand → Option (List ℕ) → Option (List ℕ) → Type 0
Written plan stands held0 held = Appends held0 held (log_header ++ log_lines plan.system plan.run stands)

-- The run comes after these stands, whose lines were written.
pub record Logged (plan : Planned) (from : Position) (r : RunState) (held0 held : Option (List ℕ)) (faults0 faults : ℕ) : Type 0 where
  pub passed : List Stand
  pub at : IsAt plan from passed r
  pub put : Written plan passed held0 held
  pub alone : r.found ≡ 0
  pub same : faults ≡ faults0

pub logged_first : (plan : Planned) (from : Position) (r : RunState) (held0 held : Option (List ℕ)) (faults0 faults : ℕ) → IsOpened plan from r → Stands r
    → Appends held0 held log_header → faults ≡ faults0 → Logged plan from r held0 held faults0 faults
logged_first plan from r held0 held faults0 faults opened stands put same = record {
  passed = [];
  at = at_first plan from r opened stands;
  alone = ap (λ (s : RunState). s.found) opened.is;
  put = subst (Appends held0 held) (sym (ap (λ lines. log_header ++ lines) (no_lines plan.system plan.run) ∙ append-nil log_header)) put;
  same = same;
}

-- One more line.
written_more : (plan : Planned) (passed : List Stand) (here : Stand) (held0 held held' : Option (List ℕ)) → Written plan passed held0 held
    → Appends held held' (log_line plan.system plan.run here) → Written plan (passed ++ (here ∷ [])) held0 held'
written_more plan passed here held0 held held' put more =
    subst (Appends held0 held')
    (append_assoc log_header (log_lines plan.system plan.run passed) (log_line plan.system plan.run here)
    ∙ ap (λ lines. log_header ++ lines)
    (ap (λ line. log_lines plan.system plan.run passed ++ line) (sym (one_line plan.system plan.run here))
    ∙ sym (lines-append plan.system plan.run passed (here ∷ []))))
    (Appends-trans held0 held held' (log_header ++ log_lines plan.system plan.run passed) (log_line plan.system plan.run here) put more)

pub logged_next : (plan : Planned) (from : Position) (old new : RunState) (held0 held held' : Option (List ℕ)) (faults0 faults faults' : ℕ)
    → Given plan from → Logged plan from old held0 held faults0 faults → Passes old new → Stands new
    → new.found ≡ old.found → Appends held held' (line_if plan.system (plain_step plan.run old.stand)) → faults' ≡ faults
    → Logged plan from new held0 held' faults0 faults'
logged_next plan from old new held0 held held' faults0 faults faults' given logged on stands alone more same = record {
  passed = logged.passed ++ (old.stand ∷ []);
  at = passed_at plan from logged.passed old new given logged.at on stands;
  put = written_more plan logged.passed old.stand held0 held held' logged.put more;
  alone = alone ∙ logged.alone;
  same = same ∙ logged.same;
}

-- ---- The end

-- The run is over after these stands, whose lines were written.
pub record LogDone (plan : Planned) (from : Position) (r : RunState) (held0 held : Option (List ℕ)) : Type 0 where
  pub passed : List Stand
  pub over : IsFinished plan from passed r
  pub put : Written plan (passed ++ (r.stand ∷ [])) held0 held
  pub alone : r.found ≡ 0

pub log_done : (plan : Planned) (from : Position) (old new : RunState) (held0 held held' : Option (List ℕ)) (faults0 faults : ℕ) → Given plan from
    → Logged plan from old held0 held faults0 faults → WentOn old new false → Stands new → new.found ≡ old.found
    → Appends held held' (line_if plan.system (plain_step plan.run old.stand)) → LogDone plan from new held0 held'
log_done plan from old new held0 held held' faults0 faults given logged (inl (moved, unknown)) stands alone more =
    let over = over_next plan from logged.passed old new given logged.at moved stands unknown in
    let here = written_more plan logged.passed old.stand held0 held held' logged.put more in
    let none : log_line plan.system plan.run new.stand ≡ [] =
    faulted plan.system plan.run new.stand (port_fault plan.run new.stand.at.states new.stand.ports) refl over.1 in
    record {
      passed = logged.passed ++ (old.stand ∷ []);
      over = over.0;
      alone = alone ∙ logged.alone;
      put = subst (Appends held0 held')
          (ap (λ lines. log_header ++ lines)
          (sym (append-nil (log_lines plan.system plan.run (logged.passed ++ (old.stand ∷ []))))
          ∙ ap (λ line. log_lines plan.system plan.run (logged.passed ++ (old.stand ∷ [])) ++ line) (sym none ∙ sym (one_line plan.system plan.run new.stand))
          ∙ sym (lines-append plan.system plan.run (logged.passed ++ (old.stand ∷ [])) (new.stand ∷ []))))
          here;
    }
log_done plan from old new held0 held held' faults0 faults given logged (inr there) stands alone more = record {
  passed = logged.passed;
  alone = alone ∙ logged.alone;
  over = over_there plan from logged.passed old new logged.at there;
  put = subst (λ here. Written plan (logged.passed ++ (here ∷ [])) held0 held') (sym there.stand)
      (written_more plan logged.passed old.stand held0 held held' logged.put more);
}

pub reports_log : (plan : Planned) (from : Position) (r : RunState) (held0 held : Option (List ℕ)) (ending : Ending) (end : RunEnd)
    → plan.run ≡ run_of plan.system → from ≡ first_position plan.run → Given plan from → LogDone plan from r held0 held → r.phase ≡ Ended ending
    → end ≡ record { outcome = ending; last = r.stand.at.point; own = r.own } → ReportsSteps Log plan.system held0 held end
reports_log plan from r held0 held ending end composed first given done is told =
    let stands = done.passed ++ (r.stand ∷ []) in
    let goes = over_goes plan from done.passed r ending given done.over is in
    subst (ReportsSteps Log plan.system held0 held) (sym told) (record {
      stands = stands;
      trace = subst (λ run. IsTrace run stands ending) composed (subst (λ at. GoesOnFrom plan.run at stands ending) first goes);
      last = sym (last_is done.passed r.stand);
      own = own_is plan from done.passed r done.over done.alone ∙ ap (λ run. cells_of run stands) composed;
      out = subst (λ run. Appends held0 held (log_of plan.system (plain_steps run stands))) composed
          (subst (Appends held0 held) (log_is plan.system plan.run stands) done.put);
    })

-- ---- The run is given up

-- What was written up to here, and a prefix of the line here, begin every log.
pub front_logged : (plan : Planned) (from : Position) (r : RunState) (held0 held held' : Option (List ℕ)) (faults0 faults : ℕ)
    → plan.run ≡ run_of plan.system → from ≡ first_position plan.run → Logged plan from r held0 held faults0 faults
    → AppendsPrefix held held' (line_if plan.system (plain_step plan.run r.stand)) → AppendsReportPrefix Log plan.system held0 held'
front_logged plan from r held0 held held' faults0 faults composed first logged front = record {
  begins = λ stands ending trace.
      let goes : GoesOnFrom plan.run from stands ending =
      subst (λ at. GoesOnFrom plan.run at stands ending) (sym first) (subst (λ run. IsTrace run stands ending) (sym composed) trace) in
      let on = logged.at.walked stands ending goes in
      let system = plan.system in
      let run = plan.run in
      let line = log_line system run r.stand in
      let text : (log_header ++ log_lines system run logged.passed) ++ (line ++ log_lines system run on.later) ≡ log_of system (plain_steps (run_of system) stands) =
      append_assoc log_header (log_lines system run logged.passed) (line ++ log_lines system run on.later)
      ∙ ap (λ lines. log_header ++ lines)
      (ap (λ l. log_lines system run logged.passed ++ (l ++ log_lines system run on.later)) (sym (one_line system run r.stand))
      ∙ ap (λ rest. log_lines system run logged.passed ++ rest) (sym (lines-append system run (r.stand ∷ []) on.later))
      ∙ sym (lines-append system run logged.passed (r.stand ∷ on.later))
      ∙ ap (log_lines system run) (sym on.split)
      ∙ ap (λ run. log_lines system run stands) composed)
      ∙ log_is system (run_of system) stands in
      subst (AppendsPrefix held0 held') text
      (AppendsPrefix-after held0 held held' (log_header ++ log_lines system run logged.passed) (line ++ log_lines system run on.later) logged.put
      (AppendsPrefix-longer held held' line (log_lines system run on.later) front));
}

pub front_header : (system : System) (held held' : Option (List ℕ)) → AppendsPrefix held held' log_header → AppendsReportPrefix Log system held held'
front_header system held held' front = record {
  begins = λ stands ending trace. AppendsPrefix-longer held held' log_header (flat_map (step_line system) (plain_steps (run_of system) stands)) front;
}
