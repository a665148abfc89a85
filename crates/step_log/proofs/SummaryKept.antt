-- The invariant of the loop that counts the steps of a run, and what is counted when it is over.
use Rattle.std.proofs.Common.{◌≡◌, ◌∙◌, ℕ, suc, ◌≤◌, false, List, [], ◌∷◌, ◌++◌, length, length-append, Option, Some, None, inl, inr, refl, ap, sym, subst, arith, append-nil}
use Rattle.std.specs.Io.KnownBytes.{Appends}
use Rattle.std.specs.List.{cons_option}
use Rattle.cosim_io.specs.Pieces.{AppendsPrefix}
use Rattle.cosim_io.proofs.PieceLemmas.{AppendsPrefix-nil}
use Rattle.event_runs.specs.Readings.{offers_of, pace_of}
use Rattle.step_counts.proofs.CountLaws.{has_room}
use Rattle.step_counts.specs.Counting.{HasRoom}
use Rattle.step_counts.specs.Counts.{IsCountOf}
use Rattle.step_counts.specs.Summaries.{summary_of}
use Rattle.step_counts.specs.declared.counts.StepCounts.{StepCounts}
use Rattle.step_counts.specs.declared.step.AgreedStep.{AgreedStep}
use Rattle.step_log.proofs.EventReports.{no_step}
use Rattle.step_log.proofs.StepLists.{no_steps, own_is, step_of_one, steps-append}
use Rattle.step_log.specs.Reports.{AppendsReportPrefix, ReportsSteps, plain_step, plain_steps}
use Rattle.step_log.specs.declared.report.RunEnd.{RunEnd}
use Rattle.step_log.specs.declared.report.StepReport.{StepReport}
use Rattle.step_log.specs.declared.report.StepReport.TheVariants.{Summary}
use Rattle.trace_core.specs.Runs.{IsOpened, RunState, Stands}
use Rattle.trace_core.specs.declared.phase.Phase.TheVariants.{Ended}
use Rattle.trace_plan.specs.Plans.{Planned}
use Rattle.trace_rows.proofs.FreshRuns.{same_end}
use Rattle.trace_rows.proofs.PassedStands.{last_is, walked_end}
use Rattle.trace_rows.proofs.RunEnds.{IsFinished, over_goes, over_next, over_there}
use Rattle.trace_rows.proofs.RunKept.{Given, IsAt, at_first, fewer_left, number_within, passed_at}
use Rattle.trace_rows.specs.Passing.{Passes, WentOn}
use Rattle.unit_tree.specs.Compositions.{Composition, run_of}
use Rattle.unit_tree.specs.Ports.{port_fault}
use Rattle.unit_tree.specs.Successor.{Position, first_position}
use Rattle.unit_tree.specs.Trace.{GoesOnFrom, IsTrace, Stand, cells_of, row_unless}
use Rattle.unit_tree.specs.declared.ending.Ending.{Ending}
use Rattle.unit_tree.specs.declared.system.System.{System}

-- ---- Fewer steps than stands

few_steps : (run : Composition) (stands : List Stand) → length (plain_steps run stands) ≤ length stands
unfolding plain_steps
few_steps run [] = omega arith
few_steps run (stand ∷ stands) = few (plain_step run stand) (few_steps run stands)
  where
    few : (step : Option AgreedStep) → length (plain_steps run stands) ≤ length stands
        → length (cons_option step (plain_steps run stands)) ≤ suc (length stands)
    few None less = omega (arith, less)
    few (Some step) less = omega (arith, less)

-- ---- What is counted so far

-- The run comes after these stands, whose steps were counted.
pub record Counted (plan : Planned) (from : Position) (instances : ℕ) (r : RunState) (counts : StepCounts) : Type 0 where
  pub passed : List Stand
  pub at : IsAt plan from passed r
  pub counted : IsCountOf instances (plain_steps plan.run passed) counts
  pub few : length passed ≤ r.stand.at.number
  pub alone : r.found ≡ 0

pub counted_first : (plan : Planned) (from : Position) (instances : ℕ) (r : RunState) (counts : StepCounts) → IsOpened plan from r → Stands r
    → IsCountOf instances [] counts → Counted plan from instances r counts
counted_first plan from instances r counts opened stands counted = record {
  passed = [];
  at = at_first plan from r opened stands;
  counted = subst (λ steps. IsCountOf instances steps counts) (sym (no_steps plan.run)) counted;
  few = omega arith;
  alone = ap (λ (s : RunState). s.found) opened.is;
}

-- One stand more.
more_counted : (run : Composition) (instances : ℕ) (passed : List Stand) (here : Stand) (counts : StepCounts)
    → IsCountOf instances (plain_steps run passed ++ cons_option (plain_step run here) []) counts
    → IsCountOf instances (plain_steps run (passed ++ (here ∷ []))) counts
more_counted run instances passed here counts counted =
    subst (λ steps. IsCountOf instances steps counts)
    (ap (λ last. plain_steps run passed ++ last) (sym (step_of_one run here)) ∙ sym (steps-append run passed (here ∷ []))) counted

-- What a step of the run does to the counts.
abbrev pub Counts : Planned → RunState → StepCounts → StepCounts → Type 0
Counts plan old counts counts' = (instances : ℕ) (steps : List AgreedStep) → IsCountOf instances steps counts
    → IsCountOf instances (steps ++ cons_option (plain_step plan.run old.stand) []) counts'

pub counted_next : (plan : Planned) (from : Position) (instances : ℕ) (old new : RunState) (counts counts' : StepCounts) → Given plan from
    → Counted plan from instances old counts → Passes old new → Stands new → new.found ≡ old.found → Counts plan old counts counts'
    → Counted plan from instances new counts'
counted_next plan from instances old new counts counts' given so_far on stands alone more = record {
  passed = so_far.passed ++ (old.stand ∷ []);
  at = passed_at plan from so_far.passed old new given so_far.at on stands;
  counted = more_counted plan.run instances so_far.passed old.stand counts'
      (more instances (plain_steps plan.run so_far.passed) so_far.counted);
  few = let number = fewer_left old new on in let many = length-append so_far.passed (old.stand ∷ []) in let few = so_far.few in
      omega (arith, number, many, few);
  alone = alone ∙ so_far.alone;
}

-- There is room for one step more.
pub room_for : (plan : Planned) (from : Position) (instances : ℕ) (r : RunState) (counts : StepCounts) → Given plan from
    → Counted plan from instances r counts → HasRoom counts
room_for plan from instances r counts given so_far =
    let steps = few_steps plan.run so_far.passed in
    let few = so_far.few in
    let within = number_within plan from r given so_far.at.planned so_far.at.stands in
    has_room instances (plain_steps plan.run so_far.passed) counts so_far.counted (omega (arith, steps, few, within))

-- ---- The end

-- The run is over after these stands, whose steps were counted.
pub record AllCounted (plan : Planned) (from : Position) (instances : ℕ) (r : RunState) (counts : StepCounts) : Type 0 where
  pub passed : List Stand
  pub over : IsFinished plan from passed r
  pub counted : IsCountOf instances (plain_steps plan.run (passed ++ (r.stand ∷ []))) counts
  pub alone : r.found ≡ 0

-- A stand with a port fault has no step.
faulted : (run : Composition) (here : Stand) (fault : Option Ending) → port_fault run here.at.states here.ports ≡ fault
    → row_unless fault here.at.point here.ports ≡ None → plain_step run here ≡ None
faulted run here None is none = absurd (cc)
faulted run here (Some ending) is none = no_step (pace_of run) here.at (offers_of run here.at here.ports) ending is

pub all_counted : (plan : Planned) (from : Position) (instances : ℕ) (old new : RunState) (counts counts' : StepCounts) → Given plan from
    → Counted plan from instances old counts → WentOn old new false → Stands new → new.found ≡ old.found → Counts plan old counts counts'
    → AllCounted plan from instances new counts'
all_counted plan from instances old new counts counts' given so_far (inl (moved, unknown)) stands alone more =
    let over = over_next plan from so_far.passed old new given so_far.at moved stands unknown in
    let passed = so_far.passed ++ (old.stand ∷ []) in
    let none : plain_step plan.run new.stand ≡ None =
    faulted plan.run new.stand (port_fault plan.run new.stand.at.states new.stand.ports) refl over.1 in
    let here = more_counted plan.run instances so_far.passed old.stand counts' (more instances (plain_steps plan.run so_far.passed) so_far.counted) in
    record {
      passed = passed;
      over = over.0;
      counted = more_counted plan.run instances passed new.stand counts'
          (subst (λ steps. IsCountOf instances steps counts')
          (sym (append-nil (plain_steps plan.run passed)) ∙ ap (λ step. plain_steps plan.run passed ++ cons_option step []) (sym none)) here);
      alone = alone ∙ so_far.alone;
    }
all_counted plan from instances old new counts counts' given so_far (inr there) stands alone more = record {
  passed = so_far.passed;
  over = over_there plan from so_far.passed old new so_far.at there;
  counted = subst (λ here. IsCountOf instances (plain_steps plan.run (so_far.passed ++ (here ∷ []))) counts') (sym there.stand)
      (more_counted plan.run instances so_far.passed old.stand counts' (more instances (plain_steps plan.run so_far.passed) so_far.counted));
  alone = alone ∙ so_far.alone;
}

-- The text of the summary of these stands.
abbrev Summarizes : Planned → List Stand → Ending → List ℕ → Type 0
Summarizes plan stands ending text = text ≡ summary_of plan.system (plain_steps plan.run stands) ending

-- The summary was written.
pub reports_summary : (plan : Planned) (from : Position) (instances : ℕ) (r : RunState) (counts : StepCounts) (held0 held : Option (List ℕ)) (ending : Ending)
    (end : RunEnd) (text : List ℕ) → plan.run ≡ run_of plan.system → from ≡ first_position plan.run → Given plan from
    → (all : AllCounted plan from instances r counts) → r.phase ≡ Ended ending → end ≡ record { outcome = ending; last = r.stand.at.point; own = r.own }
    → Summarizes plan (all.passed ++ (r.stand ∷ [])) ending text → Appends held0 held text → ReportsSteps Summary plan.system held0 held end
reports_summary plan from instances r counts held0 held ending end text composed first given all is told same put =
    let stands = all.passed ++ (r.stand ∷ []) in
    let goes = over_goes plan from all.passed r ending given all.over is in
    subst (ReportsSteps Summary plan.system held0 held) (sym told) (record {
      stands = stands;
      trace = subst (λ run. IsTrace run stands ending) composed (subst (λ at. GoesOnFrom plan.run at stands ending) first goes);
      last = sym (last_is all.passed r.stand);
      own = own_is plan from all.passed r all.over all.alone ∙ ap (λ run. cells_of run stands) composed;
      out = subst (λ run. Appends held0 held (summary_of plan.system (plain_steps run stands) ending)) composed (subst (Appends held0 held) same put);
    })

-- A prefix of it was written.
pub front_summary : (plan : Planned) (from : Position) (instances : ℕ) (r : RunState) (counts : StepCounts) (held0 held : Option (List ℕ)) (ending : Ending)
    (text : List ℕ) → plan.run ≡ run_of plan.system → from ≡ first_position plan.run → (all : AllCounted plan from instances r counts)
    → r.phase ≡ Ended ending → Summarizes plan (all.passed ++ (r.stand ∷ [])) ending text → AppendsPrefix held0 held text
    → AppendsReportPrefix Summary plan.system held0 held
front_summary plan from instances r counts held0 held ending text composed first all is same front = record {
  begins = λ stands other trace.
      let goes : GoesOnFrom plan.run from stands other =
      subst (λ at. GoesOnFrom plan.run at stands other) (sym first) (subst (λ run. IsTrace run stands other) (sym composed) trace) in
      let whole = walked_end plan.run from all.passed r.stand stands other all.over.ending all.over.walked all.over.ended goes in
      let ends_so : other ≡ ending = whole.1 ∙ same_end (sym all.over.phase ∙ is) in
      subst (AppendsPrefix held0 held)
      (same
      ∙ ap (λ stands. summary_of plan.system (plain_steps plan.run stands) ending) (sym whole.0)
      ∙ ap (λ run. summary_of plan.system (plain_steps run stands) ending) composed
      ∙ ap (summary_of plan.system (plain_steps (run_of plan.system) stands)) (sym ends_so)) front;
}

-- ---- Where nothing was written

pub front_none : (report : StepReport) (system : System) (held : Option (List ℕ)) → AppendsReportPrefix report system held held
front_none report system held = record { begins = λ stands ending trace. AppendsPrefix-nil held _ }
