use Rattle.std.proofs.Common.{◌≡◌, refl, sym}
use Rattle.unit_tree.specs.declared.ending.Ending.TheVariants.{Completed}
use Rattle.event_runs.specs.EventRuns.{event_run_of}
use Rattle.event_runs.specs.EventTrace.{IsEventTrace, event_rows_of}
use Rattle.worked_facts.specs.WorkedTrace.{pulses}
use Rattle.worked_answers.specs.WorkedEventRuns.{all_rows, all_stands}
use Rattle.worked_answers.proofs.EventMeaning.{event_meaning}
use Rattle.worked_answers.proofs.answers.event_runs_are_worked.Goals as goal

-- The first position and its ports; and for each later one that it is reached, and its ports.
trace_is : IsEventTrace (event_run_of pulses) all_stands Completed
trace_is = (
  refl,
  simp event_meaning refl,
  (
    simp event_meaning refl,
    simp event_meaning refl,
    (
      simp event_meaning refl,
      simp event_meaning refl,
      (simp event_meaning refl, simp event_meaning refl, (simp event_meaning refl, simp event_meaning refl, simp event_meaning refl)),
    ),
  ),
)

rows_are : event_rows_of (event_run_of pulses) all_stands ≡ all_rows
rows_are = simp event_meaning refl

pub returns : goal.returns
returns c = record {
  trace = trace_is;
  rows = rows_are;
  outcome = record { stands = all_stands; trace = trace_is; rows_are = sym rows_are; last_is = refl };
}
