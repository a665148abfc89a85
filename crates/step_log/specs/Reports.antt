-- The agreed steps of a trace, the two texts that report them, and what a run writes.
use Rattle.std.specs.Prelude.{◌≡◌, ℕ, List, ◌++◌, Option}
use Rattle.std.specs.Io.KnownBytes.{Appends}
use Rattle.std.specs.List.{filter_map, flat_map}
use Rattle.cosim_io.specs.Pieces.{AppendsPrefix}
use Rattle.event_runs.specs.EventTrace.{EventRun, EventStand, event_offers}
use Rattle.event_runs.specs.Readings.{offers_of, pace_of}
use Rattle.step_counts.specs.Summaries.{summary_of}
use Rattle.step_counts.specs.declared.step.AgreedStep.{AgreedStep}
use Rattle.step_log.specs.Lines.{log_header, step_line}
use Rattle.step_log.specs.Steps.{step_at}
use Rattle.step_log.specs.declared.report.RunEnd.{RunEnd}
use Rattle.step_log.specs.declared.report.StepReport.{StepReport}
use Rattle.step_log.specs.declared.report.StepReport.TheVariants.{Log, Summary}
use Rattle.unit_tree.specs.Compositions.{Composition, run_of}
use Rattle.unit_tree.specs.Trace.{IsTrace, Stand, cells_of, last_point}
use Rattle.unit_tree.specs.declared.ending.Ending.{Ending}
use Rattle.unit_tree.specs.declared.system.System.{System}

-- ---- The agreed steps of stands

-- The agreed step of a stand of a system as it is written, if there is one.
abbrev pub event_step : EventRun → EventStand → Option AgreedStep
event_step run stand = step_at run.pace stand.at (event_offers run.members stand.at stand.signals)

abbrev pub event_steps : EventRun → List EventStand → List AgreedStep
event_steps run stands = filter_map (event_step run) stands

-- The same of its plain form, which is what runs.
abbrev pub plain_step : Composition → Stand → Option AgreedStep
plain_step run stand = step_at (pace_of run) stand.at (offers_of run stand.at stand.ports)

unfoldable pub plain_steps : Composition → List Stand → List AgreedStep
plain_steps run stands = filter_map (plain_step run) stands

-- ---- The texts

-- The log of steps: the header, and a line for each.
abbrev pub log_of : System → List AgreedStep → List ℕ
log_of system steps = log_header ++ flat_map (step_line system) steps

-- What is reported of the steps of a run that ended so.
abbrev pub report_text : StepReport → System → List AgreedStep → Ending → List ℕ
report_text Log system steps ending = log_of system steps
report_text Summary system steps ending = summary_of system steps ending

-- ---- What a run writes

-- The report of the steps of the system's trace was written, and `end` says how and where the trace ended. As many steps of
-- instances were made as the trace requires: one for each instance that isn't held, and one more where a step is made again.
pub record ReportsSteps (report : StepReport) (system : System) (old new : Option (List ℕ)) (end : RunEnd) : Type 0 where
  pub stands : List Stand
  pub trace : IsTrace (run_of system) stands end.outcome
  pub last : end.last ≡ last_point stands
  pub own : end.own ≡ cells_of (run_of system) stands
  pub out : Appends old new (report_text report system (plain_steps (run_of system) stands) end.outcome)

-- The written bytes are a prefix of the report, for each trace that the system has.
pub record AppendsReportPrefix (report : StepReport) (system : System) (old new : Option (List ℕ)) : Type 0 where
  pub begins : (stands : List Stand) (ending : Ending) → IsTrace (run_of system) stands ending
      → AppendsPrefix old new (report_text report system (plain_steps (run_of system) stands) ending)
