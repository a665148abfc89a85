-- The answers of `cosim-steps`, by the words of a command line and the bytes of the input.
use Rattle.std.specs.Prelude.{◌≡◌, ◌⊎◌, ℕ, List, [], ◌∷◌, codes, if◌then◌else◌, Option, Some, None}
use Rattle.std.specs.Option.{option_map}
use Rattle.std.specs.Str.{bytes_eq}
use Rattle.cosim_answers.specs.Accepted.{OnAccepted, status_of, traced_notes}
use Rattle.cosim_call.specs.Answers.{Answer, refused_answer, usage_answer}
use Rattle.cosim_call.specs.declared.status.Status.{Status}
use Rattle.cosim_call.specs.declared.status.Status.TheVariants as status
use Rattle.event_runs.specs.EventRuns.{event_run_of, last_event_point}
use Rattle.event_runs.specs.EventTrace.{EventStand, IsEventTrace}
use Rattle.model_rules.specs.Limits.{text_limit}
use Rattle.step_log.specs.Reports.{event_steps, report_text}
use Rattle.step_log.specs.declared.report.StepReport.{StepReport}
use Rattle.step_log.specs.declared.report.StepReport.TheVariants as report
use Rattle.text_accept.specs.Accepting.{IsRefusedAt}
use Rattle.unit_tree.specs.declared.ending.Ending.{Ending}
use Rattle.unit_tree.specs.declared.system.System.{System}

-- ---- The answer for a text

-- The report of the agreed steps of stands.
unfoldable pub reported_text : StepReport → System → List EventStand → Ending → List ℕ
reported_text report system stands ending = report_text report system (event_steps (event_run_of system) stands) ending

-- Their answer: the report, and the notes and the status of how and where their trace ends, which are those of a run.
abbrev pub report_answer : StepReport → System → List EventStand → Ending → Answer
report_answer report system stands ending = record {
  out = reported_text report system stands ending;
  notes = traced_notes system ending (last_event_point stands);
  status = status_of ending;
}

-- The answer is that of the trace of the system.
pub record TellsSteps (report : StepReport) (system : System) (answer : Answer) : Type 0 where
  pub stands : List EventStand
  pub ending : Ending
  pub trace : IsEventTrace (event_run_of system) stands ending
  pub is : answer ≡ report_answer report system stands ending

-- The steps of a text that is accepted are reported.
abbrev pub AnswersSteps : StepReport → List ℕ → Answer → Type 0
AnswersSteps report = OnAccepted (TellsSteps report)

-- Any other text is refused, by its line and rule.
pub record RefusesSteps (text : List ℕ) (answer : Answer) : Type 0 where
  pub line : ℕ
  pub rule : ℕ
  pub refused : IsRefusedAt text line rule
  pub is : answer ≡ refused_answer line rule

abbrev pub IsReportAnswer : StepReport → List ℕ → Answer → Type 0
IsReportAnswer report text answer = RefusesSteps text answer ⊎ AnswersSteps report text answer

-- ---- The answer for words and a text

-- What words ask for: without words the log, and with `--summary` the summary. Other words ask for nothing.
abbrev pub report_asked : List (List ℕ) → Option StepReport
report_asked [] = Some report.Log
report_asked (word ∷ []) = if bytes_eq word (codes "--summary") then Some report.Summary else None
report_asked (word ∷ other ∷ words) = None

-- The answer is what is asked for. Where nothing is, it is the usage, for any input.
abbrev pub IsAnswerFor : Option StepReport → List ℕ → Answer → Type 0
IsAnswerFor (Some report) text answer = IsReportAnswer report text answer
IsAnswerFor None text answer = answer ≡ usage_answer

abbrev pub IsStepsAnswer : List (List ℕ) → List ℕ → Answer → Type 0
IsStepsAnswer words = IsAnswerFor (report_asked words)

-- How many bytes it reads, where it reads.
abbrev pub input_for : Option StepReport → Option ℕ
input_for = option_map (λ report. text_limit)

abbrev pub steps_input : List (List ℕ) → Option ℕ
steps_input words = input_for (report_asked words)

-- The status of the usage is that of calls whose words ask for nothing, and of no others. Its note may fail to be written.
pub record UsageFor (asked : Option StepReport) (given : Status) : Type 0 where
  pub only : given ≡ status.Usage → asked ≡ None
  pub due : asked ≡ None → (given ≡ status.Usage) ⊎ (given ≡ status.WriteFault)

abbrev pub StepsUsage : List (List ℕ) → Status → Type 0
StepsUsage words = UsageFor (report_asked words)
