-- Answers for texts that keep all rules, by the system of the text.
use Rattle.std.specs.Prelude.{◌≡◌, ◌⊎◌, ℕ, List}
use Rattle.event_csv.specs.EventText.{event_text}
use Rattle.event_runs.specs.EventRuns.{IsEventTraceOf}
use Rattle.event_runs.specs.EventTrace.{EventRow}
use Rattle.super_time.specs.declared.point.Point.{Point}
use Rattle.text_accept.specs.Accepting.{IsAcceptedAs, IsRefusedAt}
use Rattle.trace_plan.specs.Plans.{Planned}
use Rattle.unit_tree.specs.Canonical.{canonical_text}
use Rattle.unit_tree.specs.Compositions.{run_of}
use Rattle.unit_tree.specs.WellFormed.{resolution_of}
use Rattle.unit_tree.specs.declared.ending.Ending.{Ending}
use Rattle.unit_tree.specs.declared.ending.Ending.TheVariants.{Completed, RowBudget, ZeroBudget, UnitFault, StepRefused}
use Rattle.unit_tree.specs.declared.system.System.{System}
use Rattle.cosim_call.specs.Answers.{Answer, piece_answer}
use Rattle.cosim_call.specs.declared.status.Status.{Status}
use Rattle.cosim_call.specs.declared.status.Status.TheVariants as status
use Rattle.cosim_answers.specs.Notes.{ending_notes}

-- The answer for a text that keeps all rules is an answer for its system.
pub record OnAccepted (IsAnswer : System → Answer → Type 0) (text : List ℕ) (answer : Answer) : Type 0 where
  pub system : System
  pub lines : List ℕ
  pub accepted : IsAcceptedAs text system lines
  pub is : IsAnswer system answer

-- A text keeps all rules of the language, and its system breaks a rule of the command. This is reported at line 1.
pub record BreaksOneMore (Breaks : System → Type 0) (number : ℕ) (text : List ℕ) (line rule : ℕ) : Type 0 where
  pub system : System
  pub lines : List ℕ
  pub accepted : IsAcceptedAs text system lines
  pub breaks : Breaks system
  pub at : line ≡ 1
  pub by : rule ≡ number

-- The lines and rules by which such a command refuses a text.
abbrev pub RefusesAlso : (System → Type 0) → ℕ → List ℕ → ℕ → ℕ → Type 0
RefusesAlso Breaks number text line rule = IsRefusedAt text line rule ⊎ BreaksOneMore Breaks number text line rule

-- ---- The plan and the canonical text of a system

-- A system with the run of its plain form.
abbrev pub planned : System → Planned
planned system = record { system = system; run = run_of system }

-- The printed text of a system: its canonical text.
unfoldable pub printed_text : System → List ℕ
printed_text system = canonical_text system

abbrev pub printed_answer : System → Answer
printed_answer system = piece_answer (printed_text system)

-- ---- How a run ends, and its trace

abbrev pub status_of : Ending → Status
status_of Completed = status.Done
status_of RowBudget = status.RowBudget
status_of ZeroBudget = status.ZeroBudget
status_of (UnitFault instance place fault) = status.UnitFault
status_of (StepRefused instance asked accepted) = status.StepRefused

-- The printed text of the rows of a trace: the text of the trace.
unfoldable pub traced_text : System → List EventRow → List ℕ
traced_text system rows = event_text system rows

-- The notes of its end, with the names of the system, and with times in seconds as in the trace.
unfoldable pub traced_notes : System → Ending → Point → List (List ℕ)
traced_notes system ending last = ending_notes system (resolution_of system) ending last

-- The text of a trace, and how and where it ended.
abbrev pub run_answer : System → List EventRow → Point → Ending → Answer
run_answer system rows last ending =
    record { out = traced_text system rows; notes = traced_notes system ending last; status = status_of ending }

-- The answer is that of the trace of the system.
pub record TellsTrace (system : System) (answer : Answer) : Type 0 where
  pub rows : List EventRow
  pub last : Point
  pub ending : Ending
  pub trace : IsEventTraceOf system rows last ending
  pub is : answer ≡ run_answer system rows last ending
