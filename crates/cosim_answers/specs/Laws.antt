-- Laws of answers.
use Rattle.std.specs.Prelude.{◌≡◌, ◌↔◌, ℕ, true, ⊤, List, ◌++◌, length, ◌⊎◌, Option, Some}
use Rattle.std.specs.List.{flat_map}
use Rattle.cosim_call.specs.Answers.{Answer, IsEndOfWork}
use Rattle.cosim_call.specs.declared.status.Status.TheVariants as status
use Rattle.cosim_answers.specs.Answer.{Answers, AnswersRefusal, IsAnswer, ServedBy, report_lines}
use Rattle.command_line.specs.Commands.{command_of}
use Rattle.command_line.specs.declared.commands.Command.{Command}
use Rattle.command_line.specs.declared.commands.Command.TheVariants.{Resume, Run}
use Rattle.command_line.specs.declared.running.Running.{Running}
use Rattle.cosim_answers.specs.Accepted.{planned}
use Rattle.cosim_answers.specs.SavedAnswers.{AnswersSave, FitsSystem}
use Rattle.event_csv.specs.EventText.{event_header, event_line}
use Rattle.event_runs.specs.EventRuns.{event_run_of}
use Rattle.event_runs.specs.EventTrace.{EventRow, EventStand, event_rows_of}
use Rattle.save_point.specs.Saving.{FitsSaved}
use Rattle.save_point.specs.declared.reading.Saved.{Saved}
use Rattle.unit_tree.specs.Orders.{HasNoCycle}
use Rattle.unit_tree.specs.Printable.{IsRanged}
use Rattle.unit_tree.specs.Successor.{Position}
use Rattle.unit_tree.specs.WellFormed.{IsWellFormed}
use Rattle.unit_tree.specs.declared.system.System.{System}
use Rattle.trace_rows.specs.declared.report.Report.{Report}

-- For each list of words and each input there is an answer.
abbrev pub EveryCallIsAnswered : Type 0
EveryCallIsAnswered = (words : List (List ℕ)) (text : List ℕ) → (answer : Answer) × IsAnswer words text answer

-- All of them write the same bytes and have the same status.
abbrev pub AnswersAgree : Type 0
AnswersAgree =
    (words : List (List ℕ)) (text : List ℕ) (one other : Answer) → IsAnswer words text one → IsAnswer words text other
    → (one.out ≡ other.out) × (one.status ≡ other.status)

-- All is determined, except where workers are reported.
abbrev pub IsDetermined : Option Command → Type 0
IsDetermined (Some (Run asked)) = asked.report ≡ true → asked.workers ≡ 0
IsDetermined _ = ⊤

-- Then there is only one.
abbrev pub NoCallIsAnsweredTwice : Type 0
NoCallIsAnsweredTwice =
    (words : List (List ℕ)) (text : List ℕ) (one other : Answer) → IsDetermined (command_of words)
    → IsAnswer words text one → IsAnswer words text other → one ≡ other

-- A run writes the same and has the same status, whatever its options are.
abbrev pub RunsAgree : Type 0
RunsAgree =
    (asked also : Running) (text : List ℕ) (one other : Answer) → Answers (Run asked) text one → Answers (Run also) text other
    → (one.out ≡ other.out) × (one.status ≡ other.status)

-- These are the notes of a run with these options, without the line of a report. A refusal has no such line.
abbrev pub IsNoted : Running → List (List ℕ) → Answer → Type 0
IsNoted asked notes answer =
    ((answer.status ≡ status.Refused) × (answer.notes ≡ notes)) ⊎ ((report : Report) × (answer.notes ≡ notes ++ report_lines asked report))

-- A run has the same notes for its text, whatever its options are, except for the line of a report.
abbrev pub NotesAgree : Type 0
NotesAgree =
    (asked also : Running) (text : List ℕ) (one other : Answer) → Answers (Run asked) text one → Answers (Run also) text other
    → (notes : List (List ℕ)) × IsNoted asked notes one × IsNoted also notes other

-- An answer with Refused is the refusal of the text by the command of the words.
abbrev pub RefusalsAreOfRules : Type 0
RefusalsAreOfRules =
    (words : List (List ℕ)) (text : List ℕ) (answer : Answer) → IsAnswer words text answer → answer.status ≡ status.Refused
    → (command : Command) × (Some command ≡ command_of words) × AnswersRefusal command text answer

-- An answer with a status by which a command's work ends is one for a text that the command serves.
abbrev pub EndsAreServed : Type 0
EndsAreServed =
    (words : List (List ℕ)) (text : List ℕ) (answer : Answer) → IsAnswer words text answer → IsEndOfWork answer.status
    → (command : Command) × (Some command ≡ command_of words) × ServedBy command text answer

-- ---- Saved runs

-- What `run` prints is the header, the lines of the rows before the saved position, and then exactly what `resume` prints. These are
-- the rows of the earlier stands of the system's trace, and as many as the number of the position. The status is the same, and so are
-- the notes, except for the line of a report.
pub record EndsRun (row : ℕ) (asked : Running) (system : System) (earlier : List EventStand) (resumed run : Answer) : Type 0 where
  pub before : List EventRow
  pub before_are : before ≡ event_rows_of (event_run_of system) earlier
  pub as_many : length before ≡ row
  pub out : run.out ≡ event_header system ++ (flat_map (event_line system) before ++ resumed.out)
  pub notes : IsNoted asked resumed.notes run
  pub status : run.status ≡ resumed.status

-- Where `save` serves a text, `resume` serves what it prints, and prints the end of the text's run.
abbrev pub SavedRunsGoOn : Type 0
SavedRunsGoOn =
    (row : ℕ) (asked : Running) (text : List ℕ) (saved resumed run : Answer) (of : AnswersSave row text saved)
    → Answers Resume saved.out resumed → Answers (Run asked) text run → EndsRun row asked of.system of.is.is_position.before resumed run

-- A saved position fits a system as it is written exactly where it fits the run of its plain form.
abbrev pub SavedPositionsAreRead : Type 0
SavedPositionsAreRead =
    (system : System) → IsRanged system → IsWellFormed system → HasNoCycle system
    → (saved : Saved) (at : Position) → FitsSystem system saved at ↔ FitsSaved (planned system) saved at
