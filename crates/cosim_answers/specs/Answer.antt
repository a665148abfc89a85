-- Answers: the output, the notes and the status of the program, for the words of a command line and the bytes of its input.
use Rattle.std.specs.Prelude.{◌≡◌, ℕ, ℤ, ◌+◌, ◌<◌, ◌≤◌, if◌then◌else◌, List, [], ◌∷◌, ◌++◌, length, Option, Some, None, codes, ◌⊎◌}
use Rattle.serial_run.specs.Alone.{IsAlone}
use Rattle.spec_core.specs.Replays.{IsReplayed}
use Rattle.spec_core.specs.declared.counts.Counts.{Counts}
use Rattle.super_time.specs.declared.point.Point.{Point}
use Rattle.text_accept.specs.Accepting.{IsRefusedAt}
use Rattle.trace_csv.specs.Columns.{columns_of}
use Rattle.trace_rows.specs.Reports.{AreTicketsTold}
use Rattle.trace_rows.specs.Sums.{sum_shown}
use Rattle.trace_rows.specs.declared.report.Report.{Report}
use Rattle.model_rules.specs.Limits.{text_limit}
use Rattle.unit_tree.specs.Trace.{HasCells, IsTraceOf, Row}
use Rattle.unit_tree.specs.declared.ending.Ending.{Ending}
use Rattle.unit_tree.specs.declared.system.System.{System}
use Rattle.unit_upgrade.specs.Upgrades.{upgraded}
use Rattle.cosim_call.specs.Answers.{Answer, piece_answer, refused_answer, usage_answer}
use Rattle.cosim_call.specs.Notes.{line_end}
use Rattle.command_line.specs.Commands.{command_of}
use Rattle.cosim_answers.specs.Accepted.{OnAccepted, RefusesAlso, TellsTrace, planned, printed_answer, printed_text}
use Rattle.cosim_answers.specs.Figures.{figures_text}
use Rattle.cosim_answers.specs.FlatAnswers.{AnswersFlatten, FlattenRefuses}
use Rattle.command_line.specs.Generations.{Asked, system_asked}
use Rattle.cosim_answers.specs.NodesAnswers.{AnswersNodes, NodesRefuses}
use Rattle.cosim_answers.specs.Notes.{counts_text, report_text}
use Rattle.cosim_answers.specs.SavedAnswers.{AnswersResume, AnswersSave, ResumeRefuses, SaveRefuses}
use Rattle.cosim_answers.specs.TableAnswers.{AnswersStimulus, AnswersVerify, StimulusRefuses, VerifyRefuses}
use Rattle.command_line.specs.declared.commands.Command.{Command}
use Rattle.command_line.specs.declared.commands.Command.TheVariants.{Run, Check, Print, Upgrade, Replay, Gen, Bench, Save, Resume, Verify, Stimulus, Flatten}
use Rattle.command_line.specs.declared.commands.Command.TheVariants.{Nodes}
use Rattle.command_line.specs.declared.replaying.Replaying.{Replaying}
use Rattle.command_line.specs.declared.running.Running.{Running}

-- ---- The answers of each command

-- A report that a run of a system with so many workers may have, whose trace has so many rows: it has these rows, and how its cells
-- were filled, from answers or by own steps. Each ticket was posted, given back or lapsed. Without workers nothing came from others.
pub record CanReport (workers : ℕ) (system : System) (rows : ℕ) (report : Report) : Type 0 where
  pub rows_counted : report.rows ≡ rows
  pub cells : HasCells system (report.found + report.own)
  pub tickets : AreTicketsTold report
  pub alone : workers ≡ 0 → IsAlone report

-- The line of a report, where one is asked for.
abbrev pub report_lines : Running → Report → List (List ℕ)
report_lines asked report = if asked.report then report_text report ∷ [] else []

-- The answer for a trace, with the line of a report after its notes where one is asked for.
abbrev pub with_report : Running → Report → Answer → Answer
with_report asked report answer = record answer { notes = answer.notes ++ report_lines asked report }

-- The answer is that of the trace of the system, with a report that a run of it may have.
pub record TellsReported (asked : Running) (system : System) (answer : Answer) : Type 0 where
  pub trace : Answer
  pub tells : TellsTrace system trace
  pub report : Report
  pub can : CanReport asked.workers system (length tells.rows) report
  pub is : answer ≡ with_report asked report trace

abbrev pub AnswersRun : Running → List ℕ → Answer → Type 0
AnswersRun asked = OnAccepted (TellsReported asked)

abbrev pub accepted_text : List ℕ
accepted_text = codes "accepted" ++ line_end

abbrev pub accepted_answer : Answer
accepted_answer = piece_answer accepted_text

-- The answer is that the text is accepted.
abbrev pub AnswersCheck : List ℕ → Answer → Type 0
AnswersCheck = OnAccepted (λ system answer. answer ≡ accepted_answer)

-- The answer is the canonical text of the system.
abbrev pub AnswersPrint : List ℕ → Answer → Type 0
AnswersPrint = OnAccepted (λ system answer. answer ≡ printed_answer system)

-- The answer is the canonical text of the system in version 2, which is not longer than a text may be.
pub record TellsUpgrade (system : System) (answer : Answer) : Type 0 where
  pub fits : length (printed_text (upgraded system)) ≤ text_limit
  pub is : answer ≡ printed_answer (upgraded system)

abbrev pub AnswersUpgrade : List ℕ → Answer → Type 0
AnswersUpgrade = OnAccepted TellsUpgrade

-- It is longer than a text may be: rule 37.
abbrev pub IsTooLongInVersion2 : System → Type 0
IsTooLongInVersion2 system = text_limit < length (printed_text (upgraded system))

abbrev pub RefusesUpgrade : List ℕ → ℕ → ℕ → Type 0
RefusesUpgrade = RefusesAlso IsTooLongInVersion2 37

-- The answer of a run, with the line of a replay's counts after its notes.
abbrev pub with_counts : Counts → Answer → Answer
with_counts counts answer = record answer { notes = answer.notes ++ counts_text counts ∷ [] }

-- The answer is that of a run, with the counts of its replay.
pub record TellsReplay (asked : Replaying) (system : System) (answer : Answer) : Type 0 where
  pub run : Answer
  pub tells : TellsTrace system run
  pub counts : Counts
  pub replayed : IsReplayed (planned system) asked.seed asked.workers counts
  pub is : answer ≡ with_counts counts run

abbrev pub AnswersReplay : Replaying → List ℕ → Answer → Type 0
AnswersReplay asked = OnAccepted (TellsReplay asked)

-- The answer is the canonical text of the system that is asked for.
abbrev pub AnswersGen : Asked → Answer → Type 0
AnswersGen asked answer = answer ≡ printed_answer (system_asked asked)

-- The sum of all words that the trace of a system shows.
unfoldable pub traced_sum : System → List Row → ℤ
traced_sum system rows = sum_shown (columns_of system) rows

-- The figures of a trace of the generated system.
abbrev pub figures_answer : Asked → List Row → Point → Answer
figures_answer asked rows last = piece_answer (figures_text asked.instances (length rows) last (traced_sum (system_asked asked) rows))

-- The answer is the figures of the trace of the generated system, however the trace ends.
pub record AnswersBench (asked : Asked) (answer : Answer) : Type 0 where
  pub rows : List Row
  pub last : Point
  pub ending : Ending
  pub trace : IsTraceOf (system_asked asked) rows last ending
  pub is : answer ≡ figures_answer asked rows last

-- The answer of a command for a text that it serves.
abbrev pub ServedBy : Command → List ℕ → Answer → Type 0
ServedBy (Run asked) text answer = AnswersRun asked text answer
ServedBy Check text answer = AnswersCheck text answer
ServedBy Print text answer = AnswersPrint text answer
ServedBy Upgrade text answer = AnswersUpgrade text answer
ServedBy (Replay asked) text answer = AnswersReplay asked text answer
ServedBy (Gen asked) text answer = AnswersGen asked answer
ServedBy (Bench asked) text answer = AnswersBench asked answer
ServedBy (Save asked) text answer = AnswersSave asked.row text answer
ServedBy Resume text answer = AnswersResume text answer
ServedBy Verify text answer = AnswersVerify text answer
ServedBy Stimulus text answer = AnswersStimulus text answer
ServedBy Flatten text answer = AnswersFlatten text answer
ServedBy (Nodes asked) text answer = AnswersNodes asked text answer

-- The line and the rule by which a command refuses a text. A command that reads nothing refuses nothing.
abbrev pub RefusedBy : Command → List ℕ → ℕ → ℕ → Type 0
RefusedBy (Run asked) text line rule = IsRefusedAt text line rule
RefusedBy Check text line rule = IsRefusedAt text line rule
RefusedBy Print text line rule = IsRefusedAt text line rule
RefusedBy Upgrade text line rule = RefusesUpgrade text line rule
RefusedBy (Replay asked) text line rule = IsRefusedAt text line rule
RefusedBy (Gen asked) text line rule = ⊥
RefusedBy (Bench asked) text line rule = ⊥
RefusedBy (Save asked) text line rule = SaveRefuses asked.row text line rule
RefusedBy Resume text line rule = ResumeRefuses text line rule
RefusedBy Verify text line rule = VerifyRefuses text line rule
RefusedBy Stimulus text line rule = StimulusRefuses text line rule
RefusedBy Flatten text line rule = FlattenRefuses text line rule
RefusedBy (Nodes asked) text line rule = NodesRefuses text line rule

-- The answer for a text that is refused has its line and rule.
pub record AnswersRefusal (command : Command) (text : List ℕ) (answer : Answer) : Type 0 where
  pub line : ℕ
  pub rule : ℕ
  pub refused : RefusedBy command text line rule
  pub is : answer ≡ refused_answer line rule

-- The answers of a command for a text.
abbrev pub Answers : Command → List ℕ → Answer → Type 0
Answers command text answer = AnswersRefusal command text answer ⊎ ServedBy command text answer

-- ---- The answer of a call

-- The answers of a command for a text. Words without a form have one answer, for any input.
abbrev pub AnswersOf : Option Command → List ℕ → Answer → Type 0
AnswersOf (Some command) text answer = Answers command text answer
AnswersOf None text answer = answer ≡ usage_answer

-- The answers for words and input.
abbrev pub IsAnswer : List (List ℕ) → List ℕ → Answer → Type 0
IsAnswer words = AnswersOf (command_of words)
