-- The answers of `verify` and `stimulus`, and the rules by which they refuse their input.
--
--   rule 35   there is no line between a text and the table after it
--   rule 36   the table doesn't have the form of a table of stimulus
use Rattle.std.specs.Prelude.{◌≡◌, ◌⊎◌, ℕ, List, ◌++◌, codes}
use Rattle.std.specs.Fmt.{decimal}
use Rattle.event_runs.specs.EventRuns.{IsEventTraceOf}
use Rattle.event_runs.specs.EventTrace.{EventRow}
use Rattle.super_time.specs.declared.point.Point.{Point}
use Rattle.text_accept.specs.Accepting.{IsRefusedAt}
use Rattle.trace_verify.specs.Parting.{IsParted, LacksTrace}
use Rattle.stimulus_tables.specs.Stimuli.{IsSystemOf}
use Rattle.trace_verify.specs.Verdicts.{verdict_of}
use Rattle.stimulus_tables.specs.Records.{records_of}
use Rattle.trace_verify.specs.declared.verdict.Verdict.{Verdict}
use Rattle.trace_verify.specs.declared.verdict.Verdict.TheVariants.{Yes, No}
use Rattle.stimulus_tables.specs.Tables.{LeavesForm}
use Rattle.unit_tree.specs.declared.ending.Ending.{Ending}
use Rattle.unit_tree.specs.declared.system.System.{System}
use Rattle.command_line.specs.Commands.{stimulus_limit, verify_limit}
use Rattle.cosim_call.specs.Answers.{Answer, piece_answer}
use Rattle.cosim_call.specs.Notes.{line_end}
use Rattle.cosim_answers.specs.Accepted.{OnAccepted, printed_answer, traced_text}
use Rattle.cosim_answers.specs.Limits.{AnswersWithin, RefusesWithin}

-- ---- `verify`

-- `yes`; or `no` with the number of the first record that differs, and the number of its first field that differs.
abbrev pub verdict_text : Verdict → List ℕ
verdict_text Yes = codes "yes" ++ line_end
verdict_text (No number column) = codes "no " ++ decimal number ++ codes " " ++ decimal column ++ line_end

-- The answer is the verdict on the records of a table, which should be those of the text of the system's trace. How the trace ends
-- doesn't matter.
pub record TellsVerdict (table : List ℕ) (system : System) (answer : Answer) : Type 0 where
  pub rows : List EventRow
  pub last : Point
  pub ending : Ending
  pub trace : IsEventTraceOf system rows last ending
  pub is : answer ≡ piece_answer (verdict_text (verdict_of (records_of (traced_text system rows)) (records_of table)))

-- The input has a line between a text and the table after it, and the text is accepted as a system.
pub record AnswersTable (input : List ℕ) (answer : Answer) : Type 0 where
  pub model : List ℕ
  pub table : List ℕ
  pub parted : IsParted input model table
  pub told : OnAccepted (TellsVerdict table) model answer

-- The input has no such line: rule 35, at line 1.
pub record LacksTable (input : List ℕ) (line rule : ℕ) : Type 0 where
  pub none : LacksTrace input
  pub at : line ≡ 1
  pub by : rule ≡ 35

-- The text before the table is refused. Its lines are the first ones of the input.
pub record RefusesModel (input : List ℕ) (line rule : ℕ) : Type 0 where
  pub model : List ℕ
  pub table : List ℕ
  pub parted : IsParted input model table
  pub refused : IsRefusedAt model line rule

abbrev pub RefusesTable : List ℕ → ℕ → ℕ → Type 0
RefusesTable input line rule = LacksTable input line rule ⊎ RefusesModel input line rule

abbrev pub AnswersVerify : List ℕ → Answer → Type 0
AnswersVerify = AnswersWithin verify_limit AnswersTable

abbrev pub VerifyRefuses : List ℕ → ℕ → ℕ → Type 0
VerifyRefuses = RefusesWithin verify_limit RefusesTable

-- ---- `stimulus`

-- The answer is the canonical text of the system that plays the table.
pub record PlaysTable (input : List ℕ) (answer : Answer) : Type 0 where
  pub system : System
  pub plays : IsSystemOf (records_of input) system
  pub is : answer ≡ printed_answer system

-- The table doesn't have the form: rule 36. The number of the record is reported instead of a line.
pub record LeavesTable (input : List ℕ) (line rule : ℕ) : Type 0 where
  pub leaves : LeavesForm (records_of input) line
  pub by : rule ≡ 36

abbrev pub AnswersStimulus : List ℕ → Answer → Type 0
AnswersStimulus = AnswersWithin stimulus_limit PlaysTable

abbrev pub StimulusRefuses : List ℕ → ℕ → ℕ → Type 0
StimulusRefuses = RefusesWithin stimulus_limit LeavesTable
