-- Laws of pipelines: the answers of a command to what another one printed.
use Rattle.std.specs.Prelude.{◌≡◌, ℕ, ◌≤◌, List, ◌∷◌, ◌++◌, length, map}
use Rattle.command_line.specs.Commands.{verify_limit}
use Rattle.command_line.specs.Generations.{Asked, CanGive, system_asked}
use Rattle.command_line.specs.declared.commands.Command.TheVariants.{Run, Verify}
use Rattle.command_line.specs.declared.running.Running.{Running}
use Rattle.command_line.specs.declared.splitting.Splitting.{Splitting}
use Rattle.cosim_answers.specs.Accepted.{printed_text, status_of, traced_text}
use Rattle.cosim_answers.specs.Answer.{Answers, AnswersBench, AnswersGen, AnswersPrint, AnswersRun, AnswersUpgrade, figures_answer}
use Rattle.cosim_answers.specs.FlatAnswers.{AnswersFlatten}
use Rattle.cosim_answers.specs.Laws.{IsNoted}
use Rattle.cosim_answers.specs.NodesAnswers.{AnswersNodes}
use Rattle.cosim_answers.specs.TableAnswers.{AnswersStimulus, verdict_text}
use Rattle.cosim_call.specs.Answers.{Answer, piece_answer}
use Rattle.cosim_call.specs.declared.status.Status.TheVariants as status
use Rattle.event_runs.specs.EventTrace.{EventRow}
use Rattle.nest_names.specs.Flattening.{flat_of}
use Rattle.nest_runs.specs.NestTrace.{IsNestTraceOf}
use Rattle.nest_text.specs.Nests.{IsNestOf}
use Rattle.nest_text.specs.declared.nest.Nest.{Nest}
use Rattle.stimulus_tables.specs.Records.{records_of}
use Rattle.stimulus_tables.specs.TableSystems.{row_at, table_system}
use Rattle.stimulus_tables.specs.Tables.{IsTable}
use Rattle.stimulus_tables.specs.declared.moment.Moment.{Moment}
use Rattle.super_time.specs.declared.point.Point.{Point}
use Rattle.text_accept.specs.Accepting.{IsAcceptedAs}
use Rattle.trace_rows.specs.Lines.{header_of, lines_of}
use Rattle.trace_verify.specs.Parting.{IsParted}
use Rattle.trace_verify.specs.declared.verdict.Verdict.TheVariants.{Yes}
use Rattle.unit_tree.specs.Trace.{Row}
use Rattle.unit_tree.specs.declared.ending.Ending.{Ending}
use Rattle.unit_tree.specs.declared.system.System.{System}

-- ---- Texts that run as another one

-- Two runs print the same and have the same status and the same notes, each with the line of its own report, where one is asked for.
pub record RunAlike (asked also : Running) (one other : Answer) : Type 0 where
  pub out : one.out ≡ other.out
  pub status : one.status ≡ other.status
  pub notes : (notes : List (List ℕ)) × IsNoted asked notes one × IsNoted also notes other

-- `print | run`: what `print` prints of a text runs as the text.
abbrev pub PrintsRunAlike : Type 0
PrintsRunAlike =
    (asked also : Running) (text : List ℕ) (printed run other : Answer) → AnswersPrint text printed → Answers (Run asked) text run
    → Answers (Run also) printed.out other → RunAlike asked also run other

-- `upgrade | run`: what `upgrade` prints of a text runs as the text.
abbrev pub UpgradesRunAlike : Type 0
UpgradesRunAlike =
    (asked also : Running) (text : List ℕ) (made run other : Answer) → AnswersUpgrade text made → Answers (Run asked) text run
    → Answers (Run also) made.out other → RunAlike asked also run other

-- ---- `run | verify`

-- `verify` answers `yes` to an input that has a text and, after the line `trace`, what `run` prints of the text.
abbrev pub RunsAreVerified : Type 0
RunsAreVerified =
    (asked : Running) (text input : List ℕ) (run verdict : Answer) → AnswersRun asked text run → IsParted input text run.out
    → length input ≤ verify_limit → Answers Verify input verdict → verdict ≡ piece_answer (verdict_text Yes)

-- ---- `flatten | run`

-- A run prints the trace of the nest that a text has, with the columns of its flat system.
pub record RunsNest (text : List ℕ) (run : Answer) : Type 0 where
  pub nest : Nest
  pub says : IsNestOf text nest
  pub system : System
  pub lines : List ℕ
  pub flat : IsAcceptedAs (printed_text (flat_of nest)) system lines
  pub rows : List EventRow
  pub last : Point
  pub ending : Ending
  pub trace : IsNestTraceOf nest rows last ending
  pub out : run.out ≡ traced_text system rows
  pub status : run.status ≡ status_of ending

abbrev pub FlatRunsAreNested : Type 0
FlatRunsAreNested =
    (asked : Running) (text : List ℕ) (flat run : Answer) → AnswersFlatten text flat → Answers (Run asked) flat.out run → RunsNest text run

-- ---- `stimulus | run`

-- A run prints a row at each time of a table, with the words that the table has from then on, and is completed.
pub record PrintsTable (table : List ℕ) (run : Answer) : Type 0 where
  pub names : List (List ℕ)
  pub first : Moment
  pub later : List Moment
  pub is_table : IsTable (records_of table) names first later
  pub out : run.out
      ≡ header_of (table_system names first later) ++ lines_of (table_system names first later) (map (row_at first later) (first ∷ later))
  pub status : run.status ≡ status.Done

abbrev pub TablesArePrinted : Type 0
TablesArePrinted =
    (asked : Running) (table : List ℕ) (made run : Answer) → AnswersStimulus table made → Answers (Run asked) made.out run → PrintsTable table run

-- ---- `gen | run` and `bench`

-- The figures are those of the rows that a run prints.
pub record HasFigures (given : Asked) (figures run : Answer) : Type 0 where
  pub rows : List Row
  pub last : Point
  pub out : run.out ≡ header_of (system_asked given) ++ lines_of (system_asked given) rows
  pub figures_are : figures ≡ figures_answer given rows last

-- For a seed and two numbers, the figures that `bench` prints are those of the run of what `gen` prints.
abbrev pub GeneratedRunsHaveFigures : Type 0
GeneratedRunsHaveFigures =
    (given : Asked) (asked : Running) (made figures run : Answer) → CanGive given → AnswersGen given made → AnswersBench given figures
    → Answers (Run asked) made.out run → HasFigures given figures run

-- ---- `nodes` and `run`

-- What `nodes` prints of a text is a prefix of what `run` prints.
abbrev pub NodesPrintAPrefix : Type 0
NodesPrintAPrefix =
    (asked : Running) (split : Splitting) (text : List ℕ) (nodes run : Answer) → AnswersNodes split text nodes → AnswersRun asked text run
    → (rest : List ℕ) × (run.out ≡ nodes.out ++ rest)
