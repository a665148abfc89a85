-- The answers of `save` and `resume`, and the rules by which they refuse a text.
--
--   rule 31   the trace has no position with the number that is asked for
--   rule 32   the text saves no position
--   rule 33   the saved position doesn't fit the system
use Rattle.std.specs.Prelude.{◌≡◌, ◌⊎◌, ℕ, ◌+◌, ◌<◌, ◌≤◌, List, drop, length, map}
use Rattle.std.specs.List.{AllZip, flat_map}
use Rattle.event_csv.specs.EventText.{event_line}
use Rattle.event_runs.specs.EventRests.{IsEventPositionOf, IsEventRest}
use Rattle.event_runs.specs.EventRuns.{event_run_of}
use Rattle.event_runs.specs.EventTrace.{EventRow, EventRun}
use Rattle.command_line.specs.Commands.{saved_limit}
use Rattle.cosim_answers.specs.Accepted.{OnAccepted, RefusesAlso, status_of, traced_notes}
use Rattle.cosim_answers.specs.Limits.{IsLongerThan}
use Rattle.cosim_call.specs.Answers.{Answer, piece_answer}
use Rattle.save_point.specs.SavedTexts.{BreaksAtLine, IsSaved, saved_text}
use Rattle.save_point.specs.declared.reading.Saved.{Saved}
use Rattle.super_time.specs.declared.point.Point.{Point}
use Rattle.text_accept.specs.Accepting.{IsAcceptedAs, IsRefusedAt}
use Rattle.unit_tree.specs.Parts.{joined}
use Rattle.unit_tree.specs.Successor.{Position}
use Rattle.unit_tree.specs.Trace.{AreWordsOf}
use Rattle.unit_tree.specs.declared.ending.Ending.{Ending}
use Rattle.unit_tree.specs.declared.system.System.{System}

-- ---- `save`

-- The answer is the saved text of the position with this number in the system's trace.
pub record TellsPosition (row : ℕ) (system : System) (answer : Answer) : Type 0 where
  pub at : Position
  pub is_position : IsEventPositionOf system row at
  pub is : answer ≡ piece_answer (saved_text system at)

abbrev pub AnswersSave : ℕ → List ℕ → Answer → Type 0
AnswersSave row = OnAccepted (TellsPosition row)

-- The trace of the system has no position with this number: rule 31.
abbrev pub LacksPosition : ℕ → System → Type 0
LacksPosition row system = (at : Position) → IsEventPositionOf system row at → ⊥

abbrev pub SaveRefuses : ℕ → List ℕ → ℕ → ℕ → Type 0
SaveRefuses row = RefusesAlso (LacksPosition row) 31

-- ---- `resume`

-- The text after the lines that save a position, and how many lines these are.
abbrev pub text_behind : List ℕ → Saved → List ℕ
text_behind text saved = drop saved.rest text

abbrev pub lines_before : Saved → ℕ
lines_before saved = 3 + length saved.names

-- A text that is short enough saves a position, and the text after it is accepted as a system.
pub record SavesIn (text : List ℕ) (saved : Saved) (system : System) : Type 0 where
  pub within : length text ≤ saved_limit
  pub saves : IsSaved text saved
  pub lines : List ℕ
  pub accepted : IsAcceptedAs (text_behind text saved) system lines

-- A position has one state for each instance, with a word of its type for each state of the instance's unit.
abbrev pub HasStateWords : EventRun → Position → Type 0
HasStateWords run at = AllZip (λ one state. AreWordsOf one.member.component.unit.states state) run.members at.states

-- The position is the saved one, and fits the system. The names are those of the instances in their order. Each instance has as many
-- words as its unit has states, and each word is one of the state's type. The position is within the stop and both budgets.
pub record FitsSystem (system : System) (saved : Saved) (at : Position) : Type 0 where
  pub number : at.number ≡ saved.row
  pub there : at.point ≡ saved.point
  pub states : joined at.states ≡ saved.states
  pub names_are : saved.names ≡ map (λ instance. instance.name) system.instances
  pub counts_are : saved.counts ≡ map length at.states
  pub has_words : HasStateWords (event_run_of system) at
  pub stop : at.point.t ≤ (event_run_of system).pace.stop
  pub zeros : at.point.n ≤ (event_run_of system).pace.zero_budget
  pub rows : at.number < (event_run_of system).pace.row_budget

-- The lines of rows, without a header, and how and where the run ended.
abbrev pub resumed_answer : System → List EventRow → Point → Ending → Answer
resumed_answer system rows last ending = record {
  out = flat_map (event_line system) rows;
  notes = traced_notes system ending last;
  status = status_of ending;
}

-- The answer is the rest of the position.
pub record TellsRest (system : System) (at : Position) (answer : Answer) : Type 0 where
  pub rows : List EventRow
  pub last : Point
  pub ending : Ending
  pub rest : IsEventRest system at rows last ending
  pub is : answer ≡ resumed_answer system rows last ending

-- The answer is the rest of the position that a text saves.
pub record AnswersResume (text : List ℕ) (answer : Answer) : Type 0 where
  pub saved : Saved
  pub system : System
  pub saves : SavesIn text saved system
  pub at : Position
  pub fits : FitsSystem system saved at
  pub tells : TellsRest system at answer

-- The text saves no position: rule 32, at the first line that is missing or has another form.
pub record SavesNone (text : List ℕ) (line rule : ℕ) : Type 0 where
  pub within : length text ≤ saved_limit
  pub breaks : BreaksAtLine text line
  pub by : rule ≡ 32

-- The text after the lines is refused. The line is counted in the whole text.
pub record RefusesBehind (text : List ℕ) (line rule : ℕ) : Type 0 where
  pub within : length text ≤ saved_limit
  pub saved : Saved
  pub saves : IsSaved text saved
  pub behind : ℕ
  pub refused : IsRefusedAt (text_behind text saved) behind rule
  pub at : line ≡ lines_before saved + behind

-- No position fits what is saved and the system: rule 33, at line 1.
pub record LacksMatch (text : List ℕ) (line rule : ℕ) : Type 0 where
  pub saved : Saved
  pub system : System
  pub saves : SavesIn text saved system
  pub none : (at : Position) → FitsSystem system saved at → ⊥
  pub at : line ≡ 1
  pub by : rule ≡ 33

abbrev pub ResumeRefuses : List ℕ → ℕ → ℕ → Type 0
ResumeRefuses text line rule =
    IsLongerThan saved_limit text line rule ⊎ SavesNone text line rule ⊎ RefusesBehind text line rule ⊎ LacksMatch text line rule
