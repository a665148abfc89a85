-- Laws of saved texts.
use Rattle.std.specs.Prelude.{◌≡◌, ◌⊎◌, ℕ, ◌≤◌, List, length, map}
use Rattle.std.specs.List.{AllByRecursion, flat_map}
use Rattle.run_laws.specs.RunLaws.{HasOneTrace}
use Rattle.save_point.specs.Saving.{FitsNone, FitsSaved, HasNoPosition}
use Rattle.save_point.specs.SavedTexts.{AreNumbers, BreaksAtLine, IsSaved, IsState, ended, named_states, saved_lines, saved_text}
use Rattle.save_point.specs.declared.reading.Saved.{Saved}
use Rattle.trace_plan.specs.Plans.{Planned}
use Rattle.unit_tree.specs.Compositions.{Composition, run_of}
use Rattle.unit_tree.specs.Printable.{IsRanged}
use Rattle.unit_tree.specs.Successor.{Position}
use Rattle.unit_tree.specs.Trace.{IsPositionOf, rows_of}
use Rattle.unit_tree.specs.WellFormed.{IsWellFormed}
use Rattle.unit_tree.specs.declared.system.System.{System}

-- A text saves one position, or breaks at one line, and not both.
pub record SavesOrBreaks (text : List ℕ) : Type 0 where
  pub some : ((saved : Saved) × IsSaved text saved) ⊎ ((number : ℕ) × BreaksAtLine text number)
  pub saved_once : (one other : Saved) → IsSaved text one → IsSaved text other → one ≡ other
  pub breaks_once : (one other : ℕ) → BreaksAtLine text one → BreaksAtLine text other → one ≡ other
  pub not_both : (saved : Saved) (number : ℕ) → IsSaved text saved → BreaksAtLine text number → ⊥

abbrev pub TextsSaveOrBreak : Type 0
TextsSaveOrBreak = (text : List ℕ) → SavesOrBreaks text

-- What the saved text of a position saves: the position, and after its lines the canonical text.
abbrev pub saved_of : System → Position → Saved
saved_of system at = record {
  row = at.number;
  point = at.point;
  names = map (λ state. state.name) (named_states system at);
  counts = map (λ state. length state.words) (named_states system at);
  states = flat_map (λ state. state.words) (named_states system at);
  rest = length (ended (saved_lines at.number at.point (named_states system at)));
}

-- The saved text of a position is a saved text, and saves the position.
abbrev pub PositionsAreSaved : Type 0
PositionsAreSaved =
    (system : System) (at : Position) → AreNumbers at.number at.point → AllByRecursion IsState (named_states system at)
    → IsSaved (saved_text system at) (saved_of system at)

-- A position can be saved and resumed: its saved text saves it, and it is the position of the system's run that fits what was
-- saved. The lines of the position have at most 90,000 bytes.
pub record CanBeResumed (system : System) (at : Position) : Type 0 where
  pub saved : IsSaved (saved_text system at) (saved_of system at)
  pub fits : FitsSaved (record { system = system; run = run_of system }) (saved_of system at) at
  pub short : length (ended (saved_lines at.number at.point (named_states system at))) ≤ 90000

-- This holds of each position of the trace of a judged system.
abbrev pub TracesCanBeResumed : Type 0
TracesCanBeResumed =
    (system : System) (number : ℕ) (at : Position) → IsRanged system → IsWellFormed system → IsPositionOf (run_of system) number at → CanBeResumed system at

-- A trace has at most one position with a number.
pub record HasOneOrNone (run : Composition) (number : ℕ) : Type 0 where
  pub some : ((at : Position) × IsPositionOf run number at) ⊎ HasNoPosition run number
  pub once : (one other : Position) → IsPositionOf run number one → IsPositionOf run number other → one ≡ other

-- This holds of each number, where a run has one trace.
abbrev pub NumbersHaveOnePosition : Type 0
NumbersHaveOnePosition = (run : Composition) (number : ℕ) → HasOneTrace run → HasOneOrNone run number

-- At most one position fits what was saved.
pub record FitsOneOrNone (plan : Planned) (saved : Saved) : Type 0 where
  pub some : ((at : Position) × FitsSaved plan saved at) ⊎ FitsNone plan saved
  pub once : (one other : Position) → FitsSaved plan saved one → FitsSaved plan saved other → one ≡ other

abbrev pub SavedFitOnce : Type 0
SavedFitOnce = (plan : Planned) (saved : Saved) → FitsOneOrNone plan saved

-- Before a position of a trace there are as many rows as its number: each position before it has a row.
abbrev pub RowsAreBefore : Type 0
RowsAreBefore = (run : Composition) (number : ℕ) (at : Position) (of : IsPositionOf run number at) → length (rows_of run of.before) ≡ number
