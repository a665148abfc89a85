-- Which texts are accepted by the rules of the language, and at which line and by which rule any other is refused. The
-- rules are judged in stages: those on the text and its lines, then those on its system, and last that its outputs have
-- an order.
use Rattle.std.specs.Prelude.{◌≡◌, ℕ, ◌-◌, List, Option, Some, Result, Ok, Err, slice_get, ◌⊎◌, ⊤}
use Rattle.unit_tree.specs.Compositions.{run_of}
use Rattle.unit_tree.specs.Orders.{HasNoCycle, IsFirstWithoutOrder, line_of_output}
use Rattle.unit_tree.specs.Routes.{IsOrderOf}
use Rattle.unit_tree.specs.SourceLines.{ReadsFrom}
use Rattle.unit_tree.specs.Texts.{IsRefused}
use Rattle.unit_tree.specs.WellFormed.{Refusal, IsWellFormed, refusal_of}
use Rattle.unit_tree.specs.declared.system.PortName.{PortName}
use Rattle.unit_tree.specs.declared.system.System.{System}
use Rattle.unit_text.specs.declared.fault.TextFault.{TextFault}
use Rattle.unit_text.specs.declared.fault.TextFault.TheVariants as fault
use Rattle.text_accept.specs.declared.accepting.AcceptedText.{AcceptedText}

-- The text has the system, whose canonical lines came from these lines of the text. No rule is broken, and the outputs
-- have an order.
pub record IsAcceptedAs (text : List ℕ) (system : System) (lines : List ℕ) : Type 0 where
  pub reads : ReadsFrom text system lines
  pub well_formed : IsWellFormed system
  pub ordered : HasNoCycle system

-- The line of the text that a canonical line came from, which counts from 1.
abbrev pub source_line : List ℕ → ℕ → Option ℕ
source_line lines item = slice_get lines (item - 1)

-- A system, whose canonical lines came from these lines of a text, breaks a rule: the least one, at the first canonical line that
-- breaks it.
pub record BreaksRule (system : System) (lines : List ℕ) (line rule : ℕ) : Type 0 where
  pub refusal : Refusal
  pub found : refusal_of system ≡ Some refusal
  pub at : source_line lines refusal.at ≡ Some line
  pub by : rule ≡ refusal.by

-- The system keeps these rules, and some output has no order: the line is that of the first such output in its unit.
pub record HasCycle (system : System) (lines : List ℕ) (line rule : ℕ) : Type 0 where
  pub well_formed : IsWellFormed system
  pub port : PortName
  pub first : IsFirstWithoutOrder system port
  pub item : ℕ
  pub declared : line_of_output system port ≡ Some item
  pub at : source_line lines item ≡ Some line
  pub by : rule ≡ 15

-- The system is refused at the line by the rule.
abbrev pub IsSystemRefusedAt : System → List ℕ → ℕ → ℕ → Type 0
IsSystemRefusedAt system lines line rule = BreaksRule system lines line rule ⊎ HasCycle system lines line rule

-- The system of the text is refused.
pub record SaysRefused (text : List ℕ) (line rule : ℕ) : Type 0 where
  pub system : System
  pub lines : List ℕ
  pub reads : ReadsFrom text system lines
  pub refused : IsSystemRefusedAt system lines line rule

-- The text is refused at the line by the rule: by the rules on the text and its lines, or by those on its system.
abbrev pub IsRefusedAt : List ℕ → ℕ → ℕ → Type 0
IsRefusedAt text line rule = IsRefused text line rule ⊎ SaysRefused text line rule

-- ---- Results

-- A refusal at the line that a canonical line came from.
abbrev pub IsAtSource : List ℕ → ℕ → ℕ → TextFault → Type 0
IsAtSource lines item rule (fault.Line line by) = (source_line lines item ≡ Some line) × (by ≡ rule)
IsAtSource lines item rule fault.NoMemory = ⊥

-- The canonical line is that of the first output without an order.
pub record IsLineOfCycle (system : System) (item : ℕ) : Type 0 where
  pub port : PortName
  pub first : IsFirstWithoutOrder system port
  pub declared : line_of_output system port ≡ Some item

-- The system was accepted unchanged, with the lines that its canonical lines came from and an order of its outputs.
pub record IsAcceptedWith (system : System) (lines : List ℕ) (read : AcceptedText) : Type 0 where
  pub checked : read.checked ≡ system
  pub same_lines : read.lines ≡ lines
  pub order : IsOrderOf (run_of system) read.order
  pub well_formed : IsWellFormed system
  pub ordered : HasNoCycle system

-- The result for a system whose canonical lines came from these lines of a text. Without memory nothing is stated.
abbrev pub AnswersSystem : System → List ℕ → Result AcceptedText TextFault → Type 0
AnswersSystem system lines (Ok read) = IsAcceptedWith system lines read
AnswersSystem system lines (Err (fault.Line line rule)) = IsSystemRefusedAt system lines line rule
AnswersSystem system lines (Err fault.NoMemory) = ⊤

-- The result for a text: the system with which it is accepted, with an order of its outputs, or the line and the rule
-- by which it is refused. Without memory nothing is stated.
abbrev pub AnswersAcceptance : List ℕ → Result AcceptedText TextFault → Type 0
AnswersAcceptance text (Ok read) = IsAcceptedAs text read.checked read.lines × IsOrderOf (run_of read.checked) read.order
AnswersAcceptance text (Err (fault.Line line rule)) = IsRefusedAt text line rule
AnswersAcceptance text (Err fault.NoMemory) = ⊤
