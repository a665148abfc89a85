-- Lanes and their tickets.
use Rattle.std.specs.Prelude.{◌≡◌, ◌≤◌, ℕ, ℤ, List, [], ◌∷◌, length, Option}
use Rattle.std.specs.List.{AllByRecursion}
use Rattle.guess_board.specs.Cells.{FitsCell, FitsLine}
use Rattle.guess_board.specs.Chains.{Begins, Need, chain_of, code_of, need_of}
use Rattle.guess_board.specs.Journals.{JournalState, IsBooked, replay_of}
use Rattle.guess_board.specs.declared.cell.Cell.{Cell}
use Rattle.unit_answers.specs.Answers.{Answered, IsProven}
use Rattle.unit_exec.specs.Images.{Compiled}

-- What contracts see of a lane: the image and the number of its instance, its row and state, the cells that are planned from
-- there on, the answers to the first of them, and its journal.
pub record LaneState : Type 0 where
  pub image : Compiled
  pub instance : ℕ
  pub row : ℕ
  pub state : List ℤ
  pub line : List Cell
  pub answers : List Answered
  pub journal : JournalState

-- What contracts see of a ticket: the number of its instance, its own number, the state at its start, and its cells.
pub record TicketState : Type 0 where
  pub instance : ℕ
  pub number : ℕ
  pub start : List ℤ
  pub cells : List Cell

-- The chain that the line of a lane determines.
abbrev pub lane_chain : LaneState → List Answered
lane_chain lane = chain_of (code_of lane.image) lane.state lane.line

-- The next needed step of a lane.
abbrev pub lane_need : LaneState → Option Need
lane_need lane = need_of (code_of lane.image) lane.state lane.line lane.answers

-- The invariant of a lane: its line fits, its answers are proven and are a prefix of its chain, there are as many as by the
-- replay of its journal, and the journal's invariant holds.
pub record IsLane (lane : LaneState) : Type 0 where
  pub line : FitsLine lane.image lane.row lane.state lane.line
  pub chained : Begins lane.answers (lane_chain lane)
  pub proven : AllByRecursion IsProven lane.answers
  pub answers_are : (replay_of lane.journal.records).answers ≡ length lane.answers
  pub booked : IsBooked lane.journal

-- A ticket fits an image: its start has a word for each state, and each of its cells one for each input.
pub record FitsImage (image : Compiled) (ticket : TicketState) : Type 0 where
  pub each_state : length ticket.start ≡ image.program.sizes.states
  pub cells : AllByRecursion (FitsCell image.program.sizes.inputs) ticket.cells

-- How many words of inputs the first cell has.
abbrev pub inputs_of : List Cell → ℕ
inputs_of [] = 0
inputs_of (cell ∷ cells) = length cell.inputs

-- The invariant of a ticket: it has 1 to 16 cells, each with as many words of inputs, and whose steps end within the range of times.
pub record IsTicket (ticket : TicketState) : Type 0 where
  pub some : 1 ≤ length ticket.cells
  pub few : length ticket.cells ≤ 16
  pub cells : AllByRecursion (FitsCell (inputs_of ticket.cells)) ticket.cells
