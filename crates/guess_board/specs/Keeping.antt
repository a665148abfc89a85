-- How the code keeps a lane.
use Rattle.std.specs.Prelude.{◌≡◌, List, length}
use Rattle.std.specs.List.{AllByRecursion}
use Rattle.guess_board.specs.Cells.{FitsLine}
use Rattle.guess_board.specs.Chains.{Begins, chain_of, code_of}
use Rattle.guess_board.specs.Journals.{replay_of}
use Rattle.guess_board.specs.Lanes.{LaneState, TicketState}
use Rattle.guess_board.specs.Slots.{AreSlotsOf, filled, slots_in}
use Rattle.guess_board.specs.declared.lane.Lane.TheInside.{Inside}
use Rattle.guess_board.specs.declared.ticket.Ticket.TheInside as ticket
use Rattle.unit_answers.specs.Answers.{Answered, IsProven}

-- The answers in its slots.
abbrev pub answers_held : Inside → List Answered
answers_held lane = filled (slots_in lane.slots.entries)

-- What contracts see of a lane, and of a ticket.
abbrev pub lane_state : Inside → LaneState
lane_state lane = record {
  image = lane.image.value;
  instance = lane.instance;
  row = lane.row;
  state = lane.state.items;
  line = lane.line.items;
  answers = answers_held lane;
  journal = lane.journal;
}

abbrev pub ticket_state : ticket.Inside → TicketState
ticket_state one = record { instance = one.instance; number = one.number; start = one.start.items; cells = one.cells.items }

-- A lane has a slot for each planned cell. The line, the answers and their number are as `IsLane` says. The journal has its own
-- invariant, which says the rest.
pub record IsKept (lane : Inside) : Type 0 where
  pub slots : AreSlotsOf lane.line.items lane.slots.entries
  pub line : FitsLine lane.image.value lane.row lane.state.items lane.line.items
  pub chained : Begins (answers_held lane) (chain_of (code_of lane.image.value) lane.state.items lane.line.items)
  pub proven : AllByRecursion IsProven (answers_held lane)
  pub answers_are : (replay_of lane.journal.records).answers ≡ length (answers_held lane)
