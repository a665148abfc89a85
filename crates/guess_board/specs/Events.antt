-- The events of a lane: publish, take, post, back and find.
use Rattle.std.specs.Prelude.{ℕ, ◌==◌, ◌-◌, ℤ, Bool, not, ◌&&◌, ◌||◌, List, [], ◌∷◌, length, drop, Option, Some, None, is_some, if◌then◌else◌}
use Rattle.std.specs.Option.{option_map, option_eq}
use Rattle.guess_board.specs.Chains.{Need, chain_of, code_of, common, left_of, is_same_key, is_same_need, with_posted}
use Rattle.guess_board.specs.Journals.{is_listed, is_full_journal, next_ticket, no_records, with_back, with_post, with_publish, with_ticket}
use Rattle.guess_board.specs.Lanes.{LaneState, TicketState, lane_need}
use Rattle.guess_board.specs.declared.cell.Cell.{Cell}
use Rattle.unit_answers.specs.Answers.{Answered}
use Rattle.unit_answers.specs.Keys.{StepKey}
use Rattle.unit_exec.specs.Images.{Compiled}

-- A lane at its opening: at the start state, without planned steps.
abbrev pub opened : Compiled → ℕ → LaneState
opened image instance =
    record { image = image; instance = instance; row = 0; state = image.start; line = []; answers = []; journal = no_records }

-- A lane is full where its journal is.
abbrev pub is_full : LaneState → Bool
is_full lane = is_full_journal lane.journal

-- ---- Publish

-- The answers that are kept for a new state and line: of those at or above the first planned row, the longest run that is a
-- prefix of the new chain, by rows and keys.
abbrev pub answers_kept : LaneState → List ℤ → List Cell → List Answered
answers_kept lane state line = common (left_of line lane.answers) (chain_of (code_of lane.image) state line)

-- A lane with a new row, state and line.
abbrev pub moved_to : LaneState → ℕ → List ℤ → List Cell → LaneState
moved_to lane row state line = record lane { row = row; state = state; line = line; answers = answers_kept lane state line }

-- A publish cuts exactly where the next needed step changed.
abbrev pub is_cut : LaneState → LaneState → Bool
is_cut old new = not (option_eq is_same_need (lane_need old) (lane_need new))

-- A lane after a publish.
abbrev pub published : LaneState → ℕ → List ℤ → List Cell → LaneState
published lane row state line = record (moved_to lane row state line) {
  journal = with_publish lane.journal (length (answers_kept lane state line)) (is_cut lane (moved_to lane row state line));
}

-- ---- Take

-- The next ticket of a lane, for its next needed step and the planned cells after it.
abbrev pub ticket_for : LaneState → Need → TicketState
ticket_for lane need = record {
  instance = lane.instance;
  number = next_ticket lane.journal;
  start = need.key.state;
  cells = drop (length lane.answers) lane.line;
}

-- The ticket that a lane makes. There is none where no step is needed, where a ticket is current, and where the lane is full.
abbrev pub ticket_of : LaneState → Option TicketState
ticket_of lane = if is_full lane || is_some lane.journal.current then None else option_map (ticket_for lane) (lane_need lane)

-- A lane after a take, by the ticket that it made.
abbrev pub with_taken : LaneState → Option TicketState → LaneState
with_taken lane None = lane
with_taken lane (Some ticket) = record lane { journal = with_ticket lane.journal ticket.number }

abbrev pub taken : LaneState → LaneState
taken lane = with_taken lane (ticket_of lane)

-- ---- Post, back and find

-- Whether a ticket is of a lane: of its instance, and outstanding there.
abbrev pub is_of : LaneState → TicketState → Bool
is_of lane ticket = (ticket.instance == lane.instance) && is_listed ticket.number lane.journal.outstanding

-- The answers of a lane after some were posted, each of which is appended where it answers the next needed step.
abbrev pub answers_with : LaneState → List Answered → List Answered
answers_with lane ones = with_posted (code_of lane.image) lane.state lane.line lane.answers ones

-- A lane after a post.
abbrev pub posted : LaneState → ℕ → List Answered → LaneState
posted lane number ones = record lane {
  answers = answers_with lane ones;
  journal = with_post lane.journal number (length (answers_with lane ones) - length lane.answers);
}

-- A lane after a ticket was given back.
abbrev pub backed : LaneState → ℕ → LaneState
backed lane number = record lane { journal = with_back lane.journal number }

-- The answer that is found for a key: the first one, where it is that of the key. Its row doesn't matter.
abbrev pub first_of : StepKey → List Answered → Option Answered
first_of key [] = None
first_of key (one ∷ ones) = if is_same_key one.key key then Some one else None

abbrev pub found : LaneState → StepKey → Option Answered
found lane key = first_of key lane.answers
