-- Laws of chains, of the answers that are kept for them, and of tickets.
use Rattle.std.specs.Prelude.{◌≡◌, ◌≤◌, ℕ, ℤ, List, ◌++◌, length, map, take, drop, Option, IfSome, slice_get}
use Rattle.std.specs.Option.{option_and_then, option_map}
use Rattle.guess_board.specs.Chains.{Begins, Need, ahead, answer_at, chain, chain_of, common, need_of}
use Rattle.guess_board.specs.Events.{ticket_of}
use Rattle.guess_board.specs.Lanes.{FitsImage, IsLane, LaneState}
use Rattle.guess_board.specs.declared.cell.Cell.{Cell}
use Rattle.unit_answers.specs.Answers.{Answered}
use Rattle.unit_answers.specs.Keys.{meaning}

-- A chain continues where a prefix of it ends.
abbrev pub ChainsGoOn : Type 0
ChainsGoOn = (code : List ℤ) (state : Option (List ℤ)) (line : List Cell) (ones rest : List Answered)
    → chain meaning code state line ≡ ones ++ rest → rest ≡ chain meaning code (ahead state ones) (drop (length ones) line)

-- The answer to a needed step, by the meaning of its key.
abbrev pub answer_to : Need → Option Answered
answer_to need = option_map (answer_at need.row need.key) (meaning need.key)

-- After answers that are a prefix of a chain, the chain has the answer to the next needed step.
abbrev pub NeedsAreAnsweredNext : Type 0
NeedsAreAnsweredNext = (code state : List ℤ) (line : List Cell) (answers : List Answered)
    → Begins answers (chain_of code state line)
    → slice_get (chain_of code state line) (length answers) ≡ option_and_then answer_to (need_of code state line answers)

-- A chain has at most one answer for each planned cell.
abbrev pub ChainsAreShort : Type 0
ChainsAreShort = (code state : List ℤ) (line : List Cell) → length (chain_of code state line) ≤ length line

-- The row and the key of an answer.
abbrev pub asked : Answered → Need
asked one = record { row = one.row; key = one.key }

-- A run of answers is a prefix of a list, has the rows and the keys with which others begin, and there is no longer one.
pub record IsLongestRun (ones others run : List Answered) : Type 0 where
  pub begins : Begins run ones
  pub matches : map asked run ≡ map asked (take (length run) others)
  pub longest : (n : ℕ) → n ≤ length ones → n ≤ length others → map asked (take n ones) ≡ map asked (take n others) → n ≤ length run

-- The answers that are kept for a chain are their longest run that is a prefix of it.
abbrev pub KeptRunsAreLongest : Type 0
KeptRunsAreLongest = (ones others : List Answered) → IsLongestRun ones others (common ones others)

-- A ticket that a lane makes fits its image.
abbrev pub TicketsFit : Type 0
TicketsFit = (lane : LaneState) → IsLane lane → IfSome (ticket_of lane) (FitsImage lane.image)
