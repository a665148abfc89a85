use Rattle.std.proofs.Common.{◌≡◌, ◌≤◌, ◌-◌, take, length}
use Rattle.word_lanes.specs.Guess.{guesses}
use Rattle.word_lanes.proofs.extrapolate.Given as goal

-- what is written so far is the beginning of the guesses
abbrev pub invariant-vectors : goal.invariant-vectors
invariant-vectors l = (l.at ≤ length l.out) × (take l.at l.out ≡ take l.at (guesses l.last l.before l.low l.high))

abbrev pub decreases-vectors : goal.decreases-vectors
decreases-vectors l = length l.out - l.at
