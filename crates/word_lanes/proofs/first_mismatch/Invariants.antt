use Rattle.std.proofs.Common.{◌≡◌, ◌≤◌, ◌-◌, take, length}
use Rattle.word_lanes.proofs.first_mismatch.Given as goal

-- up to the next vector the lists agree
abbrev pub invariant-vectors : goal.invariant-vectors
invariant-vectors l = (l.at ≤ length l.a) × (take l.at l.a ≡ take l.at l.b)

abbrev pub decreases-vectors : goal.decreases-vectors
decreases-vectors l = length l.a - l.at
