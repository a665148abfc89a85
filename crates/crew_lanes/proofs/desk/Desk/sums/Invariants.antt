use Rattle.std.proofs.Common.{◌≡◌, ◌+◌, ◌*◌, ◌≤◌}
use Rattle.crew_lanes.proofs.desk.Desk.sums.Given as goal

abbrev pub invariant-loop-place : goal.invariant-loop-place
invariant-loop-place g l = (l.sums.tickets ≤ l.place * 4294967296) × (l.sums.tickets ≡ l.sums.posted + l.sums.back + l.sums.lapsed)
