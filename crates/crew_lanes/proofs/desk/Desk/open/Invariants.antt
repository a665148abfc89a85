use Rattle.std.proofs.Common.{◌≡◌, vec_len}
use Rattle.crew_lanes.proofs.desk.Desk.open.Given as goal

abbrev pub invariant-loop-instance : goal.invariant-loop-instance
invariant-loop-instance l = vec_len l.lanes ≡ l.instance
