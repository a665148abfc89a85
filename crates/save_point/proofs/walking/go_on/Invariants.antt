use Rattle.std.proofs.Common.{◌≡◌, ◌≤◌}
use Rattle.save_point.proofs.WalkLaws.{phases_left}
use Rattle.save_point.proofs.walking.go_on.Given as goal

abbrev pub invariant-loop-run : goal.invariant-loop-run
invariant-loop-run l = (l.run.plan ≡ l.initial.run.plan) × (l.run.opened ≡ l.initial.run.opened) × (l.run.stand.at.number ≤ l.row)

abbrev pub decreases-loop-run : goal.decreases-loop-run
decreases-loop-run l = phases_left l.row l.run
