use Rattle.std.proofs.Common.{◌≡◌, ◌≤◌}
use Rattle.unit_check.specs.Counts.{plain_wire_count}
use Rattle.unit_check.proofs.tables.first_wire_too_many.Given as goal

abbrev pub invariant-loop-place : goal.invariant-loop-place
invariant-loop-place l = (l.count ≡ plain_wire_count l.names l.place) × (l.count ≤ 2048)
