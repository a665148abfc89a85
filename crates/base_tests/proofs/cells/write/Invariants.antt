use Rattle.std.proofs.Common.{◌≡◌, ◌≤◌, false}
use Rattle.base_tests.proofs.cells.write.Given as goal

abbrev pub invariant-loop-rows : goal.invariant-loop-rows
invariant-loop-rows g l = (l.writer.cell ≡ l.cell) × (l.writer.front.rows ≤ l.rows) × (l.writer.front.closed ≡ false)
