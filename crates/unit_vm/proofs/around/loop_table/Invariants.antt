use Rattle.unit_vm.proofs.LoopTables.{Walked}
use Rattle.unit_vm.proofs.around.loop_table.Given as goal

abbrev pub invariant-loop-place : goal.invariant-loop-place
invariant-loop-place l = Walked l.code l.place l.rows l.here l.cost l.deepest
