use Rattle.std.proofs.Common.{◌≡◌, max, drop}
use Rattle.unit_vm.specs.Valid.{greatest}
use Rattle.unit_vm.specs.Tables.{heights_in}
use Rattle.unit_vm.proofs.judging.tallest.Given as goal

abbrev pub invariant-loop-height : goal.invariant-loop-height
invariant-loop-height l = max l.best (greatest (heights_in (drop l.height-index l.heights))) ≡ greatest (heights_in l.heights)
