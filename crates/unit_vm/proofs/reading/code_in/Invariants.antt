use Rattle.std.proofs.Common.{◌≡◌, ◌++◌, ◌*◌, drop}
use Rattle.unit_vm.specs.Reading.{code_in}
use Rattle.unit_vm.proofs.reading.code_in.Given as goal

abbrev pub invariant-loop-pair : goal.invariant-loop-pair
invariant-loop-pair l = l.code ++ code_in (drop (2 * l.pair) l.words) ≡ code_in l.words
