use Rattle.std.proofs.Common.{◌≡◌, ◌++◌, take}
use Rattle.unit_vm.specs.Instructions.{written}
use Rattle.unit_vm.specs.Programs.{joined}
use Rattle.unit_vm.proofs.writing.push_parts.Given as goal

abbrev pub invariant-loop-place : goal.invariant-loop-place
invariant-loop-place l = l.words ≡ l.initial.words ++ written (joined (take l.place l.parts))
