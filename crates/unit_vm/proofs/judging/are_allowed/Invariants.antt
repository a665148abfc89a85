use Rattle.std.proofs.Common.{◌≡◌, drop}
use Rattle.unit_vm.specs.Judged.{all_allowed}
use Rattle.unit_vm.proofs.judging.are_allowed.Given as goal

abbrev pub invariant-loop-instruction : goal.invariant-loop-instruction
invariant-loop-instruction l = all_allowed l.sizes l.role (drop l.instruction-index l.code) ≡ all_allowed l.sizes l.role l.code
