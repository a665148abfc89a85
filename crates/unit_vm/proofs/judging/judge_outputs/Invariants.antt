use Rattle.std.proofs.Common.{map, take}
use Rattle.unit_vm.specs.Programs.{output_part}
use Rattle.unit_vm.specs.Judged.{AreJudged}
use Rattle.unit_vm.proofs.judging.judge_outputs.Given as goal

abbrev pub invariant-loop-place : goal.invariant-loop-place
invariant-loop-place l = AreJudged l.sizes (map output_part (take l.place l.outputs)) l.all
