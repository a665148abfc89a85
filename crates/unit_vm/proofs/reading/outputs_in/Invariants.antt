use Rattle.std.proofs.Common.{◌≡◌, ◌++◌, ◌-◌}
use Rattle.unit_vm.specs.Reading.{outputs_of, outputs_in}
use Rattle.unit_vm.proofs.reading.outputs_in.Given as goal

abbrev pub invariant-loop-output : goal.invariant-loop-output
invariant-loop-output l = l.outputs ++ outputs_in l.words l.output (outputs_of l.words - l.output) ≡ outputs_in l.words 0 (outputs_of l.words)
