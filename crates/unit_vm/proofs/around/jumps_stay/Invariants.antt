use Rattle.std.proofs.Common.{◌≡◌, ℕ, ◌<◌}
use Rattle.unit_vm.specs.declared.instruction.Instruction.{Instruction}
use Rattle.std.specs.Prelude.{slice_get, true, Some}
use Rattle.unit_vm.specs.Tables.{stays}
use Rattle.unit_vm.specs.Instructions.{flow_of}
use Rattle.unit_vm.proofs.around.jumps_stay.Given as goal

abbrev pub invariant-loop-place : goal.invariant-loop-place
invariant-loop-place l = (from : ℕ) (instruction : Instruction) → from < l.place → slice_get l.code from ≡ Some instruction
    → stays (flow_of instruction) from l.table.rows ≡ true
