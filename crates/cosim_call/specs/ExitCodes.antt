-- The exit code of each status.
use Rattle.std.specs.Prelude.{ℕ}
use Rattle.cosim_call.specs.declared.status.Status.{Status}
use Rattle.cosim_call.specs.declared.status.Status.TheVariants.{Done, NoMemory, Usage, Refused, ReadFault, WriteFault, ZeroBudget, RowBudget, UnitFault}
use Rattle.cosim_call.specs.declared.status.Status.TheVariants.{StepRefused}

abbrev pub code_of : Status → ℕ
code_of Done = 0
code_of NoMemory = 1
code_of Usage = 2
code_of Refused = 3
code_of ReadFault = 4
code_of WriteFault = 5
code_of ZeroBudget = 6
code_of RowBudget = 7
code_of UnitFault = 8
code_of StepRefused = 9
