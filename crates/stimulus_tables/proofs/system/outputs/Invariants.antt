use Rattle.std.proofs.Common.{◌≡◌, ◌++◌, drop}
use Rattle.stimulus_tables.specs.TableSystems.{outputs_from}
use Rattle.stimulus_tables.proofs.system.outputs.Given as goal

abbrev pub invariant-loop-place : goal.invariant-loop-place
invariant-loop-place l = outputs_from 0 l.names ≡ l.outputs ++ outputs_from l.place (drop l.place l.names)
