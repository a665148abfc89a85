use Rattle.std.proofs.Common.{◌≡◌, ◌++◌, drop}
use Rattle.stimulus_tables.specs.TableSystems.{states_from}
use Rattle.stimulus_tables.proofs.system.states.Given as goal

abbrev pub invariant-loop-place : goal.invariant-loop-place
invariant-loop-place l = states_from 0 l.words ≡ l.states ++ states_from l.place (drop l.place l.words)
