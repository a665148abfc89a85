use Rattle.std.proofs.Common.{◌≡◌, ◌++◌, drop}
use Rattle.stimulus_tables.specs.TableSystems.{sets_from}
use Rattle.stimulus_tables.proofs.system.sets.Given as goal

abbrev pub invariant-loop-place : goal.invariant-loop-place
invariant-loop-place l = sets_from 0 l.words ≡ l.lines ++ sets_from l.place (drop l.place l.words)
