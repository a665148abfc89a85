use Rattle.std.proofs.Common.{◌≡◌, ◌++◌, drop, map}
use Rattle.stimulus_tables.specs.TableSystems.{takes}
use Rattle.stimulus_tables.proofs.system.step_lines.Given as goal

abbrev pub invariant-loop-moment : goal.invariant-loop-moment
invariant-loop-moment l = map takes l.moments ≡ l.lines ++ map takes (drop l.moment-index l.moments)
