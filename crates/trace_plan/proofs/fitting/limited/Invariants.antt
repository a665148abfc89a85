use Rattle.std.proofs.Common.{◌≡◌, ◌++◌, drop, map}
use Rattle.trace_plan.specs.Fitting.{tells_max}
use Rattle.trace_plan.specs.Plans.{places_from}
use Rattle.trace_plan.proofs.fitting.limited.Given as goal

abbrev pub invariant-loop-instance : goal.invariant-loop-instance
invariant-loop-instance l = l.limited.items ++ places_from l.instance (map tells_max (drop l.instance l.fitted)) ≡ places_from 0 (map tells_max l.fitted)
