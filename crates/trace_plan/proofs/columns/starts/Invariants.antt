use Rattle.std.proofs.Common.{◌≡◌, ◌≤◌, ◌*◌, ◌++◌, drop}
use Rattle.trace_plan.specs.Shown.{starts_from}
use Rattle.trace_plan.proofs.columns.starts.Given as goal

abbrev pub invariant-loop-instance : goal.invariant-loop-instance
invariant-loop-instance l =
    (l.starts.items ++ starts_from l.system l.count (drop l.instance-index l.instance-items) ≡ starts_from l.system 0 l.system.instances)
    × (l.count ≤ 32 * l.instance-index)
