use Rattle.std.proofs.Common.{◌≡◌, drop}
use Rattle.std.specs.List.{find}
use Rattle.std.specs.Str.{bytes_eq}
use Rattle.unit_tree.specs.Names.{instance_named}
use Rattle.trace_plan.proofs.columns.instance_named.Given as goal

abbrev pub invariant-loop-instance : goal.invariant-loop-instance
invariant-loop-instance l = find (λ one. bytes_eq one.name l.name) (drop l.instance-index l.instance-items) ≡ instance_named l.system l.name
