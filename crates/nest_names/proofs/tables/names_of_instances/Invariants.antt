use Rattle.std.proofs.Common.{◌≡◌, ◌++◌, drop, map}
use Rattle.nest_names.proofs.tables.names_of_instances.Given as goal

abbrev pub invariant-loop-instance : goal.invariant-loop-instance
invariant-loop-instance l = map (λ name. name.now) l.names.items ++ map (λ instance. instance.name) (drop l.instance-index l.instances) ≡ map (λ instance. instance.name) l.instances
