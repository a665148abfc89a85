use Rattle.std.proofs.Common.{◌≡◌, ◌++◌, drop, map}
use Rattle.nest_names.proofs.tables.names_of_groups.Given as goal

abbrev pub invariant-loop-group : goal.invariant-loop-group
invariant-loop-group l = map (λ name. name.now) l.names.items ++ map (λ group. group.name) (drop l.group-index l.groups) ≡ map (λ group. group.name) l.groups
