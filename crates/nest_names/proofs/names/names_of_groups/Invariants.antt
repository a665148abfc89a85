use Rattle.std.proofs.Common.{◌≡◌, ◌++◌, drop}
use Rattle.nest_names.proofs.names.names_of_groups.Given as goal

abbrev pub invariant-loop-group : goal.invariant-loop-group
invariant-loop-group l = l.all.items ++ drop l.group-index l.groups ≡ l.groups
