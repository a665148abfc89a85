use Rattle.std.proofs.Common.{◌≡◌, ◌++◌, ◌+◌, drop, map}
use Rattle.code_units.specs.Scopes.{slots_from}
use Rattle.code_units.proofs.scope.push_slots.Given as goal

abbrev pub invariant-loop-place : goal.invariant-loop-place
invariant-loop-place g l =
    l.initial.names ++ slots_from l.first (map g.T.Declared.variable l.items)
    ≡ l.names ++ slots_from (l.first + l.place) (map g.T.Declared.variable (drop l.place l.items))
