use Rattle.std.proofs.Common.{◌≡◌, ◌+◌, ◌<◌, ℕ, Some}
use Rattle.std.specs.Prelude.{slice_get}
use Rattle.nest_names.specs.declared.scope.GroupScope.{GroupScope}
use Rattle.nest_ways.proofs.scopes.are_alike.Given as goal

abbrev pub invariant-loop-base : goal.invariant-loop-base
invariant-loop-base l =
    (k : ℕ) (scope : GroupScope) → k < l.base → slice_get l.scopes k ≡ Some scope → scope.group ≡ Some l.group
    → slice_get l.scopes (k + l.offset) ≡ slice_get l.scopes (k + l.first)
