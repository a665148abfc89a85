use Rattle.std.proofs.Common.{◌≡◌, ◌++◌, drop}
use Rattle.code_units.specs.Scopes.{constants}
use Rattle.code_units.proofs.scope.push_constants.Given as goal

abbrev pub invariant-loop-place : goal.invariant-loop-place
invariant-loop-place l = l.initial.names ++ constants l.params l.words ≡ l.names ++ constants (drop l.place l.params) (drop l.place l.words)
