use Rattle.std.proofs.Common.{◌≡◌, ◌++◌, drop, map}
use Rattle.nest_names.proofs.tables.ports_of_binds.Given as goal

abbrev pub invariant-loop-bind : goal.invariant-loop-bind
invariant-loop-bind l = map (λ name. name.now) l.names.items ++ map (λ bind. bind.port) (drop l.bind-index l.binds) ≡ map (λ bind. bind.port) l.binds
