use Rattle.std.proofs.Common.{map}
use Rattle.nest_names.proofs.TableLaws.{ToldSoFar}
use Rattle.nest_names.proofs.tables.Names.of.Given as goal

abbrev pub invariant-loop-place : goal.invariant-loop-place
invariant-loop-place l = ToldSoFar (map (λ name. name.now) l.names) l.tables l.place
