use Rattle.std.proofs.Common.{map}
use Rattle.sub_flat.specs.Cycles.{inner_places}
use Rattle.sub_flat.proofs.NestingLaws.{ListedSoFar}
use Rattle.sub_flat.proofs.cycles.all_inner.Given as goal

abbrev pub invariant-loop-place : goal.invariant-loop-place
invariant-loop-place l = ListedSoFar (inner_places l.names) (map (λ one. one.items) l.all.items) l.place
