use Rattle.std.proofs.Common.{◌≡◌, length, map}
use Rattle.sub_flat.specs.Searching.{AreSure}
use Rattle.sub_flat.proofs.cycles.level_inside.Given as goal

abbrev pub invariant-loop-place : goal.invariant-loop-place
invariant-loop-place l = AreSure (map (λ one. one.items) l.inner) l.doubtful.items × (length l.doubtful.items ≡ l.place)
