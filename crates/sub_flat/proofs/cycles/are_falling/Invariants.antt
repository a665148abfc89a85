use Rattle.std.proofs.Common.{ℕ, ◌<◌, ◌≤◌, map}
use Rattle.unit_tree.specs.Ports.{IsAmong}
use Rattle.nest_names.specs.Tables.{inside_of}
use Rattle.sub_flat.specs.Searching.{level_at}
use Rattle.sub_flat.proofs.cycles.are_falling.Given as goal

abbrev pub invariant-loop-place : goal.invariant-loop-place
invariant-loop-place l =
    (place other : ℕ) → place < l.place → IsAmong (inside_of (map (λ one. one.items) l.inner) place) other
    → level_at l.levels other ≤ level_at l.levels place
