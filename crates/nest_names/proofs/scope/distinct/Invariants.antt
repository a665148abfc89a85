use Rattle.std.proofs.Common.{◌≡◌, ◌++◌, ℕ, List, [], bytes_eq, drop}
use Rattle.std.specs.List.{filter}
use Rattle.nest_names.specs.Flattening.{distinct}
use Rattle.nest_names.specs.Tables.{AreNumbered, items_at, places_of}
use Rattle.nest_names.proofs.scope.distinct.Given as goal

abbrev pub invariant-loop-place : goal.invariant-loop-place
invariant-loop-place l =
    (l.kept ++ distinct l.kept (drop l.place l.spots) ≡ distinct [] l.spots)
    × AreNumbered l.places
    × ((q : List ℕ) → items_at l.spots (places_of l.places q) ≡ filter (λ spot. bytes_eq spot.port.port q) l.kept)
