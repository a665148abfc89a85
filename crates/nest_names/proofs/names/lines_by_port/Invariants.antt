use Rattle.std.proofs.Common.{◌≡◌, ℕ, List, bytes_eq, take}
use Rattle.std.specs.List.{filter}
use Rattle.nest_names.specs.Tables.{AreNumbered, items_at, places_of}
use Rattle.nest_names.proofs.names.lines_by_port.Given as goal

abbrev pub invariant-loop-place : goal.invariant-loop-place
invariant-loop-place l =
    AreNumbered l.lines
    × ((q : List ℕ) → items_at l.binds (places_of l.lines q) ≡ filter (λ bind. bytes_eq bind.port q) (take l.place l.binds))
