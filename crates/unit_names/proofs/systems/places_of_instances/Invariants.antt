use Rattle.std.proofs.Common.{◌≡◌, ℕ, List, drop, map, bytes_eq}
use Rattle.std.specs.List.{position_from}
use Rattle.std.specs.Option.{option_or}
use Rattle.unit_names.specs.Found.{found_in, first_place}
use Rattle.unit_names.proofs.systems.places_of_instances.Given as goal

abbrev pub invariant-loop-place : goal.invariant-loop-place
invariant-loop-place l = (q : List ℕ) →
    option_or (found_in l.places q) (position_from (bytes_eq q) l.place (map (λ instance. instance.name) (drop l.place l.instances)))
    ≡ first_place (map (λ instance. instance.name) l.instances) q
