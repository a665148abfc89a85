use Rattle.std.proofs.Common.{◌≡◌, ℕ, List, drop, map}
use Rattle.std.specs.Option.{option_or}
use Rattle.unit_names.specs.Found.{declared_from, declared_among, as_named, found_in}
use Rattle.unit_names.proofs.tables.table_of.Given as goal

abbrev pub invariant-loop-place : goal.invariant-loop-place
invariant-loop-place l = (q : List ℕ) →
    option_or (found_in l.table q) (declared_from l.place (map as_named (drop l.place l.entries)) q)
    ≡ declared_among (map as_named l.entries) q
