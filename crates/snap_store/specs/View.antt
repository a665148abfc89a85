-- A slab of lists, seen as a store.
use Rattle.std.specs.Prelude.{ℕ, ◌+◌, ℤ, Option, None, Some, List, [], ◌∷◌}
use Rattle.std.specs.FinMap as map
use Rattle.snap_store.specs.Store.{Store}

-- Each list of the slab is under its index, counted from `first`.
abbrev pub stored_from : ℕ → List (Option (List ℤ)) → Store
stored_from first [] = map.empty
stored_from first (None ∷ slots) = stored_from (first + 1) slots
stored_from first (Some words ∷ slots) = map.insert (stored_from (first + 1) slots) first words
