-- A store of snapshots: the words under each live id.
use Rattle.std.specs.Prelude.{◌≡◌, ◌≢◌, ℕ, ℤ, Option, IsSome, List, length}
use Rattle.std.specs.Option.{ForSome}
use Rattle.std.specs.Ordering.{nat_cmp}
use Rattle.std.specs.FinMap as map

-- A function from the ids of the live snapshots, which are numbers, to their words.
abbrev pub Store : Type 0
Store = map.FinMap nat_cmp (List ℤ)

-- The words under an id, where it is live.
abbrev pub words_of : Store → ℕ → Option (List ℤ)
words_of = map.get

-- The id is live in this store.
abbrev pub IsLive : Store → ℕ → Type 0
IsLive store id = IsSome (words_of store id)

-- The words under the id are so many, where it is live.
abbrev pub HasLength : Store → ℕ → ℕ → Type 0
HasLength store id count = ForSome (words_of store id) (λ words. length words ≡ count)

-- Every id but this one has the same words as before.
abbrev pub KeepsOthers : Store → Store → ℕ → Type 0
KeepsOthers old new id = (other : ℕ) → other ≢ id → words_of new other ≡ words_of old other
