-- The consequences of the stores of a writer and of the reads of a reader.
use Rattle.std.specs.Prelude.{◌≡◌, ◌≤◌, ◌⊎◌, false, List, [], ◌∷◌, AllPairs, IsTrue}
use Rattle.front_cell.specs.Front.{opening, open_at, closed_at, IsBehind}
use Rattle.front_cell.specs.declared.front.Front.{Front}

-- Each contents follows from the one before by one such step.
abbrev pub Steps : (Front → Front → Type 0) → Front → List Front → Type 0
Steps step front [] = Unit {0}
Steps step front (next ∷ later) = step front next × Steps step next later

-- An advance: while the run is open, to as many rows or more.
pub record IsAdvance (front next : Front) : Type 0 where
  pub still_open : front.closed ≡ false
  pub forward : front.rows ≤ next.rows
  pub stored : next ≡ open_at next.rows

-- One store by the writer: an advance, or a close.
abbrev pub IsStore : Front → Front → Type 0
IsStore front next = IsAdvance front next ⊎ (next ≡ closed_at front)

-- The number has not fallen, and if the run was closed nothing has changed.
pub record IsKept (front later : Front) : Type 0 where
  pub rows : front.rows ≤ later.rows
  pub closed : IsTrue front.closed → later ≡ front

-- Over all stores from the opening, the number never falls, and after a close nothing changes.
abbrev pub IsWriterForward : Type 0
IsWriterForward = (stores : List Front) → Steps IsStore opening stores → AllPairs IsKept (opening ∷ stores)

-- Take all reads since a split, each of which is not older than the one before. Then none is older than any earlier one, or than
-- the writer's contents at the split.
abbrev pub IsReaderForward : Type 0
IsReaderForward = (split : Front) (fronts : List Front) → Steps IsBehind split fronts → AllPairs IsBehind (split ∷ fronts)
