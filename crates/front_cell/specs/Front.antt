-- The contents of a cell, and how those of two moments compare.
use Rattle.std.specs.Prelude.{ℕ, ◌≤◌, Bool, true, false, List, [], ◌∷◌, IsTrue}
use Rattle.front_cell.specs.declared.front.Front.{Front}

-- No row is committed, and the run is open.
abbrev pub opening : Front
opening = record { rows = 0; closed = false }

-- So many rows are committed, and the run is open.
abbrev pub open_at : ℕ → Front
open_at rows = record { rows = rows; closed = false }

-- The same rows, and the run is closed.
abbrev pub closed_at : Front → Front
closed_at front = record { rows = front.rows; closed = true }

-- It has no more rows than the other, and is closed only where the other is.
pub record IsBehind (front other : Front) : Type 0 where
  pub rows : front.rows ≤ other.rows
  pub closed : IsTrue front.closed → IsTrue other.closed

-- The second word: 1 where the run is closed.
abbrev pub bit_of : Bool → ℕ
bit_of false = 0
bit_of true = 1

-- The two words of the cell.
abbrev pub cell_words : Front → List ℕ
cell_words front = front.rows ∷ bit_of front.closed ∷ []
