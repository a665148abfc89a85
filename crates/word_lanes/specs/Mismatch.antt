-- Where two lists of words first differ.
use Rattle.std.specs.Prelude.{◌≡◌, ◌≢◌, ℕ, ℤ, List, take, slice_get}

-- a and b agree before the place k, and differ at it
pub record IsFirstMismatch (a b : List ℤ) (k : ℕ) : Type 0 where
  pub agree : take k a ≡ take k b
  pub differ : slice_get a k ≢ slice_get b k
