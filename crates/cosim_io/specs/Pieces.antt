-- What is taken from a source and appended to a sink, where their bytes are known.
use Rattle.std.specs.Prelude.{◌≡◌, ℕ, ◌<◌, ◌≤◌, List, length, take, IsSomeAnd}
use Rattle.std.specs.Io.KnownBytes.{Appends, Consumes}
use Rattle.std.specs.declared.option.Option.{Option}

-- known bytes grow by a prefix of the piece, which may be all of it
pub record AppendsPrefix (old new : Option (List ℕ)) (piece : List ℕ) : Type 0 where
  pub count : ℕ
  pub appended : Appends old new (take count piece)

-- known bytes lose a prefix of at most `most` bytes
pub record ConsumesAtMost (old new : Option (List ℕ)) (most : ℕ) : Type 0 where
  pub taken : List ℕ
  pub within : length taken ≤ most
  pub consumed : Consumes old new taken

-- known bytes lose their first `count` bytes, and there were at least that many
pub record ConsumesExactly (old new : Option (List ℕ)) (count : ℕ) : Type 0 where
  pub taken : List ℕ
  pub size : length taken ≡ count
  pub consumed : Consumes old new taken

-- the bytes are known, and there are more than `limit` of them
abbrev pub IsLongerThan : Option (List ℕ) → ℕ → Type 0
IsLongerThan known limit = IsSomeAnd known (λ bytes. limit < length bytes)
