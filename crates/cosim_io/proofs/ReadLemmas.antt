-- What several reads have taken together.
use Rattle.std.proofs.Common.{◌≡◌, ℕ, ◌+◌, ◌<◌, ◌≤◌, List, ◌++◌, length, take, arith, length-append, length-take}
use Rattle.std.proofs.KnownBytes.{Consumes-trans}
use Rattle.std.specs.Io.KnownBytes.{Consumes}
use Rattle.std.specs.declared.option.Option.{Option}
use Rattle.cosim_io.specs.Pieces.{ConsumesAtMost, ConsumesExactly}

-- so far no read failed, and what was taken is at most the limit
pub record Taken (old new : Option (List ℕ)) (before now : ℕ) (bytes : List ℕ) (limit : ℕ) : Type 0 where
  pub consumed : Consumes old new bytes
  pub within : length bytes ≤ limit
  pub faults : now ≡ before

module _ (old mid new : Option (List ℕ)) (before now : ℕ) (bytes : List ℕ) (limit : ℕ) where
  size_more : (into : List ℕ) (n : ℕ) → n ≤ length into → length (bytes ++ take n into) ≡ length bytes + n
  size_more into n fits = omega (arith, length-append bytes (take n into), length-take n into)

  -- with the next read the byte after the limit was taken
  pub Taken-past : (into : List ℕ) (n : ℕ) → Taken old mid before now bytes limit → Consumes mid new (take n into) → n ≤ length into
      → limit < length bytes + n → length bytes + n ≤ limit + 1 → ConsumesExactly old new (limit + 1)
  Taken-past into n so_far more fits past room = record {
    taken = bytes ++ take n into;
    size = omega (arith, size_more into n fits);
    consumed = Consumes-trans old mid new bytes (take n into) so_far.consumed more;
  }

  -- with the next read no byte after that one was taken
  pub Taken-most : (into : List ℕ) (n : ℕ) → Taken old mid before now bytes limit → Consumes mid new (take n into) → n ≤ length into
      → length bytes + n ≤ limit + 1 → ConsumesAtMost old new (limit + 1)
  Taken-most into n so_far more fits room = record {
    taken = bytes ++ take n into;
    within = omega (arith, size_more into n fits);
    consumed = Consumes-trans old mid new bytes (take n into) so_far.consumed more;
  }
