-- Linear extrapolation: for each line of words the next word, within the line's bounds.
use Rattle.std.specs.Prelude.{◌≤ℤ◌, ℤ, pos, ◌-ℤ◌, ◌*ℤ◌, List, [], ◌∷◌}
use Rattle.std.specs.Int.{w64, int_wrap, int_min, int_max}
use Rattle.std.specs.Simd.Lanes.{Each2}

-- an integer wrapped to 64 bits, in two's complement
abbrev pub wrapped : ℤ → ℤ
wrapped z = int_wrap w64 z

-- the value in the interval from low to high that is nearest to an integer
abbrev pub brought_into : ℤ → ℤ → ℤ → ℤ
brought_into low high z = int_max low (int_min z high)

-- the word after `last` on a straight line, where `before` came before `last`, brought within `low`
-- to `high`
abbrev pub guess : ℤ → ℤ → ℤ → ℤ → ℤ
guess last before low high = brought_into low high (wrapped (pos 2 *ℤ last -ℤ before))

-- the guess at each place of four lists of equal length
abbrev pub guesses : List ℤ → List ℤ → List ℤ → List ℤ → List ℤ
guesses (l ∷ last) (b ∷ before) (lo ∷ low) (hi ∷ high) = guess l b lo hi ∷ guesses last before low high
guesses _ _ _ _ = []

-- each word is at most the word of the other list in its place
abbrev pub EachAtMost : List ℤ → List ℤ → Type 0
EachAtMost = Each2 ◌≤ℤ◌
