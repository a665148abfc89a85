use Rattle.std.proofs.Common.{◌≡◌, ◌<◌, ◌≤◌, ◌++◌, ℕ, List, Some, length}
use Rattle.std.specs.Prelude.{slice_get}
use Rattle.nest_ways.specs.Sets.{HasNumber, HasOnly, HasRoomFor}
use Rattle.nest_ways.specs.declared.ends.End.{End}
use Rattle.nest_ways.proofs.numbers.numbers_of.Given as goal

abbrev pub invariant-loop-end : goal.invariant-loop-end
invariant-loop-end l =
    ((place : ℕ) (end : End) → place < l.end-index → slice_get l.kept place ≡ Some end
    → (number : ℕ) × HasNumber l.set number × (slice_get l.numbered number ≡ Some end))
    × HasOnly l.numbered l.set l.kept
    × ((rest : List End) × (l.numbered ≡ l.initial.numbered ++ rest))
    × (l.first ≤ length l.numbered)
    × ((number : ℕ) → l.first ≤ number → HasRoomFor l.set number)
