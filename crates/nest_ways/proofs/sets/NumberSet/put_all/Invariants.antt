use Rattle.std.proofs.Common.{◌≡◌, ◌⊎◌, ◌<◌, ◌+◌, ◌^◌, ℕ}
use Rattle.nest_ways.specs.Sets.{HasAt, HasNumber}
use Rattle.nest_ways.proofs.sets.NumberSet.put_all.Given as goal

abbrev pub invariant-loop-place : goal.invariant-loop-place
invariant-loop-place l =
    ((number : ℕ) → HasNumber l.self number → HasNumber l.set number ⊎ HasNumber l.initial.self number) × (l.self.start ≡ l.initial.self.start)
    × ((number : ℕ) → HasNumber l.initial.self number → HasNumber l.self number)
    × ((at bit : ℕ) → at < l.place → HasAt l.set.words.items at bit → HasAt l.self.words.items (l.ahead + at) bit)
    × (l.ahead + l.place < 2 ^ 64)
