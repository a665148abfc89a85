use Rattle.std.proofs.Common.{◌≤◌, ℕ, length}
use Rattle.nest_ways.specs.Sets.{HasAt}
use Rattle.nest_ways.proofs.sets.grow_to.Given as goal

abbrev pub invariant-loop : goal.invariant-loop
invariant-loop l =
    ((at bit : ℕ) → HasAt l.initial.words.items at bit → HasAt l.words.items at bit)
    × ((at bit : ℕ) → HasAt l.words.items at bit → HasAt l.initial.words.items at bit)
    × (l.counter ≤ length l.words.items)
