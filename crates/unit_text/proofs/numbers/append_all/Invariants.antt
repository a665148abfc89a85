use Rattle.std.proofs.Common.{◌≡◌, ◌++◌, take}
use Rattle.unit_text.specs.Numbering.{joined_slices}
use Rattle.unit_text.proofs.numbers.append_all.Given as goal

abbrev pub invariant-loop-list : goal.invariant-loop-list
invariant-loop-list l = l.numbers ≡ l.initial.numbers ++ joined_slices (take l.list-index l.lists)
