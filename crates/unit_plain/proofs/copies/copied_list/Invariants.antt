use Rattle.std.proofs.Common.{◌≡◌, ◌++◌, drop}
use Rattle.unit_plain.proofs.copies.copied_list.Given as goal

abbrev pub invariant-loop-item : goal.invariant-loop-item
invariant-loop-item g l = l.items ≡ l.copies ++ drop l.item-index l.items
