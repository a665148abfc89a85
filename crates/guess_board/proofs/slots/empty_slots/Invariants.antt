use Rattle.std.proofs.Common.{◌≡◌, [], take}
use Rattle.guess_board.specs.Slots.{entries_of}
use Rattle.guess_board.proofs.slots.empty_slots.Given as goal

abbrev pub invariant-loop-cell : goal.invariant-loop-cell
invariant-loop-cell l = l.slots.entries ≡ entries_of (take l.cell-index l.line) []
