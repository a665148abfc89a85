use Rattle.std.proofs.Common.{◌≡◌, ◌++◌, take, drop}
use Rattle.guess_board.specs.Journals.{without}
use Rattle.guess_board.proofs.journal.remove.Given as goal

abbrev pub invariant-loop-place : goal.invariant-loop-place
invariant-loop-place l = record {
  same : l.outstanding ≡ l.fn.outstanding;
  without_is : without l.ticket l.outstanding.items ≡ take l.place l.outstanding.items ++ without l.ticket (drop l.place l.outstanding.items);
}
