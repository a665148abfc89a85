use Rattle.std.proofs.Common.{◌≡◌, ◌+◌, take, drop, length}
use Rattle.guess_board.specs.Slots.{fill_first, slots_in}
use Rattle.guess_board.proofs.slots.move_answers.Given as goal

abbrev pub invariant-loop-place : goal.invariant-loop-place
invariant-loop-place l = record {
  as_many : length l.from.entries ≡ length l.fn.from.entries;
  left : drop (l.first + l.place) l.from.entries ≡ drop (l.first + l.place) l.fn.from.entries;
  put : l.into.entries ≡ fill_first l.fn.into.entries (take l.place (drop l.first (slots_in l.fn.from.entries)));
}
