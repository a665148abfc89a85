use Rattle.std.proofs.Common.{◌≡◌, ◌+◌, length}
use Rattle.std.specs.List.{AllByRecursion}
use Rattle.guess_board.specs.Chains.{code_of, with_posted}
use Rattle.guess_board.specs.Slots.{AreSlotsOf, filled, slots_in}
use Rattle.unit_answers.specs.Answers.{IsProven}
use Rattle.guess_board.proofs.slots.put_all.Given as goal

abbrev pub invariant-loop-one : goal.invariant-loop-one
invariant-loop-one l = record {
  can : (goal.iterator-loop-one).can_next l.one-iterator;
  finite : (goal.iterator-loop-one).is_finite l.one-iterator;
  slots : AreSlotsOf l.line l.slots.entries;
  answers : filled (slots_in l.slots.entries)
      ≡ with_posted (code_of l.image.value) l.state l.line (filled (slots_in l.fn.slots.entries)) l.yielded;
  count : l.count + length (filled (slots_in l.fn.slots.entries)) ≡ length (filled (slots_in l.slots.entries));
  proven : AllByRecursion IsProven l.yielded;
}
