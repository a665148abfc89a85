use Rattle.std.proofs.Common.{◌≡◌, drop}
use Rattle.unit_text.specs.Numbering.{with_marks}
use Rattle.unit_text.proofs.numbers.Numbers.add_all.Given as goal

abbrev pub invariant-loop-mark : goal.invariant-loop-mark
invariant-loop-mark l = with_marks l.self (drop l.mark-index l.marks) ≡ with_marks l.initial.self l.marks
