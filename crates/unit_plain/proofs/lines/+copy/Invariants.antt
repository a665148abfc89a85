use Rattle.std.proofs.Common.{◌≡◌, ◌++◌, drop}
use Rattle.unit_plain.proofs.lines.+copy.Given as goal

abbrev pub invariant-copied_lines-loop-line : goal.invariant-copied_lines-loop-line
invariant-copied_lines-loop-line l = l.lines ≡ l.copies ++ drop l.line-index l.lines
