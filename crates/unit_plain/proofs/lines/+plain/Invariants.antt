use Rattle.std.proofs.Common.{◌≡◌, ◌++◌, map, drop}
use Rattle.unit_tree.specs.Plain.{plain_line}
use Rattle.unit_plain.proofs.lines.+plain.Given as goal

abbrev pub invariant-plain_lines-loop-line : goal.invariant-plain_lines-loop-line
invariant-plain_lines-loop-line l = map plain_line l.lines ≡ l.plain ++ map plain_line (drop l.line-index l.lines)
