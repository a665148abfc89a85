use Rattle.std.proofs.Common.{◌≡◌, length}
use Rattle.std.specs.List.{list_all}
use Rattle.unit_tree.specs.Lines.{source_lines, is_blank_line}
use Rattle.unit_text.proofs.reading.is_blank_text.Given as goal

abbrev pub invariant-loop-rest : goal.invariant-loop-rest
invariant-loop-rest l = list_all is_blank_line (source_lines l.text) ≡ list_all is_blank_line (source_lines l.rest)

abbrev pub decreases-loop-rest : goal.decreases-loop-rest
decreases-loop-rest l = length l.rest
