use Rattle.std.proofs.Common.{◌≡◌, drop, nat_le}
use Rattle.std.specs.List.{list_all}
use Rattle.unit_tree.specs.Printable.{line_depth}
use Rattle.unit_print.proofs.printable.+depth.Given as goal

abbrev pub invariant-lines_are_within-loop-line : goal.invariant-lines_are_within-loop-line
invariant-lines_are_within-loop-line l =
    list_all (λ line. nat_le (line_depth line) l.depth) l.lines ≡ list_all (λ line. nat_le (line_depth line) l.depth) (drop l.line-index l.lines)
