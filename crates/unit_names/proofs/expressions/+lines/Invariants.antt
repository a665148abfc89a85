use Rattle.std.proofs.Common.{◌≡◌, ◌+◌, ◌≤◌, drop, map, min}
use Rattle.std.specs.List.{sum}
use Rattle.unit_tree.specs.Costs.{line_cost}
use Rattle.unit_names.proofs.expressions.+lines.Given as goal

abbrev pub invariant-lines_cost-loop-line : goal.invariant-lines_cost-loop-line
invariant-lines_cost-loop-line l =
    (min (sum (map line_cost l.lines)) 100001 ≡ min (l.all + sum (map line_cost (drop l.line-index l.lines))) 100001) × (l.all ≤ 100001)
