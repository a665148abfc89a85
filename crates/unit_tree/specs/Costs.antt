-- Static cost: a number for each call that is computed from its trees alone, without running it. Lines in a
-- `repeat` count as often as they are repeated.
use Rattle.std.specs.Prelude.{ℕ, ◌+◌, ◌*◌, List, map, Option, Some, None}
use Rattle.std.specs.List.{sum}
use Rattle.unit_tree.specs.declared.expr.Expr.{Expr, fold-Expr}
use Rattle.unit_tree.specs.declared.expr.Expr.TheOpen.{Expr-F}
use Rattle.unit_tree.specs.declared.line.Line.{Line, fold-Line}
use Rattle.unit_tree.specs.declared.line.Line.TheOpen.{Line-F}

-- One node, whose parts are given as their costs: a leaf is 1; an operation or a call is the sum of its operands
-- and 1; an `if` is the sum of its condition and both choices, and 2.
abbrev pub node_cost : Expr-F ℕ → ℕ
node_cost (Expr-F.Unary op arg) = arg + 1
node_cost (Expr-F.Binary op left right) = left + right + 1
node_cost (Expr-F.Clamp value low high) = value + low + high + 1
node_cost (Expr-F.Choose cond then_part else_part) = cond + 1 + then_part + 1 + else_part
node_cost _ = 1

abbrev pub cost_of : Expr → ℕ
cost_of = fold-Expr ℕ node_cost

-- `else` and its lines.
abbrev pub else_cost : Option (List ℕ) → ℕ
else_cost None = 0
else_cost (Some lines) = 1 + sum lines

-- One line, where the lines of its blocks are given as their costs. The body of `repeat` counts as often as it is
-- repeated, with 1 more each time.
abbrev pub part_cost : Line-F ℕ → ℕ
part_cost (Line-F.Assign target value) = cost_of value + 1
part_cost (Line-F.If cond then_lines else_lines) = cost_of cond + 1 + sum then_lines + else_cost else_lines
part_cost (Line-F.Repeat count body) = 1 + count * (sum body + 1)
part_cost (Line-F.Accept value) = cost_of value + 1

abbrev pub line_cost : Line → ℕ
line_cost = fold-Line ℕ part_cost

-- The cost of a call: of an output or of `max`, and of a step.
abbrev pub expression_call_cost : Expr → ℕ
expression_call_cost value = cost_of value + 1

abbrev pub step_call_cost : List Line → ℕ
step_call_cost lines = sum (map line_cost lines) + 1
