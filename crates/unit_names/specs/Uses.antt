-- Which names an expression may use, by where it is.
use Rattle.std.specs.Prelude.{Bool, true, false, not, ◌&&◌, ◌||◌, ℕ, List}
use Rattle.unit_tree.specs.Names.{Uses, is_among, input_names, output_uses, max_uses, step_uses}
use Rattle.unit_tree.specs.declared.expr.Expr.{Expr, fold-Expr}
use Rattle.unit_tree.specs.declared.expr.Expr.TheOpen.{Expr-F}
use Rattle.unit_tree.specs.declared.unit.Unit.{Unit}
use Rattle.unit_names.specs.declared.uses.Asker.{Asker}
use Rattle.unit_names.specs.declared.uses.Asker.TheVariants as asker

-- What an expression may use as that of an output, of `max`, or on a step line.
abbrev pub uses_of : Asker → Unit → Uses
uses_of asker.Output unit = output_uses unit
uses_of asker.Max unit = max_uses unit
uses_of asker.Step unit = step_uses unit

-- Whether each node of an expression uses only what it may use.
abbrev pub node_keeps : Uses → Expr-F Bool → Bool
node_keeps uses (Expr-F.Var name) = is_among uses.names name
node_keeps uses Expr-F.Time = uses.clocks.time
node_keeps uses Expr-F.Step = uses.clocks.step
node_keeps uses (Expr-F.Unary op arg) = arg
node_keeps uses (Expr-F.Binary op left right) = left && right
node_keeps uses (Expr-F.Clamp value low high) = value && low && high
node_keeps uses (Expr-F.Choose cond then_part else_part) = cond && then_part && else_part
node_keeps uses (Expr-F.Present name) = is_among uses.names name && is_among uses.events name
node_keeps uses _ = true

abbrev pub nodes_keep : Uses → Expr → Bool
nodes_keep uses = fold-Expr Bool (node_keeps uses)

-- A name is an input that is not in the needs.
abbrev pub is_other_input : Unit → List (List ℕ) → List ℕ → Bool
is_other_input unit needs name = is_among (input_names unit) name && not (is_among needs name)

-- Whether a name in an expression passes a test.
abbrev pub node_has : (List ℕ → Bool) → Expr-F Bool → Bool
node_has test (Expr-F.Var name) = test name
node_has test (Expr-F.Unary op arg) = arg
node_has test (Expr-F.Binary op left right) = left || right
node_has test (Expr-F.Clamp value low high) = value || low || high
node_has test (Expr-F.Choose cond then_part else_part) = cond || then_part || else_part
node_has test (Expr-F.Present name) = test name
node_has test _ = false

abbrev pub nodes_have : (List ℕ → Bool) → Expr → Bool
nodes_have test = fold-Expr Bool (node_has test)
