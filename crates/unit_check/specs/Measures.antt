-- The rules on depth and cost, for the lines of the source.
use Rattle.std.specs.Prelude.{Bool, false, not, ◌||◌, nat_le, nat_lt, Option, Some, None}
use Rattle.model_rules.specs.Limits.{cost_limit, depth_limit}
use Rattle.unit_tree.specs.Costs.{expression_call_cost}
use Rattle.unit_tree.specs.Names.{depth_of, expression_on}
use Rattle.unit_tree.specs.Plain.{presence_of, word_expression_of}
use Rattle.unit_tree.specs.Sites.{Scope, UnitScope}
use Rattle.unit_tree.specs.WellFormed.{step_cost}
use Rattle.unit_tree.specs.declared.expr.Expr.{Expr}
use Rattle.unit_tree.specs.declared.line_form.LineForm.{LineForm}
use Rattle.unit_tree.specs.declared.line_form.LineForm.TheVariants as form

-- An expression is deeper than 32.
abbrev pub is_deeper : Expr → Bool
is_deeper value = not (nat_le (depth_of value) depth_limit)

abbrev pub is_given_deeper : Option Expr → Bool
is_given_deeper None = false
is_given_deeper (Some value) = is_deeper value

-- Rule 17: an expression is too deep. An event output is judged by both plain outputs that it
-- becomes.
abbrev pub is_deep_at : Scope → LineForm → Bool
is_deep_at (UnitScope unit) (form.EventOutput event) = is_deeper (presence_of event.value) || is_deeper (word_expression_of event.ty event.value)
is_deep_at scope line = is_given_deeper (expression_on line)

-- A call costs more than 100,000.
abbrev pub is_dearer : Expr → Bool
is_dearer value = nat_lt cost_limit (expression_call_cost value)

-- Rule 18: a call costs too much.
abbrev pub is_dear_at : Scope → LineForm → Bool
is_dear_at (UnitScope unit) (form.Output output) = is_dearer output.value
is_dear_at (UnitScope unit) (form.EventOutput event) = is_dearer (presence_of event.value) || is_dearer (word_expression_of event.ty event.value)
is_dear_at (UnitScope unit) (form.Max value) = is_dearer value
is_dear_at (UnitScope unit) form.Step = nat_lt cost_limit (step_cost unit.step)
is_dear_at scope line = false
