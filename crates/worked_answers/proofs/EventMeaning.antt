-- The events of expressions and the effects of lines where events occur at some inputs, in an environment that is given.
use Rattle.std.proofs.Common.{◌≡◌, List, map, None, Ok, if◌then◌else◌, ap, sym, ◌∙◌}
use Rattle.std.specs.Prelude.{ℕ}
use Rattle.unit_tree.specs.Effects.{Effect}
use Rattle.unit_tree.specs.Values.{◌>>=◌, holds}
use Rattle.unit_tree.specs.declared.environment.Environment.{Environment}
use Rattle.unit_tree.specs.declared.expr.BinOp.{BinOp}
use Rattle.unit_tree.specs.declared.expr.Expr as expr
use Rattle.unit_tree.specs.declared.expr.Expr.{Expr}
use Rattle.unit_tree.specs.declared.line.Line as line
use Rattle.unit_tree.specs.declared.line.Line.{Line}
use Rattle.unit_tree.specs.declared.line.Line.TheFolds.{fold-roll-Line}
use Rattle.unit_tree.specs.declared.line.Line.TheOpen.{Line-F}
use Rattle.unit_tree.specs.declared.line.Line.TheVariants.{rolls-Assign, rolls-If}
use Rattle.unit_tree.proofs.FoldLemmas.{fold-Binary, fold-Choose, fold-Absent}
use Rattle.event_runs.specs.Events.{Occurring, Telling, effect_in, event_in, line_effect_in, node_telling, value_in}
use Rattle.event_runs.proofs.EventLaws.{has_value, told_of}
use Rattle.event_runs.proofs.ValueLaws.{Given, in-Binary, in-Number, in-Present, in-Var}

-- ---- Events

pub event-Absent : (occurring : Occurring) (env : Environment) → event_in occurring expr.Absent env ≡ Ok None
event-Absent occurring env = ap (λ (told : Telling). told.event env) (fold-Absent Telling (node_telling occurring))

pub event-Choose : (occurring : Occurring) (condition then_part else_part : Expr) (env : Environment)
    → event_in occurring (expr.Choose condition then_part else_part) env
    ≡ (value_in occurring condition env >>= λ c. (if holds c then event_in occurring then_part env else event_in occurring else_part env))
event-Choose occurring condition then_part else_part env =
    ap (λ (told : Telling). told.event env) (fold-Choose Telling (node_telling occurring) condition then_part else_part)
    ∙ ap (λ (given : Given). given >>= λ c. (if holds c then event_in occurring then_part env else event_in occurring else_part env))
    (has_value occurring condition env)

pub event-Binary : (occurring : Occurring) (op : BinOp) (left right : Expr) (env : Environment)
    → event_in occurring (expr.Binary op left right) env ≡ told_of (value_in occurring (expr.Binary op left right) env)
event-Binary occurring op left right env =
    let whole = fold-Binary Telling (node_telling occurring) op left right in
    ap (λ (told : Telling). told.event env) whole
    ∙ ap told_of (sym (ap (λ (told : Telling). told.value env) whole) ∙ has_value occurring (expr.Binary op left right) env)

-- ---- Effects

pub effect-Assign : (occurring : Occurring) (target : List ℕ) (value : Expr) (env : Environment)
    → effect_in occurring (line.Assign target value) env ≡ line_effect_in occurring (Line-F.Assign target value) env
effect-Assign occurring target value env =
    ap (λ (effect : Effect). effect env)
    (ap (effect_in occurring) (sym (rolls-Assign target value)) ∙ fold-roll-Line Effect (line_effect_in occurring) (Line-F.Assign target value))

pub effect-If : (occurring : Occurring) (condition : Expr) (then_lines : List Line) (env : Environment)
    → effect_in occurring (line.If condition then_lines None) env
    ≡ line_effect_in occurring (Line-F.If condition (map (effect_in occurring) then_lines) None) env
effect-If occurring condition then_lines env =
    ap (λ (effect : Effect). effect env)
    (ap (effect_in occurring) (sym (rolls-If condition then_lines None))
    ∙ fold-roll-Line Effect (line_effect_in occurring) (Line-F.If condition then_lines None))

pub ruleset event_meaning = (
  in-Number,
  in-Var,
  in-Binary,
  in-Present,
  event-Absent,
  event-Choose,
  event-Binary,
  effect-Assign,
  effect-If,
)
