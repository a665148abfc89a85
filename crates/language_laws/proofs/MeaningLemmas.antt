-- The value of single nodes and the effect of single lines, in an environment that is given.
use Rattle.std.proofs.Common.{◌≡◌, ℕ, ℤ, Bool, List, map, Some, None, ap, sym, ◌∙◌}
use Rattle.unit_tree.specs.Effects.{Effect, line_effect, effect_of}
use Rattle.unit_tree.specs.Values.{Meaning, node_meaning, value_of}
use Rattle.unit_tree.specs.declared.environment.Environment.{Environment}
use Rattle.unit_tree.specs.declared.expr.BinOp.{BinOp}
use Rattle.unit_tree.specs.declared.expr.Expr as expr
use Rattle.unit_tree.specs.declared.expr.Expr.{Expr}
use Rattle.unit_tree.specs.declared.expr.Expr.TheOpen.{Expr-F}
use Rattle.unit_tree.specs.declared.expr.UnOp.{UnOp}
use Rattle.unit_tree.specs.declared.line.Line as line
use Rattle.unit_tree.specs.declared.line.Line.{Line}
use Rattle.unit_tree.specs.declared.line.Line.TheFolds.{fold-roll-Line}
use Rattle.unit_tree.specs.declared.line.Line.TheOpen.{Line-F}
use Rattle.unit_tree.specs.declared.line.Line.TheVariants.{rolls-Assign, rolls-If, rolls-Repeat, rolls-Accept}
use Rattle.unit_tree.proofs.FoldLemmas.{fold-Number, fold-Truth, fold-Var, fold-Time, fold-Step, fold-Unary, fold-Binary, fold-Clamp, fold-Choose}

pub value-Number : (number : ℤ) (decimals : ℕ) (env : Environment)
    → value_of (expr.Number number decimals) env ≡ node_meaning (Expr-F.Number number decimals) env
value-Number number decimals env = ap (λ (meaning : Meaning). meaning env) (fold-Number Meaning node_meaning number decimals)

pub value-Truth : (told : Bool) (env : Environment) → value_of (expr.Truth told) env ≡ node_meaning (Expr-F.Truth told) env
value-Truth told env = ap (λ (meaning : Meaning). meaning env) (fold-Truth Meaning node_meaning told)

pub value-Var : (name : List ℕ) (env : Environment) → value_of (expr.Var name) env ≡ node_meaning (Expr-F.Var name) env
value-Var name env = ap (λ (meaning : Meaning). meaning env) (fold-Var Meaning node_meaning name)

pub value-Time : (env : Environment) → value_of expr.Time env ≡ node_meaning Expr-F.Time env
value-Time env = ap (λ (meaning : Meaning). meaning env) (fold-Time Meaning node_meaning)

pub value-Step : (env : Environment) → value_of expr.Step env ≡ node_meaning Expr-F.Step env
value-Step env = ap (λ (meaning : Meaning). meaning env) (fold-Step Meaning node_meaning)

pub value-Unary : (op : UnOp) (arg : Expr) (env : Environment) → value_of (expr.Unary op arg) env ≡ node_meaning (Expr-F.Unary op (value_of arg)) env
value-Unary op arg env = ap (λ (meaning : Meaning). meaning env) (fold-Unary Meaning node_meaning op arg)

pub value-Binary : (op : BinOp) (left right : Expr) (env : Environment)
    → value_of (expr.Binary op left right) env ≡ node_meaning (Expr-F.Binary op (value_of left) (value_of right)) env
value-Binary op left right env = ap (λ (meaning : Meaning). meaning env) (fold-Binary Meaning node_meaning op left right)

pub value-Clamp : (value low high : Expr) (env : Environment)
    → value_of (expr.Clamp value low high) env ≡ node_meaning (Expr-F.Clamp (value_of value) (value_of low) (value_of high)) env
value-Clamp value low high env = ap (λ (meaning : Meaning). meaning env) (fold-Clamp Meaning node_meaning value low high)

pub value-Choose : (cond then_part else_part : Expr) (env : Environment)
    → value_of (expr.Choose cond then_part else_part) env ≡ node_meaning (Expr-F.Choose (value_of cond) (value_of then_part) (value_of else_part)) env
value-Choose cond then_part else_part env = ap (λ (meaning : Meaning). meaning env) (fold-Choose Meaning node_meaning cond then_part else_part)

pub effect-Assign : (target : List ℕ) (value : Expr) (env : Environment)
    → effect_of (line.Assign target value) env ≡ line_effect (Line-F.Assign target value) env
effect-Assign target value env =
    ap (λ (effect : Effect). effect env) (ap effect_of (sym (rolls-Assign target value)) ∙ fold-roll-Line Effect line_effect (Line-F.Assign target value))

pub effect-Accept : (value : Expr) (env : Environment) → effect_of (line.Accept value) env ≡ line_effect (Line-F.Accept value) env
effect-Accept value env =
    ap (λ (effect : Effect). effect env) (ap effect_of (sym (rolls-Accept value)) ∙ fold-roll-Line Effect line_effect (Line-F.Accept value))

pub effect-Repeat : (count : ℕ) (body : List Line) (env : Environment)
    → effect_of (line.Repeat count body) env ≡ line_effect (Line-F.Repeat count (map effect_of body)) env
effect-Repeat count body env =
    ap (λ (effect : Effect). effect env) (ap effect_of (sym (rolls-Repeat count body)) ∙ fold-roll-Line Effect line_effect (Line-F.Repeat count body))

pub effect-If : (cond : Expr) (then_lines : List Line) (env : Environment)
    → effect_of (line.If cond then_lines None) env ≡ line_effect (Line-F.If cond (map effect_of then_lines) None) env
effect-If cond then_lines env =
    ap (λ (effect : Effect). effect env)
    (ap effect_of (sym (rolls-If cond then_lines None)) ∙ fold-roll-Line Effect line_effect (Line-F.If cond then_lines None))

pub effect-IfElse : (cond : Expr) (then_lines else_lines : List Line) (env : Environment)
    → effect_of (line.If cond then_lines (Some else_lines)) env ≡ line_effect (Line-F.If cond (map effect_of then_lines) (Some (map effect_of else_lines))) env
effect-IfElse cond then_lines else_lines env =
    ap (λ (effect : Effect). effect env)
    (ap effect_of (sym (rolls-If cond then_lines (Some else_lines))) ∙ fold-roll-Line Effect line_effect (Line-F.If cond then_lines (Some else_lines)))

pub ruleset meaning_laws = (
  value-Number,
  value-Truth,
  value-Var,
  value-Time,
  value-Step,
  value-Unary,
  value-Binary,
  value-Clamp,
  value-Choose,
  effect-Assign,
  effect-Accept,
  effect-Repeat,
  effect-If,
  effect-IfElse,
)
