-- The result of a fold at one node of a tree, from its results for the parts.
use Rattle.std.proofs.Common.{◌≡◌, ℕ, ℤ, Bool, List, Option, Some, None, map, sym, ap, ◌∙◌}
use Rattle.std.specs.Option.{option_map}
use Rattle.unit_tree.specs.declared.expr.BinOp.{BinOp}
use Rattle.unit_tree.specs.declared.expr.Expr as expr
use Rattle.unit_tree.specs.declared.expr.Expr.{Expr, fold-Expr, the_lemmas as expr_lemmas}
use Rattle.unit_tree.specs.declared.expr.Expr.TheFolds.{fold-roll-Expr}
use Rattle.unit_tree.specs.declared.expr.Expr.TheOpen.{Expr-F}
use Rattle.unit_tree.specs.declared.expr.Expr.TheVariants.{rolls-Number, rolls-Truth, rolls-Var, rolls-Time, rolls-Step, rolls-Unary, rolls-Binary, rolls-Clamp}
use Rattle.unit_tree.specs.declared.expr.Expr.TheVariants.{rolls-Choose, rolls-Absent, rolls-Present}
use Rattle.unit_tree.specs.declared.expr.UnOp.{UnOp}
use Rattle.unit_tree.specs.declared.line.Line as line
use Rattle.unit_tree.specs.declared.line.Line.{Line, fold-Line, the_lemmas as line_lemmas}
use Rattle.unit_tree.specs.declared.line.Line.TheFolds.{fold-roll-Line}
use Rattle.unit_tree.specs.declared.line.Line.TheOpen.{Line-F}
use Rattle.unit_tree.specs.declared.line.Line.TheVariants.{rolls-Assign, rolls-If, rolls-Repeat, rolls-Accept}

-- ---- Expressions

pub fold-Number : (A : Type 0) (step : Expr-F A → A) (word : ℤ) (decimals : ℕ)
    → fold-Expr A step (expr.Number word decimals) ≡ step (Expr-F.Number word decimals)
fold-Number A step word decimals = ap (fold-Expr A step) (sym (rolls-Number word decimals)) ∙ fold-roll-Expr A step (Expr-F.Number word decimals)

pub fold-Var : (A : Type 0) (step : Expr-F A → A) (name : List ℕ) → fold-Expr A step (expr.Var name) ≡ step (Expr-F.Var name)
fold-Var A step name = ap (fold-Expr A step) (sym (rolls-Var name)) ∙ fold-roll-Expr A step (Expr-F.Var name)

pub fold-Binary : (A : Type 0) (step : Expr-F A → A) (op : BinOp) (left right : Expr)
    → fold-Expr A step (expr.Binary op left right) ≡ step (Expr-F.Binary op (fold-Expr A step left) (fold-Expr A step right))
fold-Binary A step op left right = ap (fold-Expr A step) (sym (rolls-Binary op left right)) ∙ fold-roll-Expr A step (Expr-F.Binary op left right)

pub fold-Truth : (A : Type 0) (step : Expr-F A → A) (told : Bool) → fold-Expr A step (expr.Truth told) ≡ step (Expr-F.Truth told)
fold-Truth A step told = ap (fold-Expr A step) (sym (rolls-Truth told)) ∙ fold-roll-Expr A step (Expr-F.Truth told)

pub fold-Time : (A : Type 0) (step : Expr-F A → A) → fold-Expr A step expr.Time ≡ step Expr-F.Time
fold-Time A step = ap (fold-Expr A step) (sym rolls-Time) ∙ fold-roll-Expr A step Expr-F.Time

pub fold-Step : (A : Type 0) (step : Expr-F A → A) → fold-Expr A step expr.Step ≡ step Expr-F.Step
fold-Step A step = ap (fold-Expr A step) (sym rolls-Step) ∙ fold-roll-Expr A step Expr-F.Step

pub fold-Unary : (A : Type 0) (step : Expr-F A → A) (op : UnOp) (arg : Expr)
    → fold-Expr A step (expr.Unary op arg) ≡ step (Expr-F.Unary op (fold-Expr A step arg))
fold-Unary A step op arg = ap (fold-Expr A step) (sym (rolls-Unary op arg)) ∙ fold-roll-Expr A step (Expr-F.Unary op arg)

pub fold-Clamp : (A : Type 0) (step : Expr-F A → A) (value low high : Expr)
    → fold-Expr A step (expr.Clamp value low high) ≡ step (Expr-F.Clamp (fold-Expr A step value) (fold-Expr A step low) (fold-Expr A step high))
fold-Clamp A step value low high = ap (fold-Expr A step) (sym (rolls-Clamp value low high)) ∙ fold-roll-Expr A step (Expr-F.Clamp value low high)

pub fold-Choose : (A : Type 0) (step : Expr-F A → A) (cond then_part else_part : Expr)
    → fold-Expr A step (expr.Choose cond then_part else_part)
    ≡ step (Expr-F.Choose (fold-Expr A step cond) (fold-Expr A step then_part) (fold-Expr A step else_part))
fold-Choose A step cond then_part else_part = ap (fold-Expr A step) (sym (rolls-Choose cond then_part else_part))
    ∙ fold-roll-Expr A step (Expr-F.Choose cond then_part else_part)

pub fold-Absent : (A : Type 0) (step : Expr-F A → A) → fold-Expr A step expr.Absent ≡ step Expr-F.Absent
fold-Absent A step = ap (fold-Expr A step) (sym rolls-Absent) ∙ fold-roll-Expr A step Expr-F.Absent

pub fold-Present : (A : Type 0) (step : Expr-F A → A) (name : List ℕ) → fold-Expr A step (expr.Present name) ≡ step (Expr-F.Present name)
fold-Present A step name = ap (fold-Expr A step) (sym (rolls-Present name)) ∙ fold-roll-Expr A step (Expr-F.Present name)

-- ---- Step lines

pub fold-Assign : (A : Type 0) (step : Line-F A → A) (target : List ℕ) (value : Expr)
    → fold-Line A step (line.Assign target value) ≡ step (Line-F.Assign target value)
fold-Assign A step target value = ap (fold-Line A step) (sym (rolls-Assign target value)) ∙ fold-roll-Line A step (Line-F.Assign target value)

pub fold-IfElse : (A : Type 0) (step : Line-F A → A) (cond : Expr) (then_lines else_lines : List Line)
    → fold-Line A step (line.If cond then_lines (Some else_lines))
    ≡ step (Line-F.If cond (map (fold-Line A step) then_lines) (Some (map (fold-Line A step) else_lines)))
fold-IfElse A step cond then_lines else_lines =
    ap (fold-Line A step) (sym (rolls-If cond then_lines (Some else_lines))) ∙ fold-roll-Line A step (Line-F.If cond then_lines (Some else_lines))

pub fold-If : (A : Type 0) (step : Line-F A → A) (cond : Expr) (then_lines : List Line) (else_lines : Option (List Line))
    → fold-Line A step (line.If cond then_lines else_lines)
    ≡ step (Line-F.If cond (map (fold-Line A step) then_lines) (option_map (map (fold-Line A step)) else_lines))
fold-If A step cond then_lines None = ap (fold-Line A step) (sym (rolls-If cond then_lines None)) ∙ fold-roll-Line A step (Line-F.If cond then_lines None)
fold-If A step cond then_lines (Some else_lines) = fold-IfElse A step cond then_lines else_lines

pub fold-Repeat : (A : Type 0) (step : Line-F A → A) (count : ℕ) (body : List Line)
    → fold-Line A step (line.Repeat count body) ≡ step (Line-F.Repeat count (map (fold-Line A step) body))
fold-Repeat A step count body = ap (fold-Line A step) (sym (rolls-Repeat count body)) ∙ fold-roll-Line A step (Line-F.Repeat count body)

pub fold-Accept : (A : Type 0) (step : Line-F A → A) (value : Expr) → fold-Line A step (line.Accept value) ≡ step (Line-F.Accept value)
fold-Accept A step value = ap (fold-Line A step) (sym (rolls-Accept value)) ∙ fold-roll-Line A step (Line-F.Accept value)

-- The laws that unfold folds of expressions and lines down to their leaves.
pub ruleset fold_laws = (expr_lemmas, line_lemmas)
