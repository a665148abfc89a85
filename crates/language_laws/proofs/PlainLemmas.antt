-- The plain form of single nodes of an expression.
use Rattle.std.proofs.Common.{◌≡◌, ℕ, ◌+◌, ℤ, Bool, List, [], ◌∷◌, map, Option, Some, None, refl, ap, sym, subst, ◌∙◌}
use Rattle.std.specs.List.{sum}
use Rattle.std.specs.Option.{option_map}
use Rattle.unit_tree.specs.Costs.{node_cost, cost_of, else_cost, part_cost, line_cost}
use Rattle.unit_tree.specs.Names.{node_depth, depth_of}
use Rattle.unit_tree.specs.Plain.{node_plain, plain_expression, presence_name, node_plain_line, plain_line, Choices, node_choices, with_choices}
use Rattle.unit_tree.specs.declared.expr.BinOp.{BinOp}
use Rattle.unit_tree.specs.declared.expr.Expr as expr
use Rattle.unit_tree.specs.declared.expr.Expr.{Expr, fold-Expr}
use Rattle.unit_tree.specs.declared.expr.Expr.TheFolds.{ind-Expr, map-Expr}
use Rattle.unit_tree.specs.declared.expr.Expr.TheOpen.{Expr-F}
use Rattle.unit_tree.specs.declared.expr.Expr.TheVariants.{rolls-Number, rolls-Truth, rolls-Var, rolls-Time, rolls-Step, rolls-Unary, rolls-Binary, rolls-Clamp}
use Rattle.unit_tree.specs.declared.expr.Expr.TheVariants.{rolls-Choose, rolls-Absent, rolls-Present}
use Rattle.unit_tree.specs.declared.expr.Expr.TheViews.{roll-Expr}
use Rattle.unit_tree.specs.declared.expr.UnOp.{UnOp}
use Rattle.unit_tree.specs.declared.line.Line as line
use Rattle.unit_tree.specs.declared.line.Line.{Line}
use Rattle.unit_tree.specs.declared.line.Line.TheFolds.{ind-Line, map-Line}
use Rattle.unit_tree.specs.declared.line.Line.TheOpen.{Line-F}
use Rattle.unit_tree.specs.declared.line.Line.TheVariants.{rolls-Assign, rolls-If, rolls-Repeat, rolls-Accept}
use Rattle.unit_tree.specs.declared.line.Line.TheViews.{roll-Line}
use Rattle.unit_tree.proofs.FoldLemmas.{fold-Number, fold-Truth, fold-Var, fold-Time, fold-Step, fold-Unary, fold-Binary, fold-Clamp, fold-Choose, fold-Absent}
use Rattle.unit_tree.proofs.FoldLemmas.{fold-Present, fold-Assign, fold-If, fold-Repeat, fold-Accept}

-- ---- Node by node

pub plain-Number : (number : ℤ) (decimals : ℕ) → plain_expression (expr.Number number decimals) ≡ expr.Number number decimals
plain-Number number decimals = fold-Number Expr node_plain number decimals

pub plain-Truth : (told : Bool) → plain_expression (expr.Truth told) ≡ expr.Truth told
plain-Truth told = fold-Truth Expr node_plain told

pub plain-Var : (name : List ℕ) → plain_expression (expr.Var name) ≡ expr.Var name
plain-Var name = fold-Var Expr node_plain name

pub plain-Time : plain_expression expr.Time ≡ expr.Time
plain-Time = fold-Time Expr node_plain

pub plain-Step : plain_expression expr.Step ≡ expr.Step
plain-Step = fold-Step Expr node_plain

pub plain-Unary : (op : UnOp) (arg : Expr) → plain_expression (expr.Unary op arg) ≡ expr.Unary op (plain_expression arg)
plain-Unary op arg = fold-Unary Expr node_plain op arg

pub plain-Binary : (op : BinOp) (left right : Expr)
    → plain_expression (expr.Binary op left right) ≡ expr.Binary op (plain_expression left) (plain_expression right)
plain-Binary op left right = fold-Binary Expr node_plain op left right

pub plain-Clamp : (value low high : Expr)
    → plain_expression (expr.Clamp value low high) ≡ expr.Clamp (plain_expression value) (plain_expression low) (plain_expression high)
plain-Clamp value low high = fold-Clamp Expr node_plain value low high

pub plain-Choose : (cond then_part else_part : Expr)
    → plain_expression (expr.Choose cond then_part else_part) ≡ expr.Choose (plain_expression cond) (plain_expression then_part) (plain_expression else_part)
plain-Choose cond then_part else_part = fold-Choose Expr node_plain cond then_part else_part

pub plain-Absent : plain_expression expr.Absent ≡ expr.Absent
plain-Absent = fold-Absent Expr node_plain

pub plain-Present : (name : List ℕ) → plain_expression (expr.Present name) ≡ expr.Var (presence_name name)
plain-Present name = fold-Present Expr node_plain name

-- ---- Folds that the plain form does not change

-- A fold that gives the same for `present(u)` as for a name gives the same for the plain form.
abbrev pub Same : (A : Type 0) → (Expr-F A → A) → Expr → Type 0
Same A step value = fold-Expr A step (plain_expression value) ≡ fold-Expr A step value

abbrev pub SameOf : (A : Type 0) → (Expr-F A → A) → Type 0
SameOf A step = (value : Expr) × Same A step value

pub same-Unary : (A : Type 0) (step : Expr-F A → A) (op : UnOp) (arg : Expr) → Same A step arg → Same A step (expr.Unary op arg)
same-Unary A step op arg is =
    ap (fold-Expr A step) (plain-Unary op arg) ∙ fold-Unary A step op (plain_expression arg)
    ∙ ap (λ a. step (Expr-F.Unary op a)) is
    ∙ sym (fold-Unary A step op arg)

pub same-Binary : (A : Type 0) (step : Expr-F A → A) (op : BinOp) (left right : Expr) → Same A step left → Same A step right
    → Same A step (expr.Binary op left right)
same-Binary A step op left right on_left on_right =
    ap (fold-Expr A step) (plain-Binary op left right)
    ∙ fold-Binary A step op (plain_expression left) (plain_expression right)
    ∙ rw (on_left, on_right) (sym (fold-Binary A step op left right))

pub same-Clamp : (A : Type 0) (step : Expr-F A → A) (value low high : Expr) → Same A step value → Same A step low → Same A step high
    → Same A step (expr.Clamp value low high)
same-Clamp A step value low high on_value on_low on_high =
    ap (fold-Expr A step) (plain-Clamp value low high)
    ∙ fold-Clamp A step (plain_expression value) (plain_expression low) (plain_expression high)
    ∙ rw (on_value, on_low, on_high) (sym (fold-Clamp A step value low high))

pub same-Choose : (A : Type 0) (step : Expr-F A → A) (condition then_part else_part : Expr) → Same A step condition → Same A step then_part
    → Same A step else_part → Same A step (expr.Choose condition then_part else_part)
same-Choose A step condition then_part else_part on_condition on_then on_else =
    ap (fold-Expr A step) (plain-Choose condition then_part else_part)
    ∙ fold-Choose A step (plain_expression condition) (plain_expression then_part) (plain_expression else_part)
    ∙ rw (on_condition, on_then, on_else) (sym (fold-Choose A step condition then_part else_part))

abbrev pub of_same : (A : Type 0) (step : Expr-F A → A) → SameOf A step → Expr
of_same A step one = one.0

pub same_node : (A : Type 0) (step : Expr-F A → A) → ((name : List ℕ) → step (Expr-F.Var (presence_name name)) ≡ step (Expr-F.Present name))
    → (y : Expr-F (SameOf A step)) → Same A step (roll-Expr (map-Expr (SameOf A step) Expr (of_same A step) y))
same_node A step present (Expr-F.Number number decimals) =
    subst (Same A step) (sym (rolls-Number number decimals)) (ap (fold-Expr A step) (plain-Number number decimals))
same_node A step present (Expr-F.Truth told) = subst (Same A step) (sym (rolls-Truth told)) (ap (fold-Expr A step) (plain-Truth told))
same_node A step present (Expr-F.Var name) = subst (Same A step) (sym (rolls-Var name)) (ap (fold-Expr A step) (plain-Var name))
same_node A step present Expr-F.Time = subst (Same A step) (sym rolls-Time) (ap (fold-Expr A step) plain-Time)
same_node A step present Expr-F.Step = subst (Same A step) (sym rolls-Step) (ap (fold-Expr A step) plain-Step)
same_node A step present (Expr-F.Unary op arg) = subst (Same A step) (sym (rolls-Unary op arg.0)) (same-Unary A step op arg.0 arg.1)
same_node A step present (Expr-F.Binary op left right) =
    subst (Same A step) (sym (rolls-Binary op left.0 right.0)) (same-Binary A step op left.0 right.0 left.1 right.1)
same_node A step present (Expr-F.Clamp value low high) =
    subst (Same A step) (sym (rolls-Clamp value.0 low.0 high.0)) (same-Clamp A step value.0 low.0 high.0 value.1 low.1 high.1)
same_node A step present (Expr-F.Choose condition then_part else_part) =
    subst (Same A step) (sym (rolls-Choose condition.0 then_part.0 else_part.0))
    (same-Choose A step condition.0 then_part.0 else_part.0 condition.1 then_part.1 else_part.1)
same_node A step present Expr-F.Absent = subst (Same A step) (sym rolls-Absent) (ap (fold-Expr A step) plain-Absent)
same_node A step present (Expr-F.Present name) =
    subst (Same A step) (sym (rolls-Present name))
    (ap (fold-Expr A step) (plain-Present name) ∙ fold-Var A step (presence_name name) ∙ present name ∙ sym (fold-Present A step name))

pub same : (A : Type 0) (step : Expr-F A → A) → ((name : List ℕ) → step (Expr-F.Var (presence_name name)) ≡ step (Expr-F.Present name)) → (value : Expr)
    → Same A step value
same A step present = ind-Expr (Same A step) (λ x y is. subst (λ z. Same A step (roll-Expr z)) is (same_node A step present y))

-- The plain form is as deep as the expression, and costs as much.
pub plain_depth : (value : Expr) → depth_of (plain_expression value) ≡ depth_of value
plain_depth = same ℕ node_depth (λ name. refl)

pub plain_cost : (value : Expr) → cost_of (plain_expression value) ≡ cost_of value
plain_cost = same ℕ node_cost (λ name. refl)

-- ---- Step lines

abbrev pub SameCost : Line → Type 0
SameCost some = line_cost (plain_line some) ≡ line_cost some

abbrev pub Costed : Type 0
Costed = (some : Line) × SameCost some

abbrev pub line_in : Costed → Line
line_in one = one.0

pub same_costs : (lines : List Costed) → map line_cost (map plain_line (map line_in lines)) ≡ map line_cost (map line_in lines)
same_costs [] = refl
same_costs (one ∷ lines) = rw (one.1, same_costs lines) refl

pub cost-Assign : (target : List ℕ) (value : Expr) → SameCost (line.Assign target value)
cost-Assign target value =
    ap line_cost (fold-Assign Line node_plain_line target value) ∙ fold-Assign ℕ part_cost target (plain_expression value)
    ∙ ap (λ c. c + 1) (plain_cost value)
    ∙ sym (fold-Assign ℕ part_cost target value)

pub cost-Accept : (value : Expr) → SameCost (line.Accept value)
cost-Accept value =
    ap line_cost (fold-Accept Line node_plain_line value) ∙ fold-Accept ℕ part_cost (plain_expression value)
    ∙ ap (λ c. c + 1) (plain_cost value)
    ∙ sym (fold-Accept ℕ part_cost value)

pub cost-Repeat : (count : ℕ) (body : List Costed) → SameCost (line.Repeat count (map line_in body))
cost-Repeat count body =
    ap line_cost (fold-Repeat Line node_plain_line count (map line_in body)) ∙ fold-Repeat ℕ part_cost count (map plain_line (map line_in body))
    ∙ ap (λ costs. part_cost (Line-F.Repeat count costs)) (same_costs body)
    ∙ sym (fold-Repeat ℕ part_cost count (map line_in body))

pub same_else : (lines : Option (List Costed))
    → option_map (map line_cost) (option_map (map plain_line) (option_map (map line_in) lines)) ≡ option_map (map line_cost) (option_map (map line_in) lines)
same_else None = refl
same_else (Some lines) = ap Some (same_costs lines)

pub cost-If : (condition : Expr) (then_lines : List Costed) (else_lines : Option (List Costed))
    → SameCost (line.If condition (map line_in then_lines) (option_map (map line_in) else_lines))
cost-If condition then_lines else_lines =
    ap line_cost (fold-If Line node_plain_line condition (map line_in then_lines) (option_map (map line_in) else_lines))
    ∙ fold-If ℕ part_cost (plain_expression condition) (map plain_line (map line_in then_lines))
    (option_map (map plain_line) (option_map (map line_in) else_lines))
    ∙ ap (λ costs.
    part_cost (Line-F.If (plain_expression condition) costs (option_map (map line_cost) (option_map (map plain_line) (option_map (map line_in) else_lines)))))
    (same_costs then_lines)
    ∙ ap (λ costs. part_cost (Line-F.If (plain_expression condition) (map line_cost (map line_in then_lines)) costs)) (same_else else_lines)
    ∙ ap (λ c. c + 1 + sum (map line_cost (map line_in then_lines)) + else_cost (option_map (map line_cost) (option_map (map line_in) else_lines)))
    (plain_cost condition)
    ∙ sym (fold-If ℕ part_cost condition (map line_in then_lines) (option_map (map line_in) else_lines))

pub line_node : (y : Line-F Costed) → SameCost (roll-Line (map-Line Costed Line line_in y))
line_node (Line-F.Assign target value) = subst SameCost (sym (rolls-Assign target value)) (cost-Assign target value)
line_node (Line-F.If condition then_lines None) = subst SameCost (sym (rolls-If condition (map line_in then_lines) None)) (cost-If condition then_lines None)
line_node (Line-F.If condition then_lines (Some else_lines)) =
    subst SameCost (sym (rolls-If condition (map line_in then_lines) (Some (map line_in else_lines)))) (cost-If condition then_lines (Some else_lines))
line_node (Line-F.Repeat count body) = subst SameCost (sym (rolls-Repeat count (map line_in body))) (cost-Repeat count body)
line_node (Line-F.Accept value) = subst SameCost (sym (rolls-Accept value)) (cost-Accept value)

pub plain_line_cost : (some : Line) → line_cost (plain_line some) ≡ line_cost some
plain_line_cost = ind-Line SameCost (λ x y is. subst (λ z. SameCost (roll-Line z)) is (line_node y))

-- ---- By its choices

-- The expression that the fold keeps is the whole expression.
abbrev pub IsWhole : Expr → Type 0
IsWhole value = (gap : Expr) (change : Expr → Expr) → (fold-Expr Choices (node_choices gap change) value).whole ≡ value

abbrev pub Proved : Type 0
Proved = (value : Expr) × IsWhole value

abbrev pub bare : Proved → Expr
bare value = value.0

pub whole-Unary : (op : UnOp) (arg : Expr) → IsWhole arg → IsWhole (expr.Unary op arg)
whole-Unary op arg is gap change =
    ap (λ c. c.whole) (fold-Unary Choices (node_choices gap change) op arg) ∙ ap (expr.Unary op) (is gap change)

pub whole-Binary : (op : BinOp) (left right : Expr) → IsWhole left → IsWhole right → IsWhole (expr.Binary op left right)
whole-Binary op left right on_left on_right gap change =
    ap (λ c. c.whole) (fold-Binary Choices (node_choices gap change) op left right) ∙ rw (on_left gap change, on_right gap change) refl

pub whole-Clamp : (value low high : Expr) → IsWhole value → IsWhole low → IsWhole high → IsWhole (expr.Clamp value low high)
whole-Clamp value low high on_value on_low on_high gap change =
    ap (λ c. c.whole) (fold-Clamp Choices (node_choices gap change) value low high)
    ∙ rw (on_value gap change, on_low gap change, on_high gap change) refl

pub whole-Choose : (condition chosen_part other : Expr) → IsWhole condition → IsWhole chosen_part → IsWhole other
    → IsWhole (expr.Choose condition chosen_part other)
whole-Choose condition chosen_part other on_condition on_chosen on_other gap change =
    ap (λ c. c.whole) (fold-Choose Choices (node_choices gap change) condition chosen_part other)
    ∙ rw (on_condition gap change, on_chosen gap change, on_other gap change) refl

pub node : (y : Expr-F Proved) → IsWhole (roll-Expr (map-Expr Proved Expr bare y))
node (Expr-F.Number number decimals) =
    subst IsWhole (sym (rolls-Number number decimals)) (λ gap change. ap (λ c. c.whole) (fold-Number Choices (node_choices gap change) number decimals))
node (Expr-F.Truth told) = subst IsWhole (sym (rolls-Truth told)) (λ gap change. ap (λ c. c.whole) (fold-Truth Choices (node_choices gap change) told))
node (Expr-F.Var name) = subst IsWhole (sym (rolls-Var name)) (λ gap change. ap (λ c. c.whole) (fold-Var Choices (node_choices gap change) name))
node Expr-F.Time = subst IsWhole (sym rolls-Time) (λ gap change. ap (λ c. c.whole) (fold-Time Choices (node_choices gap change)))
node Expr-F.Step = subst IsWhole (sym rolls-Step) (λ gap change. ap (λ c. c.whole) (fold-Step Choices (node_choices gap change)))
node (Expr-F.Unary op arg) = subst IsWhole (sym (rolls-Unary op (bare arg))) (whole-Unary op (bare arg) arg.1)
node (Expr-F.Binary op left right) = subst IsWhole (sym (rolls-Binary op (bare left) (bare right))) (whole-Binary op (bare left) (bare right) left.1 right.1)
node (Expr-F.Clamp value low high) =
    subst IsWhole (sym (rolls-Clamp (bare value) (bare low) (bare high))) (whole-Clamp (bare value) (bare low) (bare high) value.1 low.1 high.1)
node (Expr-F.Choose condition then_part else_part) =
    subst IsWhole (sym (rolls-Choose (bare condition) (bare then_part) (bare else_part)))
    (whole-Choose (bare condition) (bare then_part) (bare else_part) condition.1 then_part.1 else_part.1)
node Expr-F.Absent = subst IsWhole (sym rolls-Absent) (λ gap change. ap (λ c. c.whole) (fold-Absent Choices (node_choices gap change)))
node (Expr-F.Present name) = subst IsWhole (sym (rolls-Present name)) (λ gap change. ap (λ c. c.whole) (fold-Present Choices (node_choices gap change) name))

pub whole : (value : Expr) → IsWhole value
whole = ind-Expr IsWhole (λ x y is. subst (λ z. IsWhole (roll-Expr z)) is (node y))

pub choices-Absent : (gap : Expr) (change : Expr → Expr) → with_choices gap change expr.Absent ≡ gap
choices-Absent gap change = ap (λ c. c.changed) (fold-Absent Choices (node_choices gap change))

pub choices-Choose : (gap : Expr) (change : Expr → Expr) (condition then_part else_part : Expr)
    → with_choices gap change (expr.Choose condition then_part else_part)
    ≡ expr.Choose condition (with_choices gap change then_part) (with_choices gap change else_part)
choices-Choose gap change condition then_part else_part =
    ap (λ c. c.changed) (fold-Choose Choices (node_choices gap change) condition then_part else_part)
    ∙ ap (λ first. expr.Choose first (with_choices gap change then_part) (with_choices gap change else_part)) (whole condition gap change)

pub choices-Number : (gap : Expr) (change : Expr → Expr) (number : ℤ) (decimals : ℕ)
    → with_choices gap change (expr.Number number decimals) ≡ change (expr.Number number decimals)
choices-Number gap change number decimals = ap (λ c. c.changed) (fold-Number Choices (node_choices gap change) number decimals)

pub choices-Truth : (gap : Expr) (change : Expr → Expr) (told : Bool) → with_choices gap change (expr.Truth told) ≡ change (expr.Truth told)
choices-Truth gap change told = ap (λ c. c.changed) (fold-Truth Choices (node_choices gap change) told)

pub choices-Var : (gap : Expr) (change : Expr → Expr) (name : List ℕ) → with_choices gap change (expr.Var name) ≡ change (expr.Var name)
choices-Var gap change name = ap (λ c. c.changed) (fold-Var Choices (node_choices gap change) name)

pub choices-Time : (gap : Expr) (change : Expr → Expr) → with_choices gap change expr.Time ≡ change expr.Time
choices-Time gap change = ap (λ c. c.changed) (fold-Time Choices (node_choices gap change))

pub choices-Step : (gap : Expr) (change : Expr → Expr) → with_choices gap change expr.Step ≡ change expr.Step
choices-Step gap change = ap (λ c. c.changed) (fold-Step Choices (node_choices gap change))

pub choices-Unary : (gap : Expr) (change : Expr → Expr) (op : UnOp) (arg : Expr) → with_choices gap change (expr.Unary op arg) ≡ change (expr.Unary op arg)
choices-Unary gap change op arg =
    ap (λ c. c.changed) (fold-Unary Choices (node_choices gap change) op arg) ∙ ap (λ a. change (expr.Unary op a)) (whole arg gap change)

pub choices-Binary : (gap : Expr) (change : Expr → Expr) (op : BinOp) (left right : Expr)
    → with_choices gap change (expr.Binary op left right) ≡ change (expr.Binary op left right)
choices-Binary gap change op left right =
    ap (λ c. c.changed) (fold-Binary Choices (node_choices gap change) op left right) ∙ rw (whole left gap change, whole right gap change) refl

pub choices-Clamp : (gap : Expr) (change : Expr → Expr) (value low high : Expr)
    → with_choices gap change (expr.Clamp value low high) ≡ change (expr.Clamp value low high)
choices-Clamp gap change value low high =
    ap (λ c. c.changed) (fold-Clamp Choices (node_choices gap change) value low high)
    ∙ rw (whole value gap change, whole low gap change, whole high gap change) refl

pub choices-Present : (gap : Expr) (change : Expr → Expr) (name : List ℕ) → with_choices gap change (expr.Present name) ≡ change (expr.Present name)
choices-Present gap change name = ap (λ c. c.changed) (fold-Present Choices (node_choices gap change) name)

-- Laws of measures that the plain form does not change.
pub ruleset plain_measures = (plain_depth, plain_cost, plain_line_cost)

-- Laws that give the plain form of an expression, node by node.
pub ruleset plain_laws = (
  plain-Number,
  plain-Truth,
  plain-Var,
  plain-Time,
  plain-Step,
  plain-Unary,
  plain-Binary,
  plain-Clamp,
  plain-Choose,
  plain-Absent,
  plain-Present,
  choices-Number,
  choices-Truth,
  choices-Var,
  choices-Time,
  choices-Step,
  choices-Unary,
  choices-Binary,
  choices-Clamp,
  choices-Choose,
  choices-Absent,
  choices-Present,
)
