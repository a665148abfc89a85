-- Worked kinds and costs of expressions and step lines.
use Rattle.std.specs.Prelude.{◌≡◌, Bool, true, false, [], ◌∷◌, codes, if◌then◌else◌, Option, Some, None, pos}
use Rattle.std.specs.Str.{bytes_eq}
use Rattle.fixed_words.specs.declared.types.Kind.{Kind}
use Rattle.fixed_words.specs.declared.types.Kind.TheVariants.{Int, Bool as Truth, Fixed}
use Rattle.unit_tree.specs.Costs.{cost_of, line_cost, expression_call_cost, step_call_cost}
use Rattle.unit_tree.specs.Kinds.{KindsOfNames, kind_of_expression, lines_are_kinded}
use Rattle.unit_tree.specs.declared.expr.BinOp.TheVariants as by
use Rattle.unit_tree.specs.declared.expr.Expr as expr
use Rattle.unit_tree.specs.declared.expr.Expr.{Expr}
use Rattle.unit_tree.specs.declared.expr.UnOp.TheVariants as of
use Rattle.unit_tree.specs.declared.line.Line as line
use Rattle.unit_tree.specs.declared.line.Line.{Line}

-- ---- Three names and two numbers

-- `n` is Int, `p` is Bool and `x` is Fixed 2; nothing else is declared.
abbrev pub declared_kinds : KindsOfNames
declared_kinds name =
    if bytes_eq name (codes "n") then Some Int else
    (if bytes_eq name (codes "p") then Some Truth else (if bytes_eq name (codes "x") then Some (Fixed 2) else None))

abbrev pub n : Expr
n = expr.Var (codes "n")

abbrev pub p : Expr
p = expr.Var (codes "p")

abbrev pub x : Expr
x = expr.Var (codes "x")

-- `1`
abbrev pub one : Expr
one = expr.Number (pos 1) 0

-- `0.5`
abbrev pub half : Expr
half = expr.Number (pos 5) 1

-- `n := n + 1`
abbrev pub count_up : Line
count_up = line.Assign (codes "n") (expr.Binary by.Add n one)

-- ---- Kinds

abbrev pub kind_here : Expr → Option Kind
kind_here e = kind_of_expression e declared_kinds

abbrev pub is_kinded_here : Line → Bool
is_kinded_here l = lines_are_kinded (l ∷ []) declared_kinds

-- The kinds of the results of operations.
pub record KindsAreWorked : Type 0 where
  pub sum : kind_here (expr.Binary by.Add n one) ≡ Some Int
  pub product : kind_here (expr.Binary by.Mul x x) ≡ Some (Fixed 2)
  pub ratio : kind_here (expr.Binary by.Slash x x) ≡ Some (Fixed 2)
  pub quotient : kind_here (expr.Binary by.Div n expr.Time) ≡ Some Int
  pub order : kind_here (expr.Binary by.Lt n expr.Step) ≡ Some Truth
  pub equal_truths : kind_here (expr.Binary by.Eq p (expr.Truth true)) ≡ Some Truth
  pub whole_of_truth : kind_here (expr.Unary of.ToInt p) ≡ Some Int
  pub rescaled : kind_here (expr.Unary (of.ToFix 3) x) ≡ Some (Fixed 3)
  pub clamped : kind_here (expr.Clamp x x x) ≡ Some (Fixed 2)
  pub chosen : kind_here (expr.Choose (expr.Unary of.Not p) n one) ≡ Some Int

-- An operation has no kind where an operand is of a kind that it does not take, or of another kind than the other operand. Then the
-- expression around it has none either. A name that is not declared has no kind.
pub record WrongKindsAreWorked : Type 0 where
  pub sum_of_other_decimals : kind_here (expr.Binary by.Add x half) ≡ None
  pub sum_of_truths : kind_here (expr.Binary by.Add p p) ≡ None
  pub negated_truth : kind_here (expr.Unary of.Neg p) ≡ None
  pub magnitude_of_truth : kind_here (expr.Unary of.Abs p) ≡ None
  pub ratio_of_ints : kind_here (expr.Binary by.Slash n n) ≡ None
  pub quotient_of_fixed : kind_here (expr.Binary by.Div x x) ≡ None
  pub remainder_of_fixed : kind_here (expr.Binary by.Mod x x) ≡ None
  pub order_of_truths : kind_here (expr.Binary by.Lt p p) ≡ None
  pub int_equal_to_truth : kind_here (expr.Binary by.Eq n p) ≡ None
  pub conjunction_with_int : kind_here (expr.Binary by.And p n) ≡ None
  pub disjunction_of_ints : kind_here (expr.Binary by.Or n n) ≡ None
  pub not_of_int : kind_here (expr.Unary of.Not n) ≡ None
  pub fixed_of_truth : kind_here (expr.Unary (of.ToFix 2) p) ≡ None
  pub clamped_by_fixed : kind_here (expr.Clamp n one x) ≡ None
  pub clamped_truth : kind_here (expr.Clamp p p p) ≡ None
  pub chosen_by_int : kind_here (expr.Choose n one one) ≡ None
  pub chosen_of_two_kinds : kind_here (expr.Choose p n x) ≡ None
  pub undeclared : kind_here (expr.Var (codes "y")) ≡ None
  pub wrong_inside : kind_here (expr.Binary by.Add one (expr.Binary by.Slash n n)) ≡ None

-- The step lines that have the right kinds.
pub record LineKindsAreWorked : Type 0 where
  pub assignment_of_int_to_fixed : is_kinded_here (line.Assign (codes "x") one) ≡ false
  pub assignment_to_undeclared : is_kinded_here (line.Assign (codes "y") one) ≡ false
  pub acceptance : is_kinded_here (line.Accept expr.Step) ≡ true
  pub acceptance_of_fixed : is_kinded_here (line.Accept x) ≡ false
  pub wrong_in_then : is_kinded_here (line.If p (line.Accept x ∷ []) (Some (count_up ∷ []))) ≡ false
  pub right_in_blocks : is_kinded_here (line.Repeat 2 (line.If p (count_up ∷ []) (Some (count_up ∷ [])) ∷ [])) ≡ true
  pub wrong_in_blocks : is_kinded_here (line.Repeat 2 (line.If p (count_up ∷ []) (Some (line.Accept x ∷ [])) ∷ [])) ≡ false
  pub second_line_wrong : lines_are_kinded (count_up ∷ line.Accept p ∷ []) declared_kinds ≡ false

-- ---- Costs

-- The cost of each form of expression, line and call.
pub record CostsAreWorked : Type 0 where
  pub leaf : cost_of (expr.Truth true) ≡ 1
  pub clamp : cost_of (expr.Clamp n one expr.Step) ≡ 4
  pub choice : cost_of (expr.Choose p n one) ≡ 5
  pub nested : cost_of (expr.Choose (expr.Binary by.Lt n one) (expr.Unary of.Abs n) (expr.Binary by.Mul n (expr.Binary by.Sub n one))) ≡ 12
  pub assignment : line_cost count_up ≡ 4
  pub acceptance : line_cost (line.Accept expr.Step) ≡ 2
  pub without_else : line_cost (line.If p (count_up ∷ []) None) ≡ 6
  pub with_else : line_cost (line.If p (count_up ∷ []) (Some (line.Accept expr.Step ∷ []))) ≡ 9
  pub empty_else : line_cost (line.If p (count_up ∷ []) (Some [])) ≡ 7
  pub repeated : line_cost (line.Repeat 3 (count_up ∷ [])) ≡ 16
  pub repeated_nothing : line_cost (line.Repeat 5 []) ≡ 6
  pub blocks_in_blocks : line_cost (line.Repeat 2 (line.If p (count_up ∷ []) (Some (line.Repeat 3 (count_up ∷ []) ∷ [])) ∷ [])) ≡ 49
  pub expression_call : expression_call_cost (expr.Binary by.Add n one) ≡ 4
  pub step_call : step_call_cost (count_up ∷ line.Accept expr.Step ∷ []) ≡ 7
