-- Kinds: which kinds the operands of an operation must have, and which kind it gives. An expression has no kind where
-- an operand in it has a wrong one.
use Rattle.std.specs.Prelude.{ℕ, Bool, true, false, ◌&&◌, nat_eq, List, Option, Some, None, if◌then◌else◌}
use Rattle.std.specs.List.{list_all, flat_map}
use Rattle.std.specs.Option.{option_and_then}
use Rattle.fixed_words.specs.declared.types.Kind.{Kind}
use Rattle.fixed_words.specs.declared.types.Kind.TheVariants.{Int, Bool as Truth, Fixed}
use Rattle.unit_tree.specs.Parts.{line_forms}
use Rattle.unit_tree.specs.Values.{kind_of_number}
use Rattle.unit_tree.specs.declared.expr.BinOp.{BinOp}
use Rattle.unit_tree.specs.declared.expr.BinOp.TheVariants as by
use Rattle.unit_tree.specs.declared.expr.Expr.{Expr, fold-Expr}
use Rattle.unit_tree.specs.declared.expr.Expr.TheOpen.{Expr-F}
use Rattle.unit_tree.specs.declared.expr.UnOp.{UnOp}
use Rattle.unit_tree.specs.declared.expr.UnOp.TheVariants as of
use Rattle.unit_tree.specs.declared.line.Line.{Line}
use Rattle.unit_tree.specs.declared.line_form.LineForm.{LineForm}
use Rattle.unit_tree.specs.declared.line_form.LineForm.TheVariants as form

-- Whether two kinds are equal. Int and fixed point without decimals are different kinds.
abbrev pub same_kind : Kind → Kind → Bool
same_kind Int Int = true
same_kind Truth Truth = true
same_kind (Fixed m) (Fixed n) = nat_eq m n
same_kind _ _ = false

abbrev pub is_number : Kind → Bool
is_number Truth = false
is_number _ = true

abbrev pub is_fixed : Kind → Bool
is_fixed (Fixed decimals) = true
is_fixed _ = false

-- The kind if the test holds, else none.
abbrev pub where_holds : Bool → Kind → Option Kind
where_holds test kind = if test then Some kind else None

abbrev pub unary_kind : UnOp → Kind → Option Kind
unary_kind of.Neg x = where_holds (is_number x) x
unary_kind of.Abs x = where_holds (is_number x) x
unary_kind of.Not x = where_holds (same_kind x Truth) Truth
unary_kind of.ToInt x = Some Int
unary_kind (of.ToFix decimals) x = where_holds (is_number x) (Fixed decimals)

abbrev pub binary_kind : BinOp → Kind → Kind → Option Kind
binary_kind by.Slash x y = where_holds (same_kind x y && is_fixed x) x
binary_kind by.Div x y = where_holds (same_kind x Int && same_kind y Int) Int
binary_kind by.Mod x y = where_holds (same_kind x Int && same_kind y Int) Int
binary_kind by.Eq x y = where_holds (same_kind x y) Truth
binary_kind by.Ne x y = where_holds (same_kind x y) Truth
binary_kind by.Lt x y = where_holds (same_kind x y && is_number x) Truth
binary_kind by.Le x y = where_holds (same_kind x y && is_number x) Truth
binary_kind by.Gt x y = where_holds (same_kind x y && is_number x) Truth
binary_kind by.Ge x y = where_holds (same_kind x y && is_number x) Truth
binary_kind by.And x y = where_holds (same_kind x Truth && same_kind y Truth) Truth
binary_kind by.Or x y = where_holds (same_kind x Truth && same_kind y Truth) Truth
binary_kind _ x y = where_holds (same_kind x y && is_number x) x

-- The kind of each name; `None` for a name that is not declared.
abbrev pub KindsOfNames : Type 0
KindsOfNames = List ℕ → Option Kind

abbrev pub Kinding : Type 0
Kinding = KindsOfNames → Option Kind

-- One node, whose parts are given as their kinds. `absent` has no kind of its own.
abbrev pub node_kind : Expr-F Kinding → Kinding
node_kind (Expr-F.Number word decimals) names = Some (kind_of_number decimals)
node_kind (Expr-F.Truth told) names = Some Truth
node_kind (Expr-F.Var name) names = names name
node_kind Expr-F.Time names = Some Int
node_kind Expr-F.Step names = Some Int
node_kind (Expr-F.Unary op arg) names = option_and_then (unary_kind op) (arg names)
node_kind (Expr-F.Binary op left right) names =
    option_and_then (λ x. option_and_then (binary_kind op x) (right names)) (left names)
node_kind (Expr-F.Clamp value low high) names =
    option_and_then
    (λ x. option_and_then (λ l. option_and_then (λ h. where_holds (same_kind x l && (same_kind x h && is_number x)) x) (high names)) (low names))
    (value names)
node_kind (Expr-F.Choose cond then_part else_part) names =
    option_and_then
    (λ c. option_and_then (λ x. option_and_then (λ y. where_holds (same_kind c Truth && same_kind x y) x) (else_part names)) (then_part names))
    (cond names)
node_kind Expr-F.Absent names = None
node_kind (Expr-F.Present name) names = Some Truth

-- The kind of an expression, where each operand has the kind that its operation requires.
abbrev pub kind_of_expression : Expr → Kinding
kind_of_expression = fold-Expr Kinding node_kind

-- ---- Step lines

-- Whether both kinds are there and are equal. A name that is not declared has no kind.
abbrev pub is_of_kind : Option Kind → Option Kind → Bool
is_of_kind (Some x) (Some y) = same_kind x y
is_of_kind _ _ = false

-- A test of whether lines have the right kinds, given the kinds of names.
abbrev pub KindTest : Type 0
KindTest = KindsOfNames → Bool

-- Whether an expression has the required kind, and each operand in it the kind that its operation requires.
abbrev pub has_kind : Option Kind → Expr → KindTest
has_kind asked value names = is_of_kind (kind_of_expression value names) asked

-- Whether a step line has the right kinds: the value of an assignment has its target's kind, a condition is Bool, and
-- an accepted length is Int.
abbrev pub line_is_kinded : LineForm → KindTest
line_is_kinded (form.Assign target value) names = has_kind (names target) value names
line_is_kinded (form.If cond) names = has_kind (Some Truth) cond names
line_is_kinded (form.Accept value) names = has_kind (Some Int) value names
line_is_kinded _ names = true

-- Whether every line of a step has the right kinds, also the lines of its blocks.
abbrev pub lines_are_kinded : List Line → KindTest
lines_are_kinded lines names = list_all (λ line. line_is_kinded line names) (flat_map line_forms lines)
