-- The kind of single nodes, with the kinds of names given.
use Rattle.std.proofs.Common.{◌≡◌, ℕ, ℤ, Bool, List, ap}
use Rattle.unit_tree.specs.Kinds.{KindsOfNames, Kinding, node_kind, kind_of_expression}
use Rattle.unit_tree.specs.declared.expr.BinOp.{BinOp}
use Rattle.unit_tree.specs.declared.expr.Expr as expr
use Rattle.unit_tree.specs.declared.expr.Expr.{Expr}
use Rattle.unit_tree.specs.declared.expr.Expr.TheOpen.{Expr-F}
use Rattle.unit_tree.specs.declared.expr.UnOp.{UnOp}
use Rattle.unit_tree.proofs.FoldLemmas.{fold-Number, fold-Truth, fold-Var, fold-Time, fold-Step, fold-Unary, fold-Binary, fold-Clamp, fold-Choose, fold-Absent}
use Rattle.unit_tree.proofs.FoldLemmas.{fold-Present}

pub kind-Number : (number : ℤ) (decimals : ℕ) (names : KindsOfNames)
    → kind_of_expression (expr.Number number decimals) names ≡ node_kind (Expr-F.Number number decimals) names
kind-Number number decimals names = ap (λ (kinding : Kinding). kinding names) (fold-Number Kinding node_kind number decimals)

pub kind-Truth : (told : Bool) (names : KindsOfNames) → kind_of_expression (expr.Truth told) names ≡ node_kind (Expr-F.Truth told) names
kind-Truth told names = ap (λ (kinding : Kinding). kinding names) (fold-Truth Kinding node_kind told)

pub kind-Var : (name : List ℕ) (names : KindsOfNames) → kind_of_expression (expr.Var name) names ≡ names name
kind-Var name names = ap (λ (kinding : Kinding). kinding names) (fold-Var Kinding node_kind name)

pub kind-Unary : (op : UnOp) (arg : Expr) (names : KindsOfNames)
    → kind_of_expression (expr.Unary op arg) names ≡ node_kind (Expr-F.Unary op (kind_of_expression arg)) names
kind-Unary op arg names = ap (λ (kinding : Kinding). kinding names) (fold-Unary Kinding node_kind op arg)

pub kind-Binary : (op : BinOp) (left right : Expr) (names : KindsOfNames)
    → kind_of_expression (expr.Binary op left right) names ≡ node_kind (Expr-F.Binary op (kind_of_expression left) (kind_of_expression right)) names
kind-Binary op left right names = ap (λ (kinding : Kinding). kinding names) (fold-Binary Kinding node_kind op left right)

pub kind-Time : (names : KindsOfNames) → kind_of_expression expr.Time names ≡ node_kind Expr-F.Time names
kind-Time names = ap (λ (kinding : Kinding). kinding names) (fold-Time Kinding node_kind)

pub kind-Step : (names : KindsOfNames) → kind_of_expression expr.Step names ≡ node_kind Expr-F.Step names
kind-Step names = ap (λ (kinding : Kinding). kinding names) (fold-Step Kinding node_kind)

pub kind-Clamp : (value low high : Expr) (names : KindsOfNames)
    → kind_of_expression (expr.Clamp value low high) names
    ≡ node_kind (Expr-F.Clamp (kind_of_expression value) (kind_of_expression low) (kind_of_expression high)) names
kind-Clamp value low high names = ap (λ (kinding : Kinding). kinding names) (fold-Clamp Kinding node_kind value low high)

pub kind-Choose : (cond then_part else_part : Expr) (names : KindsOfNames)
    → kind_of_expression (expr.Choose cond then_part else_part) names
    ≡ node_kind (Expr-F.Choose (kind_of_expression cond) (kind_of_expression then_part) (kind_of_expression else_part)) names
kind-Choose cond then_part else_part names = ap (λ (kinding : Kinding). kinding names) (fold-Choose Kinding node_kind cond then_part else_part)

pub kind-Absent : (names : KindsOfNames) → kind_of_expression expr.Absent names ≡ node_kind Expr-F.Absent names
kind-Absent names = ap (λ (kinding : Kinding). kinding names) (fold-Absent Kinding node_kind)

pub kind-Present : (name : List ℕ) (names : KindsOfNames) → kind_of_expression (expr.Present name) names ≡ node_kind (Expr-F.Present name) names
kind-Present name names = ap (λ (kinding : Kinding). kinding names) (fold-Present Kinding node_kind name)

pub ruleset kind_laws = (kind-Number, kind-Truth, kind-Var, kind-Time, kind-Step, kind-Unary, kind-Binary, kind-Clamp, kind-Choose, kind-Absent, kind-Present)
