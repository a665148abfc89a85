-- An event output, by the choices of its expression: the kind of its word, and the depth and cost of its two plain
-- outputs.
use Rattle.std.proofs.Common.{◌≡◌, ℕ, zero, suc, ◌+◌, pos, Bool, false, ◌&&◌, Some, max, min, nat_le, refl, ap, sym, subst, ◌∙◌, arith}
use Rattle.fixed_words.specs.Types.{kind_of}
use Rattle.fixed_words.specs.declared.types.Ty.{Ty}
use Rattle.fixed_words.specs.declared.types.Ty.TheVariants as types
use Rattle.unit_names.specs.Choices.{choice_kind}
use Rattle.unit_tree.specs.Costs.{node_cost, cost_of}
use Rattle.unit_tree.specs.Kinds.{KindsOfNames, Kinding, node_kind, kind_of_expression}
use Rattle.unit_tree.specs.Names.{node_depth, depth_of}
use Rattle.unit_tree.specs.Plain.{word_expression_of, zero_of, with_choices}
use Rattle.unit_tree.specs.declared.expr.Expr as expr
use Rattle.unit_tree.specs.declared.expr.Expr.{Expr}
use Rattle.unit_tree.specs.declared.expr.Expr.TheFolds.{ind-Expr, map-Expr}
use Rattle.unit_tree.specs.declared.expr.Expr.TheOpen.{Expr-F}
use Rattle.unit_tree.specs.declared.expr.Expr.TheVariants.{rolls-Number, rolls-Truth, rolls-Var, rolls-Time, rolls-Step, rolls-Unary, rolls-Binary, rolls-Clamp}
use Rattle.unit_tree.specs.declared.expr.Expr.TheVariants.{rolls-Choose, rolls-Absent, rolls-Present}
use Rattle.unit_tree.specs.declared.expr.Expr.TheViews.{roll-Expr}
use Rattle.unit_tree.specs.declared.expr.UnOp.TheVariants as of
use Rattle.unit_tree.proofs.FoldLemmas.{fold-Number, fold-Choose}
use Rattle.language_laws.proofs.KindLemmas.{kind-Number, kind-Truth, kind-Unary, kind-Choose}
use Rattle.language_laws.proofs.PlainLemmas.{choices-Number, choices-Truth, choices-Var, choices-Time, choices-Step, choices-Unary, choices-Binary}
use Rattle.language_laws.proofs.PlainLemmas.{choices-Clamp, choices-Choose, choices-Absent, choices-Present}

-- ---- One node

abbrev IsNoChoice : Expr → Type 0
IsNoChoice value = (cond chosen other : Expr) → value ≡ expr.Choose cond chosen other → ⊥

abbrev IsOther : Expr → Type 0
IsOther value = IsNoChoice value → (value ≡ expr.Absent → ⊥) → (gap : Expr) (change : Expr → Expr) → with_choices gap change value ≡ change value

abbrev Other : Type 0
Other = (value : Expr) × IsOther value

abbrev bare : Other → Expr
bare one = one.0

other_node : (y : Expr-F Other) → IsOther (roll-Expr (map-Expr Other Expr bare y))
other_node (Expr-F.Number number decimals) =
    subst IsOther (sym (rolls-Number number decimals)) (λ no_choice present gap change. choices-Number gap change number decimals)
other_node (Expr-F.Truth told) = subst IsOther (sym (rolls-Truth told)) (λ no_choice present gap change. choices-Truth gap change told)
other_node (Expr-F.Var name) = subst IsOther (sym (rolls-Var name)) (λ no_choice present gap change. choices-Var gap change name)
other_node Expr-F.Time = subst IsOther (sym rolls-Time) (λ no_choice present gap change. choices-Time gap change)
other_node Expr-F.Step = subst IsOther (sym rolls-Step) (λ no_choice present gap change. choices-Step gap change)
other_node (Expr-F.Unary op arg) = subst IsOther (sym (rolls-Unary op arg.0)) (λ no_choice present gap change. choices-Unary gap change op arg.0)
other_node (Expr-F.Binary op left right) =
    subst IsOther (sym (rolls-Binary op left.0 right.0)) (λ no_choice present gap change. choices-Binary gap change op left.0 right.0)
other_node (Expr-F.Clamp value low high) =
    subst IsOther (sym (rolls-Clamp value.0 low.0 high.0)) (λ no_choice present gap change. choices-Clamp gap change value.0 low.0 high.0)
other_node (Expr-F.Choose cond chosen other) =
    subst IsOther (sym (rolls-Choose cond.0 chosen.0 other.0)) (λ no_choice present gap change. absurd (no_choice cond.0 chosen.0 other.0 refl))
other_node Expr-F.Absent = subst IsOther (sym rolls-Absent) (λ no_choice present gap change. absurd (present refl))
other_node (Expr-F.Present name) = subst IsOther (sym (rolls-Present name)) (λ no_choice present gap change. choices-Present gap change name)

-- An expression that is not an `if` and not `absent` is one choice.
pub one_choice : (value : Expr) → IsOther value
one_choice = ind-Expr IsOther (λ x y is. subst (λ z. IsOther (roll-Expr z)) is (other_node y))

-- ---- The word of an event output

-- The expression, and a choice that is left unchanged.
abbrev same : Expr → Expr
same value = value

pub word_other : (ty : Ty) (value : Expr) → IsNoChoice value → (value ≡ expr.Absent → ⊥) → word_expression_of ty value ≡ value
word_other ty value no_choice present = one_choice value no_choice present (zero_of ty) same

pub word-Choose : (ty : Ty) (cond chosen other : Expr)
    → word_expression_of ty (expr.Choose cond chosen other) ≡ expr.Choose cond (word_expression_of ty chosen) (word_expression_of ty other)
word-Choose ty cond chosen other = choices-Choose (zero_of ty) same cond chosen other

pub word-Absent : (ty : Ty) → word_expression_of ty expr.Absent ≡ zero_of ty
word-Absent ty = choices-Absent (zero_of ty) same

-- ---- Its kind

abbrev zero_kinded : Ty → KindsOfNames → Type 0
zero_kinded ty names = kind_of_expression (zero_of ty) names ≡ Some (kind_of ty)

pub zero_kind : (ty : Ty) (names : KindsOfNames) → zero_kinded ty names
zero_kind types.Bool names = kind-Truth false names
zero_kind (types.Fixed zero) names = kind-Unary (of.ToFix 0) (expr.Number (pos 0) 0) names
    ∙ ap (λ (kinding : Kinding). node_kind (Expr-F.Unary (of.ToFix 0) kinding) names) (fold-Number Kinding node_kind (pos 0) 0)
zero_kind (types.Fixed (suc less)) names = kind-Number (pos 0) (suc less) names
zero_kind types.Int8 names = kind-Number (pos 0) 0 names
zero_kind types.UInt8 names = kind-Number (pos 0) 0 names
zero_kind types.Int16 names = kind-Number (pos 0) 0 names
zero_kind types.UInt16 names = kind-Number (pos 0) 0 names
zero_kind types.Int32 names = kind-Number (pos 0) 0 names
zero_kind types.UInt32 names = kind-Number (pos 0) 0 names
zero_kind types.Int64 names = kind-Number (pos 0) 0 names

pub word_kind-Absent : (ty : Ty) (names : KindsOfNames) → kind_of_expression (word_expression_of ty expr.Absent) names ≡ Some (kind_of ty)
word_kind-Absent ty names = ap (λ value. kind_of_expression value names) (word-Absent ty) ∙ zero_kind ty names

pub word_kind-Choose : (ty : Ty) (cond chosen other : Expr) (names : KindsOfNames)
    → kind_of_expression (word_expression_of ty (expr.Choose cond chosen other)) names
    ≡ choice_kind (kind_of_expression cond names) (kind_of_expression (word_expression_of ty chosen) names)
    (kind_of_expression (word_expression_of ty other) names)
word_kind-Choose ty cond chosen other names =
    ap (λ value. kind_of_expression value names) (word-Choose ty cond chosen other)
    ∙ kind-Choose cond (word_expression_of ty chosen) (word_expression_of ty other) names

-- ---- How deep it is, and what it costs

pub choice_depth : (gap : Expr) (change : Expr → Expr) (cond chosen other : Expr)
    → depth_of (with_choices gap change (expr.Choose cond chosen other))
    ≡ suc (max (depth_of cond) (max (depth_of (with_choices gap change chosen)) (depth_of (with_choices gap change other))))
choice_depth gap change cond chosen other =
    ap depth_of (choices-Choose gap change cond chosen other) ∙ fold-Choose ℕ node_depth cond (with_choices gap change chosen) (with_choices gap change other)

pub choice_cost : (gap : Expr) (change : Expr → Expr) (cond chosen other : Expr)
    → cost_of (with_choices gap change (expr.Choose cond chosen other))
    ≡ cost_of cond + 1 + cost_of (with_choices gap change chosen) + 1 + cost_of (with_choices gap change other)
choice_cost gap change cond chosen other =
    ap cost_of (choices-Choose gap change cond chosen other) ∙ fold-Choose ℕ node_cost cond (with_choices gap change chosen) (with_choices gap change other)

-- ---- An `if`, from its parts

capped : (x y z : ℕ) → min (min x 100001 + 1 + min y 100001 + 1 + min z 100001) 100001 ≡ min (x + 1 + y + 1 + z) 100001
capped x y z = omega arith

pub choice_costs : (gap : Expr) (change : Expr → Expr) (value cond chosen other : Expr) (all first second third : ℕ) → value ≡ expr.Choose cond chosen other
    → all ≡ min (first + 1 + second + 1 + third) 100001
    → first ≡ min (cost_of cond) 100001 → second ≡ min (cost_of (with_choices gap change chosen)) 100001
    → third ≡ min (cost_of (with_choices gap change other)) 100001
    → all ≡ min (cost_of (with_choices gap change value)) 100001
choice_costs gap change value cond chosen other all first second third is total one two three =
    total
    ∙ rw (one, two, three) (capped (cost_of cond) (cost_of (with_choices gap change chosen)) (cost_of (with_choices gap change other)))
    ∙ ap (λ cost. min cost 100001) (sym (ap (λ v. cost_of (with_choices gap change v)) is ∙ choice_cost gap change cond chosen other))

within : (x y z less : ℕ) → (nat_le x less && nat_le y less && nat_le z less) ≡ nat_le (suc (max x (max y z))) (suc less)
within x y z less = grind (arith)

pub choice_is_within : (gap : Expr) (change : Expr → Expr) (value cond chosen other : Expr) (depth less : ℕ) (all first second third : Bool)
    → value ≡ expr.Choose cond chosen other
    → less + 1 ≡ depth
    → all ≡ (first && second && third)
    → first ≡ nat_le (depth_of cond) less → second ≡ nat_le (depth_of (with_choices gap change chosen)) less
    → third ≡ nat_le (depth_of (with_choices gap change other)) less
    → all ≡ nat_le (depth_of (with_choices gap change value)) depth
choice_is_within gap change value cond chosen other depth less all first second third is one_less every one two three =
    let deep : suc less ≡ depth = omega arith in
    every
    ∙ rw (one, two, three) (within (depth_of cond) (depth_of (with_choices gap change chosen)) (depth_of (with_choices gap change other)) less)
    ∙ ap (λ d. nat_le d (suc less)) (sym (ap (λ v. depth_of (with_choices gap change v)) is ∙ choice_depth gap change cond chosen other))
    ∙ ap (nat_le (depth_of (with_choices gap change value))) deep
