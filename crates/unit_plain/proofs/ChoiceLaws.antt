-- The plain form of an event output's expression, by its choices.
use Rattle.std.proofs.Common.{◌≡◌, refl, ap, sym, subst, ◌∙◌}
use Rattle.language_laws.proofs.PlainLemmas.{choices-Number, choices-Truth, choices-Var, choices-Time, choices-Step, choices-Unary, choices-Binary}
use Rattle.language_laws.proofs.PlainLemmas.{choices-Clamp, choices-Choose, choices-Present, plain-Choose}
use Rattle.unit_tree.specs.Plain.{plain_expression, with_choices}
use Rattle.unit_tree.specs.declared.expr.Expr as expr
use Rattle.unit_tree.specs.declared.expr.Expr.{Expr}
use Rattle.unit_tree.specs.declared.expr.Expr.TheFolds.{ind-Expr, map-Expr}
use Rattle.unit_tree.specs.declared.expr.Expr.TheOpen.{Expr-F}
use Rattle.unit_tree.specs.declared.expr.Expr.TheVariants.{rolls-Number, rolls-Truth, rolls-Var, rolls-Time, rolls-Step, rolls-Unary, rolls-Binary, rolls-Clamp}
use Rattle.unit_tree.specs.declared.expr.Expr.TheVariants.{rolls-Choose, rolls-Absent, rolls-Present}
use Rattle.unit_tree.specs.declared.expr.Expr.TheViews.{roll-Expr}

-- ---- An `if`

pub choice_plain : (gap : Expr) (change : Expr → Expr) (value cond then_part else_part first second third : Expr)
    → value ≡ expr.Choose cond then_part else_part → first ≡ plain_expression cond → second ≡ plain_expression (with_choices gap change then_part)
    → third ≡ plain_expression (with_choices gap change else_part) → expr.Choose first second third ≡ plain_expression (with_choices gap change value)
choice_plain gap change value cond then_part else_part first second third is on_cond on_then on_else =
    ap (λ e. expr.Choose e second third) on_cond
    ∙ ap (λ e. expr.Choose (plain_expression cond) e third) on_then
    ∙ ap (λ e. expr.Choose (plain_expression cond) (plain_expression (with_choices gap change then_part)) e) on_else
    ∙ sym (plain-Choose cond (with_choices gap change then_part) (with_choices gap change else_part))
    ∙ ap plain_expression (sym (choices-Choose gap change cond then_part else_part))
    ∙ ap (λ e. plain_expression (with_choices gap change e)) (sym is)

-- ---- Expressions that are not an `if` and not `absent`

abbrev IsChanged : Expr → Type 0
IsChanged value = (gap : Expr) (change : Expr → Expr) → ((cond then_part else_part : Expr) → value ≡ expr.Choose cond then_part else_part → ⊥)
    → (value ≡ expr.Absent → ⊥) → with_choices gap change value ≡ change value

abbrev Proved : Type 0
Proved = (value : Expr) × IsChanged value

abbrev bare : Proved → Expr
bare value = value.0

node : (y : Expr-F Proved) → IsChanged (roll-Expr (map-Expr Proved Expr bare y))
node (Expr-F.Number number decimals) =
    subst IsChanged (sym (rolls-Number number decimals)) (λ gap change no_choice no_gap. choices-Number gap change number decimals)
node (Expr-F.Truth told) = subst IsChanged (sym (rolls-Truth told)) (λ gap change no_choice no_gap. choices-Truth gap change told)
node (Expr-F.Var name) = subst IsChanged (sym (rolls-Var name)) (λ gap change no_choice no_gap. choices-Var gap change name)
node Expr-F.Time = subst IsChanged (sym rolls-Time) (λ gap change no_choice no_gap. choices-Time gap change)
node Expr-F.Step = subst IsChanged (sym rolls-Step) (λ gap change no_choice no_gap. choices-Step gap change)
node (Expr-F.Unary op arg) = subst IsChanged (sym (rolls-Unary op (bare arg))) (λ gap change no_choice no_gap. choices-Unary gap change op (bare arg))
node (Expr-F.Binary op left right) =
    subst IsChanged (sym (rolls-Binary op (bare left) (bare right))) (λ gap change no_choice no_gap. choices-Binary gap change op (bare left) (bare right))
node (Expr-F.Clamp value low high) =
    subst IsChanged (sym (rolls-Clamp (bare value) (bare low) (bare high)))
    (λ gap change no_choice no_gap. choices-Clamp gap change (bare value) (bare low) (bare high))
node (Expr-F.Choose cond then_part else_part) =
    subst IsChanged (sym (rolls-Choose (bare cond) (bare then_part) (bare else_part)))
    (λ gap change no_choice no_gap. absurd (no_choice (bare cond) (bare then_part) (bare else_part) refl))
node Expr-F.Absent = subst IsChanged (sym rolls-Absent) (λ gap change no_choice no_gap. absurd (no_gap refl))
node (Expr-F.Present name) = subst IsChanged (sym (rolls-Present name)) (λ gap change no_choice no_gap. choices-Present gap change name)

pub changed : (value : Expr) → IsChanged value
changed = ind-Expr IsChanged (λ x y is. subst (λ z. IsChanged (roll-Expr z)) is (node y))
