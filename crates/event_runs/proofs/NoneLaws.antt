-- Where no event occurs, a value is that of an environment without events.
use Rattle.std.proofs.Common.{◌≡◌, sym, ap, ◌∙◌, subst}
use Rattle.unit_tree.specs.Values.{◌>>=◌, Meaning, node_meaning, unary_value, value_of}
use Rattle.unit_tree.specs.declared.environment.Environment.{Environment}
use Rattle.unit_tree.specs.declared.expr.Expr.{Expr}
use Rattle.unit_tree.specs.declared.expr.Expr.TheFolds.{ind-Expr, map-Expr}
use Rattle.unit_tree.specs.declared.expr.Expr.TheOpen.{Expr-F}
use Rattle.unit_tree.specs.declared.expr.Expr.TheVariants.{rolls-Number, rolls-Truth, rolls-Var, rolls-Time, rolls-Step, rolls-Unary, rolls-Binary}
use Rattle.unit_tree.specs.declared.expr.Expr.TheVariants.{rolls-Clamp, rolls-Choose, rolls-Absent, rolls-Present}
use Rattle.unit_tree.specs.declared.expr.Expr.TheViews.{roll-Expr}
use Rattle.unit_tree.proofs.FoldLemmas.{fold-Absent, fold-Present}
use Rattle.language_laws.proofs.MeaningLemmas.{value-Number, value-Truth, value-Var, value-Time, value-Step, value-Unary, value-Binary, value-Clamp}
use Rattle.language_laws.proofs.MeaningLemmas.{value-Choose}
use Rattle.event_runs.specs.Events.{none_occurs, value_in}
use Rattle.event_runs.proofs.ValueLaws.{Given, in-Number, in-Truth, in-Var, in-Time, in-Step, in-Unary, in-Binary, in-Clamp, in-Choose, in-Absent, in-Present}
use Rattle.event_runs.proofs.ValueLaws.{same-two, same-three, same-choose}

module _ (env : Environment) where
  abbrev pub Same : Expr → Type 0
  Same value = value_in none_occurs value env ≡ value_of value env

  abbrev pub Proved : Type 0
  Proved = (value : Expr) × Same value

  abbrev pub bare : Proved → Expr
  bare one = one.0

  pub node : (y : Expr-F Proved) → Same (roll-Expr (map-Expr Proved Expr bare y))
  node (Expr-F.Number word decimals) =
      subst Same (sym (rolls-Number word decimals)) (in-Number none_occurs env word decimals ∙ sym (value-Number word decimals env))
  node (Expr-F.Truth told) = subst Same (sym (rolls-Truth told)) (in-Truth none_occurs env told ∙ sym (value-Truth told env))
  node (Expr-F.Var name) = subst Same (sym (rolls-Var name)) (in-Var none_occurs env name ∙ sym (value-Var name env))
  node Expr-F.Time = subst Same (sym rolls-Time) (in-Time none_occurs env ∙ sym (value-Time env))
  node Expr-F.Step = subst Same (sym rolls-Step) (in-Step none_occurs env ∙ sym (value-Step env))
  node (Expr-F.Unary op arg) =
      subst Same (sym (rolls-Unary op arg.0))
      (in-Unary none_occurs env op arg.0 ∙ ap (λ (given : Given). given >>= λ x. unary_value op x) arg.1 ∙ sym (value-Unary op arg.0 env))
  node (Expr-F.Binary op left right) =
      subst Same (sym (rolls-Binary op left.0 right.0))
      (in-Binary none_occurs env op left.0 right.0
      ∙ same-two op (value_in none_occurs left.0 env) (value_of left.0 env) (value_in none_occurs right.0 env) (value_of right.0 env) left.1 right.1
      ∙ sym (value-Binary op left.0 right.0 env))
  node (Expr-F.Clamp value low high) =
      subst Same (sym (rolls-Clamp value.0 low.0 high.0))
      (in-Clamp none_occurs env value.0 low.0 high.0
      ∙ same-three (value_in none_occurs value.0 env) (value_of value.0 env) (value_in none_occurs low.0 env) (value_of low.0 env)
      (value_in none_occurs high.0 env) (value_of high.0 env) value.1 low.1 high.1 ∙ sym (value-Clamp value.0 low.0 high.0 env))
  node (Expr-F.Choose condition then_part else_part) =
      subst Same (sym (rolls-Choose condition.0 then_part.0 else_part.0))
      (in-Choose none_occurs env condition.0 then_part.0 else_part.0
      ∙ same-choose (value_in none_occurs condition.0 env) (value_of condition.0 env) (value_in none_occurs then_part.0 env) (value_of then_part.0 env)
      (value_in none_occurs else_part.0 env) (value_of else_part.0 env) condition.1 then_part.1 else_part.1
      ∙ sym (value-Choose condition.0 then_part.0 else_part.0 env))
  node Expr-F.Absent = subst Same (sym rolls-Absent)
      (in-Absent none_occurs env ∙ sym (ap (λ (meaning : Meaning). meaning env) (fold-Absent Meaning node_meaning)))
  node (Expr-F.Present name) =
      subst Same (sym (rolls-Present name))
      (in-Present none_occurs env name ∙ sym (ap (λ (meaning : Meaning). meaning env) (fold-Present Meaning node_meaning name)))

  pub same : (value : Expr) → Same value
  same = ind-Expr Same (λ x y is. subst (λ z. Same (roll-Expr z)) is (node y))
