-- The two plain expressions of an event output give in every environment true and a word, or false and a zero.
use Rattle.std.proofs.Common.{◌≡◌, ◌⊎◌, Bool, true, false, if◌then◌else◌, Ok, Err, inl, inr, refl, sym, ap, ◌∙◌, subst}
use Rattle.std.specs.Prelude.{⊤}
use Rattle.fixed_words.specs.declared.types.Ty.{Ty}
use Rattle.unit_tree.specs.Plain.{plain_expression, presence_of, word_expression_of, zero_of}
use Rattle.unit_tree.specs.Values.{◌>>=◌, truth, holds, value_of}
use Rattle.unit_tree.specs.declared.environment.Environment.{Environment}
use Rattle.unit_tree.specs.declared.expr.Expr as expr
use Rattle.unit_tree.specs.declared.expr.Expr.{Expr}
use Rattle.unit_tree.specs.declared.expr.Expr.TheFolds.{ind-Expr, map-Expr}
use Rattle.unit_tree.specs.declared.expr.Expr.TheOpen.{Expr-F}
use Rattle.unit_tree.specs.declared.expr.Expr.TheVariants.{rolls-Number, rolls-Truth, rolls-Var, rolls-Time, rolls-Step, rolls-Unary, rolls-Binary}
use Rattle.unit_tree.specs.declared.expr.Expr.TheVariants.{rolls-Clamp, rolls-Choose, rolls-Absent, rolls-Present}
use Rattle.unit_tree.specs.declared.expr.Expr.TheViews.{roll-Expr}
use Rattle.language_laws.proofs.MeaningLemmas.{value-Choose}
use Rattle.language_laws.proofs.PlainLemmas.{plain-Choose, choices-Absent, choices-Choose, choices-Number, choices-Truth, choices-Var, choices-Time}
use Rattle.language_laws.proofs.PlainLemmas.{choices-Step, choices-Unary, choices-Binary, choices-Clamp, choices-Present}
use Rattle.event_runs.specs.Laws.{zero_value}
use Rattle.event_runs.proofs.EventLaws.{plainly, plain_truth, plain_zero}
use Rattle.event_runs.proofs.ValueLaws.{Given}

abbrev pub AreTidyValues : Ty → Given → Given → Type 0
AreTidyValues ty (Ok tells) (Ok word) = (tells ≡ truth true) ⊎ ((tells ≡ truth false) × (word ≡ zero_value ty))
AreTidyValues ty _ _ = ⊤

pub true_is_tidy : (ty : Ty) (word : Given) → AreTidyValues ty (Ok (truth true)) word
true_is_tidy ty (Ok word) = inl refl
true_is_tidy ty (Err fault) = tt

pub choice_is_tidy : (ty : Ty) (condition tells tells' word word' : Given) → AreTidyValues ty tells word → AreTidyValues ty tells' word'
    → AreTidyValues ty (condition >>= λ c. (if holds c then tells else tells')) (condition >>= λ c. (if holds c then word else word'))
choice_is_tidy ty (Err fault) tells tells' word word' one other = tt
choice_is_tidy ty (Ok value) tells tells' word word' one other = by_test (holds value)
  where
    by_test : (test : Bool) → AreTidyValues ty (if test then tells else tells') (if test then word else word')
    by_test true = one
    by_test false = other

module _ (env : Environment) (ty : Ty) where
  abbrev pub all_true : Expr → Expr
  all_true other = expr.Truth true

  abbrev pub as_it_is : Expr → Expr
  as_it_is other = other

  abbrev pub Tidy : Expr → Type 0
  Tidy value = AreTidyValues ty (plainly (presence_of value) env) (plainly (word_expression_of ty value) env)

  pub no_choice : (value : Expr) → presence_of value ≡ expr.Truth true → Tidy value
  no_choice value tells =
      subst (λ given. AreTidyValues ty given (plainly (word_expression_of ty value) env)) (sym (ap (λ v. plainly v env) tells ∙ plain_truth true env))
      (true_is_tidy ty (plainly (word_expression_of ty value) env))

  pub tidy-Absent : Tidy expr.Absent
  tidy-Absent =
      subst (λ given. AreTidyValues ty given (plainly (word_expression_of ty expr.Absent) env))
      (sym (ap (λ v. plainly v env) (choices-Absent (expr.Truth false) all_true) ∙ plain_truth false env))
      (subst (λ given. AreTidyValues ty (Ok (truth false)) given) (sym (ap (λ v. plainly v env) (choices-Absent (zero_of ty) as_it_is) ∙ plain_zero ty env))
      (inr (refl, refl)))

  pub plain_choice : (condition one other : Expr)
      → plainly (expr.Choose condition one other) env ≡ (plainly condition env >>= λ c. (if holds c then plainly one env else plainly other env))
  plain_choice condition one other =
      ap (λ value. value_of value env) (plain-Choose condition one other)
      ∙ value-Choose (plain_expression condition) (plain_expression one) (plain_expression other) env

  pub tidy-Choose : (condition one other : Expr) → Tidy one → Tidy other → Tidy (expr.Choose condition one other)
  tidy-Choose condition one other on_one on_other =
      let first = ap (λ v. plainly v env) (choices-Choose (expr.Truth false) all_true condition one other)
      ∙ plain_choice condition (presence_of one) (presence_of other) in
      let second = ap (λ v. plainly v env) (choices-Choose (zero_of ty) as_it_is condition one other)
      ∙ plain_choice condition (word_expression_of ty one) (word_expression_of ty other) in
      subst (λ given. AreTidyValues ty given (plainly (word_expression_of ty (expr.Choose condition one other)) env)) (sym first)
      (subst (λ given. AreTidyValues ty
      (plainly condition env >>= λ c. (if holds c then plainly (presence_of one) env else plainly (presence_of other) env)) given) (sym second)
      (choice_is_tidy ty (plainly condition env) (plainly (presence_of one) env) (plainly (presence_of other) env) (plainly (word_expression_of ty one) env)
      (plainly (word_expression_of ty other) env) on_one on_other))

  abbrev pub Proved : Type 0
  Proved = (value : Expr) × Tidy value

  abbrev pub bare : Proved → Expr
  bare one = one.0

  abbrev pub fals : Expr
  fals = expr.Truth false

  pub node : (y : Expr-F Proved) → Tidy (roll-Expr (map-Expr Proved Expr bare y))
  node (Expr-F.Number word decimals) =
      subst Tidy (sym (rolls-Number word decimals)) (no_choice (expr.Number word decimals) (choices-Number fals all_true word decimals))
  node (Expr-F.Truth told) = subst Tidy (sym (rolls-Truth told)) (no_choice (expr.Truth told) (choices-Truth fals all_true told))
  node (Expr-F.Var name) = subst Tidy (sym (rolls-Var name)) (no_choice (expr.Var name) (choices-Var fals all_true name))
  node Expr-F.Time = subst Tidy (sym rolls-Time) (no_choice expr.Time (choices-Time fals all_true))
  node Expr-F.Step = subst Tidy (sym rolls-Step) (no_choice expr.Step (choices-Step fals all_true))
  node (Expr-F.Unary op arg) = subst Tidy (sym (rolls-Unary op arg.0)) (no_choice (expr.Unary op arg.0) (choices-Unary fals all_true op arg.0))
  node (Expr-F.Binary op left right) =
      subst Tidy (sym (rolls-Binary op left.0 right.0)) (no_choice (expr.Binary op left.0 right.0) (choices-Binary fals all_true op left.0 right.0))
  node (Expr-F.Clamp value low high) =
      subst Tidy (sym (rolls-Clamp value.0 low.0 high.0)) (no_choice (expr.Clamp value.0 low.0 high.0) (choices-Clamp fals all_true value.0 low.0 high.0))
  node (Expr-F.Choose condition one other) = subst Tidy (sym (rolls-Choose condition.0 one.0 other.0)) (tidy-Choose condition.0 one.0 other.0 one.1 other.1)
  node Expr-F.Absent = subst Tidy (sym rolls-Absent) tidy-Absent
  node (Expr-F.Present name) = subst Tidy (sym (rolls-Present name)) (no_choice (expr.Present name) (choices-Present fals all_true name))

  pub tidy : (value : Expr) → Tidy value
  tidy = ind-Expr Tidy (λ x y is. subst (λ z. Tidy (roll-Expr z)) is (node y))
