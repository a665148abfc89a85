-- The two plain expressions of an event output give the event of its own expression.
use Rattle.std.proofs.Common.{◌≡◌, ℕ, zero, suc, Bool, true, false, ℤ, pos, List, if◌then◌else◌, Option, Some, None, Result, Ok, Err, inl, inr, refl, sym, ap}
use Rattle.std.proofs.Common.{◌∙◌, subst}
use Rattle.fixed_words.specs.declared.types.Fault.{Fault}
use Rattle.fixed_words.specs.declared.types.Ty.{Ty}
use Rattle.fixed_words.specs.declared.types.Ty.TheVariants as types
use Rattle.unit_tree.specs.Plain.{plain_expression, presence_of, word_expression_of, zero_of}
use Rattle.unit_tree.specs.Values.{◌>>=◌, node_meaning, truth, holds, unary_value, value_of}
use Rattle.unit_tree.specs.declared.environment.Environment.{Environment}
use Rattle.unit_tree.specs.declared.environment.Value.{Value}
use Rattle.unit_tree.specs.declared.expr.BinOp.{BinOp}
use Rattle.unit_tree.specs.declared.expr.Expr as expr
use Rattle.unit_tree.specs.declared.expr.Expr.{Expr}
use Rattle.unit_tree.specs.declared.expr.Expr.TheFolds.{ind-Expr, map-Expr}
use Rattle.unit_tree.specs.declared.expr.Expr.TheOpen.{Expr-F}
use Rattle.unit_tree.specs.declared.expr.Expr.TheVariants.{rolls-Number, rolls-Truth, rolls-Var, rolls-Time, rolls-Step, rolls-Unary, rolls-Binary}
use Rattle.unit_tree.specs.declared.expr.Expr.TheVariants.{rolls-Clamp, rolls-Choose, rolls-Absent, rolls-Present}
use Rattle.unit_tree.specs.declared.expr.Expr.TheViews.{roll-Expr}
use Rattle.unit_tree.specs.declared.expr.UnOp.{UnOp}
use Rattle.unit_tree.specs.declared.expr.UnOp.TheVariants as of
use Rattle.unit_tree.proofs.FoldLemmas.{fold-Number, fold-Truth, fold-Var, fold-Time, fold-Step, fold-Unary, fold-Binary, fold-Clamp, fold-Choose, fold-Absent}
use Rattle.unit_tree.proofs.FoldLemmas.{fold-Present}
use Rattle.language_laws.proofs.MeaningLemmas.{value-Number, value-Truth, value-Unary, value-Choose}
use Rattle.language_laws.proofs.PlainLemmas.{plain-Number, plain-Truth, plain-Unary, plain-Choose, choices-Absent, choices-Choose, choices-Number}
use Rattle.language_laws.proofs.PlainLemmas.{choices-Truth, choices-Var, choices-Time, choices-Step, choices-Unary, choices-Binary, choices-Clamp}
use Rattle.language_laws.proofs.PlainLemmas.{choices-Present}
use Rattle.event_runs.specs.Events.{Occurring, value_in, Telling, node_telling, telling, event_in}
use Rattle.event_runs.specs.Laws.{Speaks, Shows, AreTwo, zero_value}
use Rattle.event_runs.proofs.ValueLaws.{Given, in-Number, in-Truth, in-Var, in-Time, in-Step, in-Unary, in-Binary, in-Clamp, in-Choose, in-Absent, in-Present}
use Rattle.event_runs.proofs.ValueLaws.{same-two, same-three, same-choose, said-Choose, same}

-- ---- The plain value, of the two results of an expression

module _ (occurring : Occurring) where
  abbrev pub told_in : Expr → Telling
  told_in value = telling occurring value

  abbrev pub HasValue : Expr → Type 0
  HasValue value = (env : Environment) → (told_in value).value env ≡ value_in occurring value env

  abbrev pub value_at : Environment → Telling → Given
  value_at env one = one.value env

  pub has-Unary : (op : UnOp) (arg : Expr) → HasValue arg → HasValue (expr.Unary op arg)
  has-Unary op arg on_arg env =
      ap (value_at env) (fold-Unary Telling (node_telling occurring) op arg)
      ∙ ap (λ (given : Given). given >>= λ x. unary_value op x) (on_arg env)
      ∙ sym (in-Unary occurring env op arg)

  pub has-Binary : (op : BinOp) (left right : Expr) → HasValue left → HasValue right → HasValue (expr.Binary op left right)
  has-Binary op left right on_left on_right env =
      ap (value_at env) (fold-Binary Telling (node_telling occurring) op left right)
      ∙ same-two op ((told_in left).value env) (value_in occurring left env) ((told_in right).value env) (value_in occurring right env) (on_left env)
      (on_right env)
      ∙ sym (in-Binary occurring env op left right)

  pub has-Clamp : (value low high : Expr) → HasValue value → HasValue low → HasValue high → HasValue (expr.Clamp value low high)
  has-Clamp value low high on_value on_low on_high env =
      ap (value_at env) (fold-Clamp Telling (node_telling occurring) value low high)
      ∙ same-three ((told_in value).value env) (value_in occurring value env) ((told_in low).value env) (value_in occurring low env) ((told_in high).value env)
      (value_in occurring high env) (on_value env) (on_low env) (on_high env)
      ∙ sym (in-Clamp occurring env value low high)

  pub has-Choose : (condition then_part else_part : Expr) → HasValue condition → HasValue then_part → HasValue else_part
      → HasValue (expr.Choose condition then_part else_part)
  has-Choose condition then_part else_part on_condition on_then on_else env =
      ap (value_at env) (fold-Choose Telling (node_telling occurring) condition then_part else_part)
      ∙ same-choose ((told_in condition).value env) (value_in occurring condition env) ((told_in then_part).value env) (value_in occurring then_part env)
      ((told_in else_part).value env) (value_in occurring else_part env) (on_condition env) (on_then env) (on_else env)
      ∙ sym (in-Choose occurring env condition then_part else_part)

  abbrev pub Valued : Type 0
  Valued = (value : Expr) × HasValue value

  abbrev pub bare : Valued → Expr
  bare one = one.0

  pub has_node : (y : Expr-F Valued) → HasValue (roll-Expr (map-Expr Valued Expr bare y))
  has_node (Expr-F.Number word decimals) =
      subst HasValue (sym (rolls-Number word decimals))
      (λ env. ap (value_at env) (fold-Number Telling (node_telling occurring) word decimals) ∙ sym (in-Number occurring env word decimals))
  has_node (Expr-F.Truth told) =
      subst HasValue (sym (rolls-Truth told)) (λ env. ap (value_at env) (fold-Truth Telling (node_telling occurring) told) ∙ sym (in-Truth occurring env told))
  has_node (Expr-F.Var name) =
      subst HasValue (sym (rolls-Var name)) (λ env. ap (value_at env) (fold-Var Telling (node_telling occurring) name) ∙ sym (in-Var occurring env name))
  has_node Expr-F.Time = subst HasValue (sym rolls-Time) (λ env. ap (value_at env) (fold-Time Telling (node_telling occurring)) ∙ sym (in-Time occurring env))
  has_node Expr-F.Step = subst HasValue (sym rolls-Step) (λ env. ap (value_at env) (fold-Step Telling (node_telling occurring)) ∙ sym (in-Step occurring env))
  has_node (Expr-F.Unary op arg) = subst HasValue (sym (rolls-Unary op arg.0)) (has-Unary op arg.0 arg.1)
  has_node (Expr-F.Binary op left right) = subst HasValue (sym (rolls-Binary op left.0 right.0)) (has-Binary op left.0 right.0 left.1 right.1)
  has_node (Expr-F.Clamp value low high) = subst HasValue (sym (rolls-Clamp value.0 low.0 high.0)) (has-Clamp value.0 low.0 high.0 value.1 low.1 high.1)
  has_node (Expr-F.Choose condition then_part else_part) =
      subst HasValue (sym (rolls-Choose condition.0 then_part.0 else_part.0))
      (has-Choose condition.0 then_part.0 else_part.0 condition.1 then_part.1 else_part.1)
  has_node Expr-F.Absent =
      subst HasValue (sym rolls-Absent) (λ env. ap (value_at env) (fold-Absent Telling (node_telling occurring)) ∙ sym (in-Absent occurring env))
  has_node (Expr-F.Present name) =
      subst HasValue (sym (rolls-Present name))
      (λ env. ap (value_at env) (fold-Present Telling (node_telling occurring) name) ∙ sym (in-Present occurring env name))

  pub has_value : (value : Expr) → HasValue value
  has_value = ind-Expr HasValue (λ x y is. subst (λ z. HasValue (roll-Expr z)) is (has_node y))

-- ---- The zero of a type's kind

abbrev pub plainly : Expr → Environment → Given
plainly value env = value_of (plain_expression value) env

pub plain_number : (word : ℤ) (decimals : ℕ) (env : Environment) → plainly (expr.Number word decimals) env ≡ node_meaning (Expr-F.Number word decimals) env
plain_number word decimals env = ap (λ value. value_of value env) (plain-Number word decimals) ∙ value-Number word decimals env

pub plain_truth : (told : Bool) (env : Environment) → plainly (expr.Truth told) env ≡ Ok (truth told)
plain_truth told env = ap (λ value. value_of value env) (plain-Truth told) ∙ value-Truth told env

pub plain_zero : (ty : Ty) (env : Environment) → plainly (zero_of ty) env ≡ Ok (zero_value ty)
plain_zero types.Bool env = plain_truth false env
plain_zero (types.Fixed zero) env =
    ap (λ value. value_of value env) (plain-Unary (of.ToFix 0) (expr.Number (pos 0) 0))
    ∙ value-Unary (of.ToFix 0) (plain_expression (expr.Number (pos 0) 0)) env
    ∙ ap (λ (given : Given). given >>= λ x. unary_value (of.ToFix 0) x) (plain_number (pos 0) 0 env)
plain_zero (types.Fixed (suc less)) env = plain_number (pos 0) (suc less) env
plain_zero types.Int8 env = plain_number (pos 0) 0 env
plain_zero types.UInt8 env = plain_number (pos 0) 0 env
plain_zero types.Int16 env = plain_number (pos 0) 0 env
plain_zero types.UInt16 env = plain_number (pos 0) 0 env
plain_zero types.Int32 env = plain_number (pos 0) 0 env
plain_zero types.UInt32 env = plain_number (pos 0) 0 env
plain_zero types.Int64 env = plain_number (pos 0) 0 env

-- ---- The law

abbrev pub told_of : Given → Result (Option Value) Fault
told_of given = given >>= λ v. Ok (Some v)

pub always_two : (ty : Ty) (given : Given) → AreTwo ty (told_of given) (Ok (truth true)) given
always_two ty (Ok value) = (refl, refl)
always_two ty (Err fault) = (inr refl, refl)

-- A choice, by the value of its condition.
pub choose_two : (ty : Ty) (condition : Given) (one other : Result (Option Value) Fault) (tells tells' word word' : Given) → AreTwo ty one tells word
    → AreTwo ty other tells' word'
    → AreTwo ty (condition >>= λ c. (if holds c then one else other)) (condition >>= λ c. (if holds c then tells else tells'))
    (condition >>= λ c. (if holds c then word else word'))
choose_two ty (Err fault) one other tells tells' word word' on_one on_other = (inl refl, refl)
choose_two ty (Ok value) one other tells tells' word word' on_one on_other = by_test (holds value)
  where
    by_test : (test : Bool) → AreTwo ty (if test then one else other) (if test then tells else tells') (if test then word else word')
    by_test true = on_one
    by_test false = on_other

module _ (occurring : Occurring) (events : List (List ℕ)) (env plain : Environment) (ty : Ty) (shows : Shows occurring events env plain) where
  abbrev pub Two : Expr → Type 0
  Two value = Speaks events value → AreTwo ty (event_in occurring value env) (plainly (presence_of value) plain) (plainly (word_expression_of ty value) plain)

  -- An expression that is not a choice.
  pub no_choice : (value : Expr) → presence_of value ≡ expr.Truth true → word_expression_of ty value ≡ value
      → event_in occurring value env ≡ told_of ((telling occurring value).value env) → Two value
  no_choice value tells word told said =
      let value_is : (telling occurring value).value env ≡ plainly value plain = has_value occurring value env
      ∙ sym (same occurring events env plain shows value said) in
      let event_is : event_in occurring value env ≡ told_of (plainly value plain) = told ∙ ap told_of value_is in
      let first : plainly (presence_of value) plain ≡ Ok (truth true) = ap (λ v. plainly v plain) tells ∙ plain_truth true plain in
      let second : plainly (word_expression_of ty value) plain ≡ plainly value plain = ap (λ v. plainly v plain) word in
      subst (λ event. AreTwo ty event (plainly (presence_of value) plain) (plainly (word_expression_of ty value) plain)) (sym event_is)
      (subst (λ given. AreTwo ty (told_of (plainly value plain)) given (plainly (word_expression_of ty value) plain)) (sym first)
      (subst (λ given. AreTwo ty (told_of (plainly value plain)) (Ok (truth true)) given) (sym second) (always_two ty (plainly value plain))))

  abbrev pub all_true : Expr → Expr
  all_true other = expr.Truth true

  abbrev pub as_it_is : Expr → Expr
  as_it_is other = other

  -- Both sides for one node.
  pub told_by : (value : Expr) (one : Telling) → telling occurring value ≡ one → one.event env ≡ told_of (one.value env)
      → event_in occurring value env ≡ told_of ((telling occurring value).value env)
  told_by value one is told = ap (λ (t : Telling). t.event env) is ∙ told ∙ sym (ap (λ (t : Telling). told_of (t.value env)) is)

  pub two-Absent : Two expr.Absent
  two-Absent said =
      let event_is : event_in occurring expr.Absent env ≡ Ok None = ap (λ (t : Telling). t.event env) (fold-Absent Telling (node_telling occurring)) in
      let first : plainly (presence_of expr.Absent) plain ≡ Ok (truth false) = ap (λ v. plainly v plain) (choices-Absent (expr.Truth false) all_true)
      ∙ plain_truth false plain in
      let second : plainly (word_expression_of ty expr.Absent) plain ≡ Ok (zero_value ty) = ap (λ v. plainly v plain) (choices-Absent (zero_of ty) as_it_is)
      ∙ plain_zero ty plain in
      subst (λ event. AreTwo ty event (plainly (presence_of expr.Absent) plain) (plainly (word_expression_of ty expr.Absent) plain)) (sym event_is)
      (first, second)

  abbrev pub chosen_of : Given → Given → Given → Given
  chosen_of condition one other = condition >>= λ c. (if holds c then one else other)

  pub plain_choice : (condition one other : Expr)
      → plainly (expr.Choose condition one other) plain ≡ chosen_of (plainly condition plain) (plainly one plain) (plainly other plain)
  plain_choice condition one other =
      ap (λ value. value_of value plain) (plain-Choose condition one other)
      ∙ value-Choose (plain_expression condition) (plain_expression one) (plain_expression other) plain

  pub two-Choose : (condition then_part else_part : Expr) → Two then_part → Two else_part → Two (expr.Choose condition then_part else_part)
  two-Choose condition then_part else_part on_then on_else said =
      let parts = said-Choose events condition then_part else_part said in
      let told = ap (λ (t : Telling). t.event env) (fold-Choose Telling (node_telling occurring) condition then_part else_part) in
      let value_is : (telling occurring condition).value env ≡ plainly condition plain = has_value occurring condition env
      ∙ sym (same occurring events env plain shows condition parts.0) in
      let event_is : event_in occurring (expr.Choose condition then_part else_part) env
      ≡ (plainly condition plain >>= λ c. (if holds c then event_in occurring then_part env else event_in occurring else_part env)) =
      told ∙ ap (λ (given : Given). given >>= λ c. (if holds c then event_in occurring then_part env else event_in occurring else_part env)) value_is in
      let first = ap (λ v. plainly v plain) (choices-Choose (expr.Truth false) all_true condition then_part else_part)
      ∙ plain_choice condition (presence_of then_part) (presence_of else_part) in
      let second = ap (λ v. plainly v plain) (choices-Choose (zero_of ty) as_it_is condition then_part else_part)
      ∙ plain_choice condition (word_expression_of ty then_part) (word_expression_of ty else_part) in
      subst (λ event. AreTwo ty event (plainly (presence_of (expr.Choose condition then_part else_part)) plain)
      (plainly (word_expression_of ty (expr.Choose condition then_part else_part)) plain)) (sym event_is)
      (subst (λ given. AreTwo ty
      (plainly condition plain >>= λ c. (if holds c then event_in occurring then_part env else event_in occurring else_part env)) given
      (plainly (word_expression_of ty (expr.Choose condition then_part else_part)) plain)) (sym first)
      (subst (λ given. AreTwo ty (plainly condition plain >>= λ c. (if holds c then event_in occurring then_part env else event_in occurring else_part env))
      (chosen_of (plainly condition plain) (plainly (presence_of then_part) plain) (plainly (presence_of else_part) plain)) given) (sym second)
      (choose_two ty (plainly condition plain) (event_in occurring then_part env) (event_in occurring else_part env) (plainly (presence_of then_part) plain)
      (plainly (presence_of else_part) plain) (plainly (word_expression_of ty then_part) plain) (plainly (word_expression_of ty else_part) plain)
      (on_then parts.1) (on_else parts.2))))

  pub two-Number : (word : ℤ) (decimals : ℕ) → Two (expr.Number word decimals)
  two-Number word decimals =
      no_choice (expr.Number word decimals) (choices-Number (expr.Truth false) all_true word decimals) (choices-Number (zero_of ty) as_it_is word decimals)
      (told_by (expr.Number word decimals) _ (fold-Number Telling (node_telling occurring) word decimals) refl)

  pub two-Truth : (told : Bool) → Two (expr.Truth told)
  two-Truth told = no_choice (expr.Truth told) (choices-Truth (expr.Truth false) all_true told) (choices-Truth (zero_of ty) as_it_is told)
      (told_by (expr.Truth told) _ (fold-Truth Telling (node_telling occurring) told) refl)

  pub two-Var : (name : List ℕ) → Two (expr.Var name)
  two-Var name = no_choice (expr.Var name) (choices-Var (expr.Truth false) all_true name) (choices-Var (zero_of ty) as_it_is name)
      (told_by (expr.Var name) _ (fold-Var Telling (node_telling occurring) name) refl)

  pub two-Time : Two expr.Time
  two-Time = no_choice expr.Time (choices-Time (expr.Truth false) all_true) (choices-Time (zero_of ty) as_it_is)
      (told_by expr.Time _ (fold-Time Telling (node_telling occurring)) refl)

  pub two-Step : Two expr.Step
  two-Step = no_choice expr.Step (choices-Step (expr.Truth false) all_true) (choices-Step (zero_of ty) as_it_is)
      (told_by expr.Step _ (fold-Step Telling (node_telling occurring)) refl)

  pub two-Unary : (op : UnOp) (arg : Expr) → Two (expr.Unary op arg)
  two-Unary op arg = no_choice (expr.Unary op arg) (choices-Unary (expr.Truth false) all_true op arg) (choices-Unary (zero_of ty) as_it_is op arg)
      (told_by (expr.Unary op arg) _ (fold-Unary Telling (node_telling occurring) op arg) refl)

  pub two-Binary : (op : BinOp) (left right : Expr) → Two (expr.Binary op left right)
  two-Binary op left right =
      no_choice (expr.Binary op left right) (choices-Binary (expr.Truth false) all_true op left right) (choices-Binary (zero_of ty) as_it_is op left right)
      (told_by (expr.Binary op left right) _ (fold-Binary Telling (node_telling occurring) op left right) refl)

  pub two-Clamp : (value low high : Expr) → Two (expr.Clamp value low high)
  two-Clamp value low high =
      no_choice (expr.Clamp value low high) (choices-Clamp (expr.Truth false) all_true value low high) (choices-Clamp (zero_of ty) as_it_is value low high)
      (told_by (expr.Clamp value low high) _ (fold-Clamp Telling (node_telling occurring) value low high) refl)

  pub two-Present : (name : List ℕ) → Two (expr.Present name)
  two-Present name = no_choice (expr.Present name) (choices-Present (expr.Truth false) all_true name) (choices-Present (zero_of ty) as_it_is name)
      (told_by (expr.Present name) _ (fold-Present Telling (node_telling occurring) name) refl)

  abbrev pub Proved : Type 0
  Proved = (value : Expr) × Two value

  abbrev pub in_proved : Proved → Expr
  in_proved one = one.0

  pub node : (y : Expr-F Proved) → Two (roll-Expr (map-Expr Proved Expr in_proved y))
  node (Expr-F.Number word decimals) = subst Two (sym (rolls-Number word decimals)) (two-Number word decimals)
  node (Expr-F.Truth told) = subst Two (sym (rolls-Truth told)) (two-Truth told)
  node (Expr-F.Var name) = subst Two (sym (rolls-Var name)) (two-Var name)
  node Expr-F.Time = subst Two (sym rolls-Time) two-Time
  node Expr-F.Step = subst Two (sym rolls-Step) two-Step
  node (Expr-F.Unary op arg) = subst Two (sym (rolls-Unary op arg.0)) (two-Unary op arg.0)
  node (Expr-F.Binary op left right) = subst Two (sym (rolls-Binary op left.0 right.0)) (two-Binary op left.0 right.0)
  node (Expr-F.Clamp value low high) = subst Two (sym (rolls-Clamp value.0 low.0 high.0)) (two-Clamp value.0 low.0 high.0)
  node (Expr-F.Choose condition then_part else_part) =
      subst Two (sym (rolls-Choose condition.0 then_part.0 else_part.0)) (two-Choose condition.0 then_part.0 else_part.0 then_part.1 else_part.1)
  node Expr-F.Absent = subst Two (sym rolls-Absent) two-Absent
  node (Expr-F.Present name) = subst Two (sym (rolls-Present name)) (two-Present name)

  pub two : (value : Expr) → Two value
  two = ind-Expr Two (λ x y is. subst (λ z. Two (roll-Expr z)) is (node y))
