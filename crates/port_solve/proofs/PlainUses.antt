-- Outputs of the plain form use only the inputs in their needs, where those of the system do.
use Rattle.std.proofs.Common.{◌≡◌, ℕ, ℤ, zero, suc, Bool, true, false, List, ◌++◌, sym, subst, pos}
use Rattle.std.specs.List.{AllByRecursion}
use Rattle.fixed_words.specs.declared.types.Ty.{Ty}
use Rattle.fixed_words.specs.declared.types.Ty.TheVariants as types
use Rattle.unit_tree.specs.Names.{node_names, names_in}
use Rattle.unit_tree.specs.Plain.{presence_name, plain_expression, with_choices, presence_of, zero_of, word_expression_of}
use Rattle.unit_tree.specs.declared.expr.Expr as expr
use Rattle.unit_tree.specs.declared.expr.Expr.{Expr}
use Rattle.unit_tree.specs.declared.expr.Expr.TheFolds.{ind-Expr, map-Expr}
use Rattle.unit_tree.specs.declared.expr.Expr.TheOpen.{Expr-F}
use Rattle.unit_tree.specs.declared.expr.Expr.TheVariants.{rolls-Number, rolls-Truth, rolls-Var, rolls-Time, rolls-Step, rolls-Unary, rolls-Binary, rolls-Clamp}
use Rattle.unit_tree.specs.declared.expr.Expr.TheVariants.{rolls-Choose, rolls-Absent, rolls-Present}
use Rattle.unit_tree.specs.declared.expr.Expr.TheViews.{roll-Expr}
use Rattle.unit_tree.specs.declared.expr.BinOp.{BinOp}
use Rattle.unit_tree.specs.declared.expr.UnOp.{UnOp}
use Rattle.unit_tree.specs.declared.expr.UnOp.TheVariants as of
use Rattle.unit_tree.proofs.FoldLemmas.{fold-Number, fold-Truth, fold-Var, fold-Time, fold-Step, fold-Unary, fold-Binary, fold-Clamp, fold-Choose, fold-Absent}
use Rattle.unit_tree.proofs.FoldLemmas.{fold-Present}
use Rattle.language_laws.proofs.PlainLemmas.{plain-Number, plain-Truth, plain-Var, plain-Time, plain-Step, plain-Unary, plain-Binary, plain-Clamp, plain-Choose}
use Rattle.language_laws.proofs.PlainLemmas.{plain-Absent, plain-Present, choices-Number, choices-Truth, choices-Var, choices-Time, choices-Step, choices-Unary}
use Rattle.language_laws.proofs.PlainLemmas.{choices-Binary, choices-Clamp, choices-Choose, choices-Absent, choices-Present}
use Rattle.list_laws.proofs.Lists.{each_part, each_append}

-- ---- Names in an expression

abbrev pub Names : (List ℕ → Type 0) → Expr → Type 0
Names Q value = AllByRecursion Q (names_in value)

module _ (Q : List ℕ → Type 0) where
  names-Number : (number : ℤ) (decimals : ℕ) → Names Q (expr.Number number decimals)
  names-Number number decimals = subst (AllByRecursion Q) (sym (fold-Number (List (List ℕ)) node_names number decimals)) tt

  names-Truth : (told : Bool) → Names Q (expr.Truth told)
  names-Truth told = subst (AllByRecursion Q) (sym (fold-Truth (List (List ℕ)) node_names told)) tt

  names-Time : Names Q expr.Time
  names-Time = subst (AllByRecursion Q) (sym (fold-Time (List (List ℕ)) node_names)) tt

  names-Step : Names Q expr.Step
  names-Step = subst (AllByRecursion Q) (sym (fold-Step (List (List ℕ)) node_names)) tt

  names-Absent : Names Q expr.Absent
  names-Absent = subst (AllByRecursion Q) (sym (fold-Absent (List (List ℕ)) node_names)) tt

  names-Var : (name : List ℕ) → Q name → Names Q (expr.Var name)
  names-Var name holds = subst (AllByRecursion Q) (sym (fold-Var (List (List ℕ)) node_names name)) (holds, tt)

  in-Var : (name : List ℕ) → Names Q (expr.Var name) → Q name
  in-Var name all = (subst (AllByRecursion Q) (fold-Var (List (List ℕ)) node_names name) all).0

  in-Present : (name : List ℕ) → Names Q (expr.Present name) → Q name
  in-Present name all = (subst (AllByRecursion Q) (fold-Present (List (List ℕ)) node_names name) all).0

  names-Unary : (op : UnOp) (arg : Expr) → Names Q arg → Names Q (expr.Unary op arg)
  names-Unary op arg all = subst (AllByRecursion Q) (sym (fold-Unary (List (List ℕ)) node_names op arg)) all

  in-Unary : (op : UnOp) (arg : Expr) → Names Q (expr.Unary op arg) → Names Q arg
  in-Unary op arg all = subst (AllByRecursion Q) (fold-Unary (List (List ℕ)) node_names op arg) all

  names-Binary : (op : BinOp) (left right : Expr) → Names Q left → Names Q right → Names Q (expr.Binary op left right)
  names-Binary op left right one other =
      subst (AllByRecursion Q) (sym (fold-Binary (List (List ℕ)) node_names op left right)) (each_append Q (names_in left) (names_in right) one other)

  in-Binary : (op : BinOp) (left right : Expr) → Names Q (expr.Binary op left right) → Names Q left × Names Q right
  in-Binary op left right all =
      each_part Q (names_in left) (names_in right) (subst (AllByRecursion Q) (fold-Binary (List (List ℕ)) node_names op left right) all)

  three : (a b c : Expr) → Names Q a → Names Q b → Names Q c → AllByRecursion Q ((names_in a ++ names_in b) ++ names_in c)
  three a b c one two other = each_append Q (names_in a ++ names_in b) (names_in c) (each_append Q (names_in a) (names_in b) one two) other

  of_three : (a b c : Expr) → AllByRecursion Q ((names_in a ++ names_in b) ++ names_in c) → Names Q a × Names Q b × Names Q c
  of_three a b c all =
      let first = each_part Q (names_in a ++ names_in b) (names_in c) all in
      let second = each_part Q (names_in a) (names_in b) first.0 in
      (second.0, second.1, first.1)

  names-Clamp : (value low high : Expr) → Names Q value → Names Q low → Names Q high → Names Q (expr.Clamp value low high)
  names-Clamp value low high one two other =
      subst (AllByRecursion Q) (sym (fold-Clamp (List (List ℕ)) node_names value low high)) (three value low high one two other)

  in-Clamp : (value low high : Expr) → Names Q (expr.Clamp value low high) → Names Q value × Names Q low × Names Q high
  in-Clamp value low high all = of_three value low high (subst (AllByRecursion Q) (fold-Clamp (List (List ℕ)) node_names value low high) all)

  names-Choose : (condition then_part else_part : Expr) → Names Q condition → Names Q then_part → Names Q else_part
      → Names Q (expr.Choose condition then_part else_part)
  names-Choose condition then_part else_part one two other =
      subst (AllByRecursion Q) (sym (fold-Choose (List (List ℕ)) node_names condition then_part else_part)) (three condition then_part else_part one two other)

  in-Choose : (condition then_part else_part : Expr) → Names Q (expr.Choose condition then_part else_part)
      → Names Q condition × Names Q then_part × Names Q else_part
  in-Choose condition then_part else_part all =
      of_three condition then_part else_part (subst (AllByRecursion Q) (fold-Choose (List (List ℕ)) node_names condition then_part else_part) all)

-- ---- The plain form of an expression

module _ (Q R : List ℕ → Type 0) (keeps : (name : List ℕ) → Q name → R name) (presence : (name : List ℕ) → Q name → R (presence_name name)) where
  abbrev Claim : Expr → Type 0
  Claim value = Names Q value → Names R (plain_expression value)

  abbrev Proved : Type 0
  Proved = (value : Expr) × Claim value

  abbrev bare : Proved → Expr
  bare value = value.0

  made_as : (made value : Expr) → plain_expression value ≡ made → Names R made → Names R (plain_expression value)
  made_as made value is all = subst (Names R) (sym is) all

  claim-Binary : (op : BinOp) (left right : Expr) → Claim left → Claim right → Claim (expr.Binary op left right)
  claim-Binary op left right on_left on_right all =
      let parts = in-Binary Q op left right all in
      made_as (expr.Binary op (plain_expression left) (plain_expression right)) (expr.Binary op left right) (plain-Binary op left right)
      (names-Binary R op (plain_expression left) (plain_expression right) (on_left parts.0) (on_right parts.1))

  claim-Clamp : (value low high : Expr) → Claim value → Claim low → Claim high → Claim (expr.Clamp value low high)
  claim-Clamp value low high on_value on_low on_high all =
      let parts = in-Clamp Q value low high all in
      made_as (expr.Clamp (plain_expression value) (plain_expression low) (plain_expression high)) (expr.Clamp value low high) (plain-Clamp value low high)
      (names-Clamp R (plain_expression value) (plain_expression low) (plain_expression high) (on_value parts.0) (on_low parts.1) (on_high parts.2))

  claim-Choose : (condition then_part else_part : Expr) → Claim condition → Claim then_part → Claim else_part
      → Claim (expr.Choose condition then_part else_part)
  claim-Choose condition then_part else_part on_condition on_then on_else all =
      let parts = in-Choose Q condition then_part else_part all in
      made_as (expr.Choose (plain_expression condition) (plain_expression then_part) (plain_expression else_part)) (expr.Choose condition then_part else_part)
      (plain-Choose condition then_part else_part)
      (names-Choose R (plain_expression condition) (plain_expression then_part) (plain_expression else_part) (on_condition parts.0) (on_then parts.1)
      (on_else parts.2))

  node : (y : Expr-F Proved) → Claim (roll-Expr (map-Expr Proved Expr bare y))
  node (Expr-F.Number number decimals) =
      subst Claim (sym (rolls-Number number decimals))
      (λ all. made_as (expr.Number number decimals) (expr.Number number decimals) (plain-Number number decimals) (names-Number R number decimals))
  node (Expr-F.Truth told) = subst Claim (sym (rolls-Truth told)) (λ all. made_as (expr.Truth told) (expr.Truth told) (plain-Truth told) (names-Truth R told))
  node (Expr-F.Var name) =
      subst Claim (sym (rolls-Var name)) (λ all. made_as (expr.Var name) (expr.Var name) (plain-Var name) (names-Var R name (keeps name (in-Var Q name all))))
  node Expr-F.Time = subst Claim (sym rolls-Time) (λ all. made_as expr.Time expr.Time plain-Time (names-Time R))
  node Expr-F.Step = subst Claim (sym rolls-Step) (λ all. made_as expr.Step expr.Step plain-Step (names-Step R))
  node (Expr-F.Unary op arg) =
      subst Claim (sym (rolls-Unary op (bare arg)))
      (λ all. made_as (expr.Unary op (plain_expression (bare arg))) (expr.Unary op (bare arg)) (plain-Unary op (bare arg))
      (names-Unary R op (plain_expression (bare arg)) (arg.1 (in-Unary Q op (bare arg) all))))
  node (Expr-F.Binary op left right) = subst Claim (sym (rolls-Binary op (bare left) (bare right))) (claim-Binary op (bare left) (bare right) left.1 right.1)
  node (Expr-F.Clamp value low high) =
      subst Claim (sym (rolls-Clamp (bare value) (bare low) (bare high))) (claim-Clamp (bare value) (bare low) (bare high) value.1 low.1 high.1)
  node (Expr-F.Choose condition then_part else_part) =
      subst Claim (sym (rolls-Choose (bare condition) (bare then_part) (bare else_part)))
      (claim-Choose (bare condition) (bare then_part) (bare else_part) condition.1 then_part.1 else_part.1)
  node Expr-F.Absent = subst Claim (sym rolls-Absent) (λ all. made_as expr.Absent expr.Absent plain-Absent (names-Absent R))
  node (Expr-F.Present name) =
      subst Claim (sym (rolls-Present name))
      (λ all. made_as (expr.Var (presence_name name)) (expr.Present name) (plain-Present name)
      (names-Var R (presence_name name) (presence name (in-Present Q name all))))

  pub plain_names : (value : Expr) → Claim value
  plain_names = ind-Expr Claim (λ x y is. subst (λ z. Claim (roll-Expr z)) is (node y))

-- ---- The choices of an event output

module _ (Q : List ℕ → Type 0) (gap : Expr) (change : Expr → Expr) (on_gap : Names Q gap)
    (on_change : (other : Expr) → Names Q other → Names Q (change other)) where
  abbrev Chosen : Expr → Type 0
  Chosen value = Names Q value → Names Q (with_choices gap change value)

  abbrev ProvedChoice : Type 0
  ProvedChoice = (value : Expr) × Chosen value

  abbrev bare_choice : ProvedChoice → Expr
  bare_choice value = value.0

  changed : (value : Expr) → with_choices gap change value ≡ change value → Chosen value
  changed value is all = subst (Names Q) (sym is) (on_change value all)

  chosen-Choose : (condition then_part else_part : Expr) → Chosen then_part → Chosen else_part → Chosen (expr.Choose condition then_part else_part)
  chosen-Choose condition then_part else_part on_then on_else all =
      let parts = in-Choose Q condition then_part else_part all in
      subst (Names Q) (sym (choices-Choose gap change condition then_part else_part))
      (names-Choose Q condition (with_choices gap change then_part) (with_choices gap change else_part) parts.0 (on_then parts.1) (on_else parts.2))

  choice : (y : Expr-F ProvedChoice) → Chosen (roll-Expr (map-Expr ProvedChoice Expr bare_choice y))
  choice (Expr-F.Number number decimals) =
      subst Chosen (sym (rolls-Number number decimals)) (changed (expr.Number number decimals) (choices-Number gap change number decimals))
  choice (Expr-F.Truth told) = subst Chosen (sym (rolls-Truth told)) (changed (expr.Truth told) (choices-Truth gap change told))
  choice (Expr-F.Var name) = subst Chosen (sym (rolls-Var name)) (changed (expr.Var name) (choices-Var gap change name))
  choice Expr-F.Time = subst Chosen (sym rolls-Time) (changed expr.Time (choices-Time gap change))
  choice Expr-F.Step = subst Chosen (sym rolls-Step) (changed expr.Step (choices-Step gap change))
  choice (Expr-F.Unary op arg) =
      subst Chosen (sym (rolls-Unary op (bare_choice arg))) (changed (expr.Unary op (bare_choice arg)) (choices-Unary gap change op (bare_choice arg)))
  choice (Expr-F.Binary op left right) =
      subst Chosen (sym (rolls-Binary op (bare_choice left) (bare_choice right)))
      (changed (expr.Binary op (bare_choice left) (bare_choice right)) (choices-Binary gap change op (bare_choice left) (bare_choice right)))
  choice (Expr-F.Clamp value low high) =
      subst Chosen (sym (rolls-Clamp (bare_choice value) (bare_choice low) (bare_choice high)))
      (changed (expr.Clamp (bare_choice value) (bare_choice low) (bare_choice high))
      (choices-Clamp gap change (bare_choice value) (bare_choice low) (bare_choice high)))
  choice (Expr-F.Choose condition then_part else_part) =
      subst Chosen (sym (rolls-Choose (bare_choice condition) (bare_choice then_part) (bare_choice else_part)))
      (chosen-Choose (bare_choice condition) (bare_choice then_part) (bare_choice else_part) then_part.1 else_part.1)
  choice Expr-F.Absent = subst Chosen (sym rolls-Absent) (λ all. subst (Names Q) (sym (choices-Absent gap change)) on_gap)
  choice (Expr-F.Present name) = subst Chosen (sym (rolls-Present name)) (changed (expr.Present name) (choices-Present gap change name))

  pub chosen_names : (value : Expr) → Chosen value
  chosen_names = ind-Expr Chosen (λ x y is. subst (λ z. Chosen (roll-Expr z)) is (choice y))

zero_names : (Q : List ℕ → Type 0) (ty : Ty) → Names Q (zero_of ty)
zero_names Q types.Bool = names-Truth Q false
zero_names Q (types.Fixed zero) = names-Unary Q (of.ToFix 0) (expr.Number (pos 0) 0) (names-Number Q (pos 0) 0)
zero_names Q (types.Fixed (suc less)) = names-Number Q (pos 0) (suc less)
zero_names Q types.Int8 = names-Number Q (pos 0) 0
zero_names Q types.UInt8 = names-Number Q (pos 0) 0
zero_names Q types.Int16 = names-Number Q (pos 0) 0
zero_names Q types.UInt16 = names-Number Q (pos 0) 0
zero_names Q types.Int32 = names-Number Q (pos 0) 0
zero_names Q types.UInt32 = names-Number Q (pos 0) 0
zero_names Q types.Int64 = names-Number Q (pos 0) 0

pub presence_names : (Q : List ℕ → Type 0) (value : Expr) → Names Q value → Names Q (presence_of value)
presence_names Q value all = chosen_names Q (expr.Truth false) (λ other. expr.Truth true) (names-Truth Q false) (λ other has. names-Truth Q true) value all

pub word_names : (Q : List ℕ → Type 0) (ty : Ty) (value : Expr) → Names Q value → Names Q (word_expression_of ty value)
word_names Q ty value all = chosen_names Q (zero_of ty) (λ other. other) (zero_names Q ty) (λ other has. has) value all
