-- The plain form of an expression means what the expression does.
use Rattle.std.proofs.Common.{◌≡◌, ℕ, Bool, true, ℤ, List, [], ◌∷◌, ◌++◌, if◌then◌else◌, Result, Ok, refl, sym, ap, ◌∙◌, subst}
use Rattle.std.specs.List.{AllByRecursion, list_all}
use Rattle.std.proofs.lemmas.Bool.{and_parts}
use Rattle.fixed_words.specs.declared.types.Fault.{Fault}
use Rattle.unit_tree.specs.Names.{is_among, are_among, names_in, node_names, events_asked_in, node_events}
use Rattle.unit_tree.specs.Plain.{plain_expression, presence_name}
use Rattle.unit_tree.specs.Tokens.{IsWord}
use Rattle.unit_tree.specs.Values.{◌>>=◌, Meaning, node_meaning, truth, holds, unary_value, binary_value, clamped_value, value_of}
use Rattle.unit_tree.specs.declared.environment.Environment.{Environment}
use Rattle.unit_tree.specs.declared.environment.Value.{Value}
use Rattle.unit_tree.specs.declared.expr.BinOp.{BinOp}
use Rattle.unit_tree.specs.declared.expr.Expr as expr
use Rattle.unit_tree.specs.declared.expr.Expr.{Expr}
use Rattle.unit_tree.specs.declared.expr.Expr.TheFolds.{ind-Expr, map-Expr}
use Rattle.unit_tree.specs.declared.expr.Expr.TheOpen.{Expr-F}
use Rattle.unit_tree.specs.declared.expr.Expr.TheVariants.{rolls-Number, rolls-Truth, rolls-Var, rolls-Time, rolls-Step, rolls-Unary, rolls-Binary}
use Rattle.unit_tree.specs.declared.expr.Expr.TheVariants.{rolls-Clamp, rolls-Choose, rolls-Absent, rolls-Present}
use Rattle.unit_tree.specs.declared.expr.Expr.TheViews.{roll-Expr}
use Rattle.unit_tree.specs.declared.expr.UnOp.{UnOp}
use Rattle.unit_tree.proofs.FoldLemmas.{fold-Number, fold-Truth, fold-Var, fold-Time, fold-Step, fold-Unary, fold-Binary, fold-Clamp, fold-Choose, fold-Absent}
use Rattle.unit_tree.proofs.FoldLemmas.{fold-Present}
use Rattle.language_laws.proofs.MeaningLemmas.{value-Number, value-Truth, value-Var, value-Time, value-Step, value-Unary, value-Binary, value-Clamp}
use Rattle.language_laws.proofs.MeaningLemmas.{value-Choose}
use Rattle.language_laws.proofs.PlainLemmas.{plain-Number, plain-Truth, plain-Var, plain-Time, plain-Step, plain-Unary, plain-Binary, plain-Clamp}
use Rattle.language_laws.proofs.PlainLemmas.{plain-Choose, plain-Absent, plain-Present}
use Rattle.list_laws.proofs.Lists.{each_part}
use Rattle.event_runs.specs.Events.{Occurring, node_in, value_in}
use Rattle.event_runs.specs.Laws.{Speaks, Shows}

-- ---- What the parts of an expression use

pub all_halves : {A : Type 0} (test : A → Bool) (one other : List A) → list_all test (one ++ other) ≡ true
    → (list_all test one ≡ true) × (list_all test other ≡ true)
all_halves test [] other all = (refl, all)
all_halves test (first ∷ one) other all =
    let both = and_parts (test first) (list_all test (one ++ other)) all in
    let rest = all_halves test one other both.1 in
    (rw (both.0, rest.0) refl, rest.1)

-- From what is known of two parts.
pub record Parts (events names asked names' asked' : List (List ℕ)) : Type 0 where
  pub names_one : AllByRecursion IsWord names
  pub asked_one : are_among events asked ≡ true
  pub names_other : AllByRecursion IsWord names'
  pub asked_other : are_among events asked' ≡ true

pub parted : (events names asked names' asked' : List (List ℕ)) → AllByRecursion IsWord (names ++ names') → are_among events (asked ++ asked') ≡ true
    → Parts events names asked names' asked'
parted events names asked names' asked' words among =
    let on_names = each_part IsWord names names' words in
    let on_asked = all_halves (is_among events) asked asked' among in
    record { names_one = on_names.0; asked_one = on_asked.0; names_other = on_names.1; asked_other = on_asked.1 }

module _ (events : List (List ℕ)) where
  abbrev pub Said : Expr → Type 0
  Said value = Speaks events value

  pub said-Unary : (op : UnOp) (arg : Expr) → Said (expr.Unary op arg) → Said arg
  said-Unary op arg said = record {
    names = subst (AllByRecursion IsWord) (fold-Unary (List (List ℕ)) node_names op arg) said.names;
    asked = subst (λ names. are_among events names ≡ true) (fold-Unary (List (List ℕ)) node_events op arg) said.asked;
  }

  pub said-Binary : (op : BinOp) (left right : Expr) → Said (expr.Binary op left right) → Said left × Said right
  said-Binary op left right said =
      let parts = parted events (names_in left) (events_asked_in left) (names_in right) (events_asked_in right)
      (subst (AllByRecursion IsWord) (fold-Binary (List (List ℕ)) node_names op left right) said.names)
      (subst (λ names. are_among events names ≡ true) (fold-Binary (List (List ℕ)) node_events op left right) said.asked) in
      (record { names = parts.names_one; asked = parts.asked_one }, record { names = parts.names_other; asked = parts.asked_other })

  pub said-three : (one two three : Expr) → AllByRecursion IsWord (names_in one ++ names_in two ++ names_in three)
      → are_among events (events_asked_in one ++ events_asked_in two ++ events_asked_in three) ≡ true → Said one × Said two × Said three
  said-three one two three words among =
      let last = parted events (names_in one ++ names_in two) (events_asked_in one ++ events_asked_in two) (names_in three)
      (events_asked_in three) words among in
      let first = parted events (names_in one) (events_asked_in one) (names_in two) (events_asked_in two) last.names_one last.asked_one in (
        record { names = first.names_one; asked = first.asked_one },
        record { names = first.names_other; asked = first.asked_other },
        record {
          names =
              last.names_other;
          asked = last.asked_other;
        },
      )

  pub said-Clamp : (value low high : Expr) → Said (expr.Clamp value low high) → Said value × Said low × Said high
  said-Clamp value low high said =
      said-three value low high
      (subst (AllByRecursion IsWord) (fold-Clamp (List (List ℕ)) node_names value low high) said.names)
      (subst (λ names. are_among events names ≡ true) (fold-Clamp (List (List ℕ)) node_events value low high) said.asked)

  pub said-Choose : (condition then_part else_part : Expr) → Said (expr.Choose condition then_part else_part) → Said condition × Said then_part × Said else_part
  said-Choose condition then_part else_part said =
      said-three condition then_part else_part
      (subst (AllByRecursion IsWord) (fold-Choose (List (List ℕ)) node_names condition then_part else_part) said.names)
      (subst (λ names. are_among events names ≡ true) (fold-Choose (List (List ℕ)) node_events condition then_part else_part) said.asked)

  pub said-Var : (name : List ℕ) → Said (expr.Var name) → IsWord name
  said-Var name said = (subst (AllByRecursion IsWord) (fold-Var (List (List ℕ)) node_names name) said.names).0

  pub said-Present : (name : List ℕ) → Said (expr.Present name) → is_among events name ≡ true
  said-Present name said =
      let only : are_among events (name ∷ []) ≡ true =
      subst (λ names. are_among events names ≡ true) (fold-Present (List (List ℕ)) node_events name) said.asked in
      (and_parts (is_among events name) true only).0

-- ---- Values of single nodes

module _ (occurring : Occurring) (env : Environment) where
  abbrev pub of_meaning : Meaning → Result Value Fault
  of_meaning meaning = meaning env

  pub in-Number : (word : ℤ) (decimals : ℕ) → value_in occurring (expr.Number word decimals) env ≡ node_meaning (Expr-F.Number word decimals) env
  in-Number word decimals = ap of_meaning (fold-Number Meaning (node_in occurring) word decimals)

  pub in-Truth : (told : Bool) → value_in occurring (expr.Truth told) env ≡ node_meaning (Expr-F.Truth told) env
  in-Truth told = ap of_meaning (fold-Truth Meaning (node_in occurring) told)

  pub in-Var : (name : List ℕ) → value_in occurring (expr.Var name) env ≡ node_meaning (Expr-F.Var name) env
  in-Var name = ap of_meaning (fold-Var Meaning (node_in occurring) name)

  pub in-Time : value_in occurring expr.Time env ≡ node_meaning Expr-F.Time env
  in-Time = ap of_meaning (fold-Time Meaning (node_in occurring))

  pub in-Step : value_in occurring expr.Step env ≡ node_meaning Expr-F.Step env
  in-Step = ap of_meaning (fold-Step Meaning (node_in occurring))

  pub in-Unary : (op : UnOp) (arg : Expr) → value_in occurring (expr.Unary op arg) env ≡ node_meaning (Expr-F.Unary op (value_in occurring arg)) env
  in-Unary op arg = ap of_meaning (fold-Unary Meaning (node_in occurring) op arg)

  pub in-Binary : (op : BinOp) (left right : Expr)
      → value_in occurring (expr.Binary op left right) env ≡ node_meaning (Expr-F.Binary op (value_in occurring left) (value_in occurring right)) env
  in-Binary op left right = ap of_meaning (fold-Binary Meaning (node_in occurring) op left right)

  pub in-Clamp : (value low high : Expr)
      → value_in occurring (expr.Clamp value low high) env
      ≡ node_meaning (Expr-F.Clamp (value_in occurring value) (value_in occurring low) (value_in occurring high)) env
  in-Clamp value low high = ap of_meaning (fold-Clamp Meaning (node_in occurring) value low high)

  pub in-Choose : (condition then_part else_part : Expr)
      → value_in occurring (expr.Choose condition then_part else_part) env
      ≡ node_meaning (Expr-F.Choose (value_in occurring condition) (value_in occurring then_part) (value_in occurring else_part)) env
  in-Choose condition then_part else_part = ap of_meaning (fold-Choose Meaning (node_in occurring) condition then_part else_part)

  pub in-Absent : value_in occurring expr.Absent env ≡ node_meaning Expr-F.Absent env
  in-Absent = ap of_meaning (fold-Absent Meaning (node_in occurring))

  pub in-Present : (name : List ℕ) → value_in occurring (expr.Present name) env ≡ Ok (truth (occurring name))
  in-Present name = ap of_meaning (fold-Present Meaning (node_in occurring) name)

-- ---- Results of parts

abbrev pub Given : Type 0
Given = Result Value Fault

pub same-two : (op : BinOp) (left left' right right' : Given) → left ≡ left' → right ≡ right'
    → (left >>= λ x. (right >>= λ y. binary_value op x y)) ≡ (left' >>= λ x. (right' >>= λ y. binary_value op x y))
same-two op left left' right right' on_left on_right =
    ap (λ (one : Given). one >>= λ x. (right >>= λ y. binary_value op x y)) on_left
    ∙ ap (λ (other : Given). left' >>= λ x. (other >>= λ y. binary_value op x y)) on_right

pub same-three : (value value' low low' high high' : Given) → value ≡ value' → low ≡ low' → high ≡ high'
    → clamped_value value low high ≡ clamped_value value' low' high'
same-three value value' low low' high high' on_value on_low on_high =
    ap (λ v. clamped_value v low high) on_value ∙ ap (λ l. clamped_value value' l high) on_low ∙ ap (λ h. clamped_value value' low' h) on_high

pub same-choice : {A : Type 0} (condition condition' : Given) (one one' other other' : A) → condition ≡ condition' → one ≡ one' → other ≡ other'
    → (next : A → Result A Fault) → (condition >>= λ c. next (if holds c then one else other)) ≡ (condition' >>= λ c. next (if holds c then one' else other'))
same-choice condition condition' one one' other other' on_condition on_one on_other next =
    ap (λ (given : Given). given >>= λ c. next (if holds c then one else other)) on_condition
    ∙ ap (λ x. condition' >>= λ c. next (if holds c then x else other)) on_one
    ∙ ap (λ x. condition' >>= λ c. next (if holds c then one' else x)) on_other

pub same-choose : {A : Type 0} (condition condition' : Given) (one one' other other' : Result A Fault) → condition ≡ condition' → one ≡ one' → other ≡ other'
    → (condition >>= λ c. (if holds c then one else other)) ≡ (condition' >>= λ c. (if holds c then one' else other'))
same-choose condition condition' one one' other other' on_condition on_one on_other =
    ap (λ (given : Given). given >>= λ c. (if holds c then one else other)) on_condition
    ∙ ap (λ x. condition' >>= λ c. (if holds c then x else other)) on_one
    ∙ ap (λ x. condition' >>= λ c. (if holds c then one' else x)) on_other

-- ---- The law

module _ (occurring : Occurring) (events : List (List ℕ)) (env plain : Environment) (shows : Shows occurring events env plain) where
  abbrev pub Same : Expr → Type 0
  Same value = Speaks events value → value_of (plain_expression value) plain ≡ value_in occurring value env

  abbrev pub seen_plain : Expr → Given
  seen_plain value = value_of value plain

  pub same-Unary : (op : UnOp) (arg : Expr) → Same arg → Same (expr.Unary op arg)
  same-Unary op arg on_arg said =
      ap seen_plain (plain-Unary op arg) ∙ value-Unary op (plain_expression arg) plain
      ∙ ap (λ (given : Given). given >>= λ x. unary_value op x) (on_arg (said-Unary events op arg said))
      ∙ sym (in-Unary occurring env op arg)

  pub same-Binary : (op : BinOp) (left right : Expr) → Same left → Same right → Same (expr.Binary op left right)
  same-Binary op left right on_left on_right said =
      let parts = said-Binary events op left right said in
      ap seen_plain (plain-Binary op left right) ∙ value-Binary op (plain_expression left) (plain_expression right) plain
      ∙ same-two op (value_of (plain_expression left) plain) (value_in occurring left env) (value_of (plain_expression right) plain)
      (value_in occurring right env) (on_left parts.0) (on_right parts.1)
      ∙ sym (in-Binary occurring env op left right)

  pub same-Clamp : (value low high : Expr) → Same value → Same low → Same high → Same (expr.Clamp value low high)
  same-Clamp value low high on_value on_low on_high said =
      let parts = said-Clamp events value low high said in
      ap seen_plain (plain-Clamp value low high) ∙ value-Clamp (plain_expression value) (plain_expression low) (plain_expression high) plain
      ∙ same-three (value_of (plain_expression value) plain) (value_in occurring value env) (value_of (plain_expression low) plain) (value_in occurring low env)
      (value_of (plain_expression high) plain) (value_in occurring high env) (on_value parts.0) (on_low parts.1) (on_high parts.2)
      ∙ sym (in-Clamp occurring env value low high)

  pub same-Choose : (condition then_part else_part : Expr) → Same condition → Same then_part → Same else_part → Same (expr.Choose condition then_part else_part)
  same-Choose condition then_part else_part on_condition on_then on_else said =
      let parts = said-Choose events condition then_part else_part said in
      ap seen_plain (plain-Choose condition then_part else_part)
      ∙ value-Choose (plain_expression condition) (plain_expression then_part) (plain_expression else_part) plain
      ∙ same-choose (value_of (plain_expression condition) plain) (value_in occurring condition env) (value_of (plain_expression then_part) plain)
      (value_in occurring then_part env) (value_of (plain_expression else_part) plain) (value_in occurring else_part env) (on_condition parts.0)
      (on_then parts.1) (on_else parts.2)
      ∙ sym (in-Choose occurring env condition then_part else_part)

  pub same-Var : (name : List ℕ) → Same (expr.Var name)
  same-Var name said =
      ap seen_plain (plain-Var name) ∙ value-Var name plain
      ∙ ap (λ (value : Value). Ok value) (shows.names name (said-Var events name said))
      ∙ sym (in-Var occurring env name)

  pub same-Present : (name : List ℕ) → Same (expr.Present name)
  same-Present name said =
      ap seen_plain (plain-Present name) ∙ value-Var (presence_name name) plain
      ∙ ap (λ (value : Value). Ok value) (shows.tells name (said-Present events name said))
      ∙ sym (in-Present occurring env name)

  pub same-Number : (word : ℤ) (decimals : ℕ) → Same (expr.Number word decimals)
  same-Number word decimals said = ap seen_plain (plain-Number word decimals) ∙ value-Number word decimals plain ∙ sym (in-Number occurring env word decimals)

  pub same-Truth : (told : Bool) → Same (expr.Truth told)
  same-Truth told said = ap seen_plain (plain-Truth told) ∙ value-Truth told plain ∙ sym (in-Truth occurring env told)

  pub same-Time : Same expr.Time
  same-Time said =
      ap seen_plain plain-Time ∙ value-Time plain
      ∙ ap (λ time. node_meaning Expr-F.Time (record env { time = time })) shows.time
      ∙ sym (in-Time occurring env)

  pub same-Step : Same expr.Step
  same-Step said =
      ap seen_plain plain-Step ∙ value-Step plain
      ∙ ap (λ step. node_meaning Expr-F.Step (record env { step = step })) shows.step
      ∙ sym (in-Step occurring env)

  pub same-Absent : Same expr.Absent
  same-Absent said =
      ap seen_plain plain-Absent ∙ ap (λ (meaning : Meaning). meaning plain) (fold-Absent Meaning node_meaning) ∙ sym (in-Absent occurring env)

  abbrev pub Proved : Type 0
  Proved = (value : Expr) × Same value

  abbrev pub bare : Proved → Expr
  bare one = one.0

  pub node : (y : Expr-F Proved) → Same (roll-Expr (map-Expr Proved Expr bare y))
  node (Expr-F.Number word decimals) = subst Same (sym (rolls-Number word decimals)) (same-Number word decimals)
  node (Expr-F.Truth told) = subst Same (sym (rolls-Truth told)) (same-Truth told)
  node (Expr-F.Var name) = subst Same (sym (rolls-Var name)) (same-Var name)
  node Expr-F.Time = subst Same (sym rolls-Time) same-Time
  node Expr-F.Step = subst Same (sym rolls-Step) same-Step
  node (Expr-F.Unary op arg) = subst Same (sym (rolls-Unary op arg.0)) (same-Unary op arg.0 arg.1)
  node (Expr-F.Binary op left right) = subst Same (sym (rolls-Binary op left.0 right.0)) (same-Binary op left.0 right.0 left.1 right.1)
  node (Expr-F.Clamp value low high) = subst Same (sym (rolls-Clamp value.0 low.0 high.0)) (same-Clamp value.0 low.0 high.0 value.1 low.1 high.1)
  node (Expr-F.Choose condition then_part else_part) =
      subst Same (sym (rolls-Choose condition.0 then_part.0 else_part.0)) (same-Choose condition.0 then_part.0 else_part.0 condition.1 then_part.1 else_part.1)
  node Expr-F.Absent = subst Same (sym rolls-Absent) same-Absent
  node (Expr-F.Present name) = subst Same (sym (rolls-Present name)) (same-Present name)

  pub same : (value : Expr) → Same value
  same = ind-Expr Same (λ x y is. subst (λ z. Same (roll-Expr z)) is (node y))
