-- The outputs of the plain form for an event output: whether an event occurs, and its word. Both use what the event output uses, are
-- in range as it is, and have kinds where its word has one.
use Rattle.std.proofs.Common.{◌≡◌, ℕ, zero, suc, Bool, true, false, ℤ, pos, List, [], ◌++◌, Some, inl, inr, refl, sym, ap, ◌∙◌, subst}
use Rattle.std.specs.Prelude.{◌&&◌}
use Rattle.std.specs.Option.{option_and_then}
use Rattle.std.proofs.lemmas.Bool.{and_parts, and_from}
use Rattle.fixed_words.specs.Types.{AreDecimals}
use Rattle.fixed_words.specs.declared.types.Kind.{Kind}
use Rattle.fixed_words.specs.declared.types.Kind.TheVariants as kinds
use Rattle.fixed_words.specs.declared.types.Ty.{Ty}
use Rattle.fixed_words.specs.declared.types.Ty.TheVariants as types
use Rattle.unit_tree.specs.Kinds.{same_kind, where_holds, KindsOfNames, kind_of_expression}
use Rattle.unit_tree.specs.Names.{node_names, names_in, node_events, events_asked_in}
use Rattle.unit_tree.specs.Plain.{plain_expression, with_choices, presence_of, zero_of, word_expression_of}
use Rattle.unit_tree.specs.Values.{node_is_ranged, is_ranged}
use Rattle.unit_tree.specs.declared.expr.UnOp.{UnOp}
use Rattle.unit_tree.specs.declared.expr.UnOp.TheVariants as of
use Rattle.unit_tree.specs.declared.expr.Expr as expr
use Rattle.unit_tree.specs.declared.expr.Expr.{Expr, fold-Expr}
use Rattle.unit_tree.specs.declared.expr.Expr.TheVariants.{rolls-Number, rolls-Truth, rolls-Var, rolls-Time, rolls-Step, rolls-Unary, rolls-Binary, rolls-Clamp}
use Rattle.unit_tree.specs.declared.expr.Expr.TheVariants.{rolls-Choose, rolls-Absent, rolls-Present}
use Rattle.unit_tree.specs.declared.expr.Expr.TheFolds.{ind-Expr, map-Expr}
use Rattle.unit_tree.specs.declared.expr.Expr.TheViews.{roll-Expr}
use Rattle.unit_tree.specs.declared.expr.Expr.TheOpen.{Expr-F}
use Rattle.unit_tree.proofs.FoldLemmas.{fold-Number, fold-Truth, fold-Unary, fold-Choose}
use Rattle.language_laws.proofs.KindLemmas.{kind-Truth, kind-Choose}
use Rattle.language_laws.proofs.PlainLemmas.{same, choices-Number, choices-Truth, choices-Var, choices-Time, choices-Step, choices-Unary, choices-Binary}
use Rattle.language_laws.proofs.PlainLemmas.{choices-Clamp, choices-Choose, choices-Absent, choices-Present}
use Rattle.unit_exec.proofs.KindsOfRuns.{step_of}
use Rattle.list_laws.proofs.Members.{Has, has_front, has_behind, has_either}
use Rattle.list_laws.proofs.Truths.{le_asked}

-- An expression that is not an `if` is its own choice.
abbrev IsOther : Expr → Type 0
IsOther value = (gap : Expr) (change : Expr → Expr) → with_choices gap change value ≡ change value

-- What holds of each choice, and of an `if` where it holds of its branches, holds of all expressions.
module _ (C : Expr → Type 0) (other : (value : Expr) → IsOther value → C value) (absent : C expr.Absent)
    (choose : (c a b : Expr) → C a → C b → C (expr.Choose c a b)) where
  abbrev Proved : Type 0
  Proved = (e : Expr) × C e

  abbrev bare : Proved → Expr
  bare p = p.0

  node : (y : Expr-F Proved) → C (roll-Expr (map-Expr Proved Expr bare y))
  node (Expr-F.Number number decimals) =
      subst C (sym (rolls-Number number decimals)) (other (expr.Number number decimals) (λ gap change. choices-Number gap change number decimals))
  node (Expr-F.Truth told) = subst C (sym (rolls-Truth told)) (other (expr.Truth told) (λ gap change. choices-Truth gap change told))
  node (Expr-F.Var name) = subst C (sym (rolls-Var name)) (other (expr.Var name) (λ gap change. choices-Var gap change name))
  node Expr-F.Time = subst C (sym rolls-Time) (other expr.Time (λ gap change. choices-Time gap change))
  node Expr-F.Step = subst C (sym rolls-Step) (other expr.Step (λ gap change. choices-Step gap change))
  node (Expr-F.Unary op a) = subst C (sym (rolls-Unary op (bare a))) (other (expr.Unary op (bare a)) (λ gap change. choices-Unary gap change op (bare a)))
  node (Expr-F.Binary op a b) =
      subst C (sym (rolls-Binary op (bare a) (bare b)))
      (other (expr.Binary op (bare a) (bare b)) (λ gap change. choices-Binary gap change op (bare a) (bare b)))
  node (Expr-F.Clamp a b c) =
      subst C (sym (rolls-Clamp (bare a) (bare b) (bare c)))
      (other (expr.Clamp (bare a) (bare b) (bare c)) (λ gap change. choices-Clamp gap change (bare a) (bare b) (bare c)))
  node (Expr-F.Choose c a b) = subst C (sym (rolls-Choose (bare c) (bare a) (bare b))) (choose (bare c) (bare a) (bare b) a.1 b.1)
  node Expr-F.Absent = subst C (sym rolls-Absent) absent
  node (Expr-F.Present name) = subst C (sym (rolls-Present name)) (other (expr.Present name) (λ gap change. choices-Present gap change name))

  by_choices : (value : Expr) → C value
  by_choices = ind-Expr C (λ x y is. subst (λ z. C (roll-Expr z)) is (node y))

-- ---- Lists that are collected from an expression

-- A fold into lists which joins those of the three parts of an `if`.
module _ (step : Expr-F (List (List ℕ)) → List (List ℕ)) (joins : (c a b : List (List ℕ)) → step (Expr-F.Choose c a b) ≡ (c ++ a) ++ b) where
  abbrev told : Expr → List (List ℕ)
  told value = fold-Expr (List (List ℕ)) step value

  module _ (gap : Expr) (change : Expr → Expr) (in_gap : (name : List ℕ) → Has (told gap) name → ⊥)
      (in_change : (value : Expr) (name : List ℕ) → Has (told (change value)) name → Has (told value) name) where
    abbrev Within : Expr → Type 0
    Within value = (name : List ℕ) → Has (told (with_choices gap change value)) name → Has (told value) name

    within : (value : Expr) → Within value
    within = by_choices Within
        (λ value is name has. in_change value name (subst (λ (e : Expr). Has (told e) name) (is gap change) has))
        (λ name has. absurd (in_gap name (subst (λ (e : Expr). Has (told e) name) (choices-Absent gap change) has)))
        (λ c a b one two name has.
        let parted : told (expr.Choose c a b) ≡ (told c ++ told a) ++ told b = fold-Choose (List (List ℕ)) step c a b ∙ joins (told c) (told a) (told b) in
        let changed : told (with_choices gap change (expr.Choose c a b)) ≡ (told c ++ told (with_choices gap change a)) ++ told (with_choices gap change b) =
        ap told (choices-Choose gap change c a b) ∙ fold-Choose (List (List ℕ)) step c (with_choices gap change a) (with_choices gap change b)
        ∙ joins (told c) (told (with_choices gap change a)) (told (with_choices gap change b)) in
        subst (λ xs. Has xs name) (sym parted)
        (elim (has_either (told c ++ told (with_choices gap change a)) (told (with_choices gap change b)) name (subst (λ xs. Has xs name) changed has)) [
          | inr last ↦ has_behind (told c ++ told a) (told b) name (two name last)
          | inl front ↦ has_front (told c ++ told a) (told b) name (elim (has_either (told c) (told (with_choices gap change a)) name front) [
            | inl here ↦ has_front (told c) (told a) name here
            | inr here ↦ has_behind (told c) (told a) name (one name here)
          ])
        ]))

-- The zero of a type uses no name.
no_names : (step : Expr-F (List (List ℕ)) → List (List ℕ)) → ((number : ℤ) (decimals : ℕ) → step (Expr-F.Number number decimals) ≡ [])
    → ((b : Bool) → step (Expr-F.Truth b) ≡ []) → ((op : UnOp) (xs : List (List ℕ)) → step (Expr-F.Unary op xs) ≡ xs) → (ty : Ty)
    → fold-Expr (List (List ℕ)) step (zero_of ty) ≡ []
no_names step number truth unary types.Bool = fold-Truth (List (List ℕ)) step false ∙ truth false
no_names step number truth unary (types.Fixed zero) =
    fold-Unary (List (List ℕ)) step (of.ToFix 0) (expr.Number (pos 0) 0) ∙ unary (of.ToFix 0) _ ∙ fold-Number (List (List ℕ)) step (pos 0) 0 ∙ number (pos 0) 0
no_names step number truth unary (types.Fixed (suc n)) = fold-Number (List (List ℕ)) step (pos 0) (suc n) ∙ number (pos 0) (suc n)
no_names step number truth unary types.Int8 = fold-Number (List (List ℕ)) step (pos 0) 0 ∙ number (pos 0) 0
no_names step number truth unary types.UInt8 = fold-Number (List (List ℕ)) step (pos 0) 0 ∙ number (pos 0) 0
no_names step number truth unary types.Int16 = fold-Number (List (List ℕ)) step (pos 0) 0 ∙ number (pos 0) 0
no_names step number truth unary types.UInt16 = fold-Number (List (List ℕ)) step (pos 0) 0 ∙ number (pos 0) 0
no_names step number truth unary types.Int32 = fold-Number (List (List ℕ)) step (pos 0) 0 ∙ number (pos 0) 0
no_names step number truth unary types.UInt32 = fold-Number (List (List ℕ)) step (pos 0) 0 ∙ number (pos 0) 0
no_names step number truth unary types.Int64 = fold-Number (List (List ℕ)) step (pos 0) 0 ∙ number (pos 0) 0

none_has : (xs : List (List ℕ)) (name : List ℕ) → xs ≡ [] → Has xs name → ⊥
none_has xs name is has = subst (λ ys. Has ys name) is has

pub word_names : (ty : Ty) (value : Expr) (name : List ℕ) → Has (names_in (word_expression_of ty value)) name → Has (names_in value) name
word_names ty value name has =
    within node_names (λ c a b. refl) (zero_of ty) (λ e. e) (λ n h. none_has _ n (no_names node_names (λ w d. refl) (λ b. refl) (λ op xs. refl) ty) h)
    (λ e n h. h) value name has

pub word_events : (ty : Ty) (value : Expr) (name : List ℕ) → Has (events_asked_in (word_expression_of ty value)) name → Has (events_asked_in value) name
word_events ty value name has =
    within node_events (λ c a b. refl) (zero_of ty) (λ e. e) (λ n h. none_has _ n (no_names node_events (λ w d. refl) (λ b. refl) (λ op xs. refl) ty) h)
    (λ e n h. h) value name has

pub presence_names : (value : Expr) (name : List ℕ) → Has (names_in (presence_of value)) name → Has (names_in value) name
presence_names value name has =
    within node_names (λ c a b. refl) (expr.Truth false) (λ e. expr.Truth true) (λ n h. none_has _ n (fold-Truth (List (List ℕ)) node_names false) h)
    (λ e n h. absurd (none_has _ n (fold-Truth (List (List ℕ)) node_names true) h)) value name has

pub presence_events : (value : Expr) (name : List ℕ) → Has (events_asked_in (presence_of value)) name → Has (events_asked_in value) name
presence_events value name has =
    within node_events (λ c a b. refl) (expr.Truth false) (λ e. expr.Truth true) (λ n h. none_has _ n (fold-Truth (List (List ℕ)) node_events false) h)
    (λ e n h. absurd (none_has _ n (fold-Truth (List (List ℕ)) node_events true) h)) value name has

-- ---- Ranges

module _ (gap : Expr) (change : Expr → Expr) (of_gap : is_ranged gap ≡ true)
    (of_change : (value : Expr) → is_ranged value ≡ true → is_ranged (change value) ≡ true) where
  abbrev Ranged : Expr → Type 0
  Ranged value = is_ranged value ≡ true → is_ranged (with_choices gap change value) ≡ true

  choices_ranged : (value : Expr) → Ranged value
  choices_ranged = by_choices Ranged
      (λ value is ranged. ap is_ranged (is gap change) ∙ of_change value ranged)
      (λ ranged. ap is_ranged (choices-Absent gap change) ∙ of_gap)
      (λ c a b one two ranged.
      let whole : (is_ranged c && (is_ranged a && is_ranged b)) ≡ true = sym (fold-Choose Bool node_is_ranged c a b) ∙ ranged in
      let first = and_parts (is_ranged c) (is_ranged a && is_ranged b) whole in
      let rest = and_parts (is_ranged a) (is_ranged b) first.1 in
      ap is_ranged (choices-Choose gap change c a b) ∙ fold-Choose Bool node_is_ranged c (with_choices gap change a) (with_choices gap change b)
      ∙ and_from _ _ first.0 (and_from _ _ (one rest.0) (two rest.1)))

zero_ranged : (ty : Ty) → AreDecimals ty → is_ranged (zero_of ty) ≡ true
zero_ranged types.Bool are = fold-Truth Bool node_is_ranged false
zero_ranged (types.Fixed zero) are = fold-Unary Bool node_is_ranged (of.ToFix 0) (expr.Number (pos 0) 0)
    ∙ and_from _ _ refl (fold-Number Bool node_is_ranged (pos 0) 0)
zero_ranged (types.Fixed (suc n)) are = fold-Number Bool node_is_ranged (pos 0) (suc n) ∙ le_asked (suc n) 9 are
zero_ranged types.Int8 are = fold-Number Bool node_is_ranged (pos 0) 0
zero_ranged types.UInt8 are = fold-Number Bool node_is_ranged (pos 0) 0
zero_ranged types.Int16 are = fold-Number Bool node_is_ranged (pos 0) 0
zero_ranged types.UInt16 are = fold-Number Bool node_is_ranged (pos 0) 0
zero_ranged types.Int32 are = fold-Number Bool node_is_ranged (pos 0) 0
zero_ranged types.UInt32 are = fold-Number Bool node_is_ranged (pos 0) 0
zero_ranged types.Int64 are = fold-Number Bool node_is_ranged (pos 0) 0

pub word_ranged : (ty : Ty) (value : Expr) → AreDecimals ty → is_ranged value ≡ true → is_ranged (word_expression_of ty value) ≡ true
word_ranged ty value are ranged = choices_ranged (zero_of ty) (λ e. e) (zero_ranged ty are) (λ e is. is) value ranged

pub presence_ranged : (value : Expr) → is_ranged value ≡ true → is_ranged (presence_of value) ≡ true
presence_ranged value ranged =
    choices_ranged (expr.Truth false) (λ e. expr.Truth true) (fold-Truth Bool node_is_ranged false) (λ e is. fold-Truth Bool node_is_ranged true) value ranged

-- The plain form is in range where the expression is.
pub plain_ranged : (value : Expr) → is_ranged (plain_expression value) ≡ is_ranged value
plain_ranged value = same Bool node_is_ranged (λ name. refl) value

-- ---- Kinds

module _ (names : KindsOfNames) (ty : Ty) where
  abbrev HasKinds : Expr → Type 0
  HasKinds value = (kind : Kind) → kind_of_expression (word_expression_of ty value) names ≡ Some kind
      → kind_of_expression (presence_of value) names ≡ Some kinds.Bool

  holds_where : (test : Bool) (x k : Kind) → where_holds test x ≡ Some k → test ≡ true
  holds_where true x k is = refl
  holds_where false x k is = absurd (cc)

  pub presence_kinded : (value : Expr) → HasKinds value
  presence_kinded = by_choices HasKinds
      (λ value is kind told. ap (λ (e : Expr). kind_of_expression e names) (is (expr.Truth false) (λ e. expr.Truth true)) ∙ kind-Truth true names)
      (λ kind told. ap (λ (e : Expr). kind_of_expression e names) (choices-Absent (expr.Truth false) (λ e. expr.Truth true)) ∙ kind-Truth false names)
      (λ c a b one two kind told.
      let word_a = word_expression_of ty a in
      let word_b = word_expression_of ty b in
      let here : option_and_then
      (λ t. option_and_then (λ x. option_and_then (λ y. where_holds (same_kind t kinds.Bool && same_kind x y) x) (kind_of_expression word_b names))
      (kind_of_expression word_a names))
      (kind_of_expression c names)
      ≡ Some kind =
      sym (ap (λ (e : Expr). kind_of_expression e names) (choices-Choose (zero_of ty) (λ e. e) c a b) ∙ kind-Choose c word_a word_b names) ∙ told in
      let test =
      step_of
      (λ t. option_and_then (λ x. option_and_then (λ y. where_holds (same_kind t kinds.Bool && same_kind x y) x) (kind_of_expression word_b names))
      (kind_of_expression word_a names))
      (kind_of_expression c names) kind here in
      let x = step_of (λ x. option_and_then (λ y. where_holds (same_kind test.one kinds.Bool && same_kind x y) x) (kind_of_expression word_b names))
      (kind_of_expression word_a names) kind test.gives in
      let y = step_of (λ y. where_holds (same_kind test.one kinds.Bool && same_kind x.one y) x.one) (kind_of_expression word_b names) kind x.gives in
      let bool : same_kind test.one kinds.Bool ≡ true =
      (and_parts (same_kind test.one kinds.Bool) (same_kind x.one y.one) (holds_where _ x.one kind y.gives)).0 in
      ap (λ (e : Expr). kind_of_expression e names) (choices-Choose (expr.Truth false) (λ e. expr.Truth true) c a b)
      ∙ kind-Choose c (presence_of a) (presence_of b) names
      ∙ ap
      (λ o. option_and_then
      (λ t. option_and_then (λ p. option_and_then (λ q. where_holds (same_kind t kinds.Bool && same_kind p q) p) (kind_of_expression (presence_of b) names))
      (kind_of_expression (presence_of a) names)) o) test.was
      ∙ ap (λ o.
      option_and_then (λ p. option_and_then (λ q. where_holds (same_kind test.one kinds.Bool && same_kind p q) p) (kind_of_expression (presence_of b) names)) o)
      (one x.one x.was)
      ∙ ap (λ o. option_and_then (λ q. where_holds (same_kind test.one kinds.Bool && same_kind kinds.Bool q) kinds.Bool) o) (two y.one y.was)
      ∙ ap (λ (t : Bool). where_holds (t && true) kinds.Bool) bool)
