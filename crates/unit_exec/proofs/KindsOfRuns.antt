-- An expression of a unit that has a kind has code of this kind in the plain form of the unit.
use Rattle.std.proofs.Common.{◌≡◌, ℕ, Bool, true, false, List, [], ◌++◌, Option, Some, None, inl, refl, sym, ap, ◌∙◌, subst, eq-eqb}
use Rattle.std.specs.Prelude.{◌&&◌}
use Rattle.std.specs.Option.{option_and_then}
use Rattle.std.proofs.lemmas.Bool.{and_parts, and_from}
use Rattle.std.proofs.lemmas.Option.{same_Some, none-some}
use Rattle.fixed_words.specs.declared.types.Kind.{Kind}
use Rattle.fixed_words.specs.declared.types.Kind.TheVariants as kinds
use Rattle.code_units.specs.Expressions.{Coded, Coding, name_code, unary_kind_of, binary_kind_of, unary_joined, binary_joined, clamp_joined, choice_joined}
use Rattle.code_units.specs.Expressions.{node_code, code_of}
use Rattle.code_units.specs.Scopes.{named}
use Rattle.code_units.specs.declared.scope.CodeScope.{CodeScope}
use Rattle.code_units.proofs.ExpressionsMean.{same_kind_is}
use Rattle.unit_tree.specs.Kinds.{same_kind, is_number, where_holds, unary_kind, binary_kind, KindsOfNames, kind_of_expression}
use Rattle.unit_tree.specs.Names.{node_names, names_in, node_events, events_asked_in}
use Rattle.unit_tree.specs.Plain.{presence_name, plain_expression}
use Rattle.unit_tree.specs.declared.expr.BinOp.{BinOp}
use Rattle.unit_tree.specs.declared.expr.BinOp.TheVariants as by
use Rattle.unit_tree.specs.declared.expr.UnOp.{UnOp}
use Rattle.unit_tree.specs.declared.expr.UnOp.TheVariants as of
use Rattle.unit_tree.specs.declared.expr.Expr as expr
use Rattle.unit_tree.specs.declared.expr.Expr.{Expr}
use Rattle.unit_tree.specs.declared.expr.Expr.TheVariants.{rolls-Number, rolls-Truth, rolls-Var, rolls-Time, rolls-Step, rolls-Unary, rolls-Binary, rolls-Clamp}
use Rattle.unit_tree.specs.declared.expr.Expr.TheVariants.{rolls-Choose, rolls-Absent, rolls-Present}
use Rattle.unit_tree.specs.declared.expr.Expr.TheFolds.{ind-Expr, map-Expr}
use Rattle.unit_tree.specs.declared.expr.Expr.TheViews.{roll-Expr}
use Rattle.unit_tree.specs.declared.expr.Expr.TheOpen.{Expr-F}
use Rattle.unit_tree.proofs.FoldLemmas.{fold-Number, fold-Truth, fold-Var, fold-Time, fold-Step, fold-Unary, fold-Binary, fold-Clamp, fold-Choose, fold-Present}
use Rattle.language_laws.proofs.KindLemmas.{kind-Number, kind-Truth, kind-Var, kind-Time, kind-Step, kind-Unary, kind-Binary, kind-Clamp, kind-Choose}
use Rattle.language_laws.proofs.KindLemmas.{kind-Absent, kind-Present}
use Rattle.language_laws.proofs.PlainLemmas.{plain-Number, plain-Truth, plain-Var, plain-Time, plain-Step, plain-Unary, plain-Binary, plain-Clamp, plain-Choose}
use Rattle.language_laws.proofs.PlainLemmas.{plain-Present}
use Rattle.list_laws.proofs.Members.{Has, has_front, has_behind}

-- ---- Kinds that exist

pub record Step {A B : Type 0} (f : A → Option B) (given : Option A) (told : B) : Type 0 where
  pub one : A
  pub was : given ≡ Some one
  pub gives : f one ≡ Some told

pub step_of : {A B : Type 0} (f : A → Option B) (given : Option A) (told : B) → option_and_then f given ≡ Some told → Step f given told
step_of f None told is = absurd (cc)
step_of f (Some one) told is = record { one = one; was = refl; gives = is }

where_told : (test : Bool) (x k : Kind) → where_holds test x ≡ Some k → (test ≡ true) × (x ≡ k)
where_told true x k is = let same : x ≡ k = cc in (refl, same)
where_told false x k is = absurd (cc)

same_itself : (k : Kind) → same_kind k k ≡ true
same_itself kinds.Int = refl
same_itself kinds.Bool = refl
same_itself (kinds.Fixed n) = eq-eqb n n refl

unary_told : (op : UnOp) (x k : Kind) → unary_kind op x ≡ Some k → unary_kind_of op x ≡ k
unary_told of.Neg x k is = (where_told (is_number x) x k is).1
unary_told of.Abs x k is = (where_told (is_number x) x k is).1
unary_told of.Not x k is = (where_told (same_kind x kinds.Bool) kinds.Bool k is).1
unary_told of.ToInt x k is = let same : kinds.Int ≡ k = cc in same
unary_told (of.ToFix n) x k is = (where_told (is_number x) (kinds.Fixed n) k is).1

int_told : (x y k : Kind) → where_holds (same_kind x kinds.Int && same_kind y kinds.Int) kinds.Int ≡ Some k → x ≡ k
int_told x y k is =
    let told = where_told (same_kind x kinds.Int && same_kind y kinds.Int) kinds.Int k is in
    same_kind_is [] 0 x kinds.Int (and_parts (same_kind x kinds.Int) (same_kind y kinds.Int) told.0).0 ∙ told.1

binary_told : (op : BinOp) (x y k : Kind) → binary_kind op x y ≡ Some k → binary_kind_of op x ≡ k
binary_told by.Add x y k is = (where_told _ x k is).1
binary_told by.Sub x y k is = (where_told _ x k is).1
binary_told by.Mul x y k is = (where_told _ x k is).1
binary_told by.Slash x y k is = (where_told _ x k is).1
binary_told by.Div x y k is = int_told x y k is
binary_told by.Mod x y k is = int_told x y k is
binary_told by.Eq x y k is = (where_told _ kinds.Bool k is).1
binary_told by.Ne x y k is = (where_told _ kinds.Bool k is).1
binary_told by.Lt x y k is = (where_told _ kinds.Bool k is).1
binary_told by.Le x y k is = (where_told _ kinds.Bool k is).1
binary_told by.Gt x y k is = (where_told _ kinds.Bool k is).1
binary_told by.Ge x y k is = (where_told _ kinds.Bool k is).1
binary_told by.And x y k is = (where_told _ kinds.Bool k is).1
binary_told by.Or x y k is = (where_told _ kinds.Bool k is).1
binary_told by.Min x y k is = (where_told _ x k is).1
binary_told by.Max x y k is = (where_told _ x k is).1

-- ---- Code of a kind

-- Code whose choices have one kind, which is this kind.
pub record IsOf (coded : Coded) (kind : Kind) : Type 0 where
  pub agrees : coded.agrees ≡ true
  pub kind_is : coded.kind ≡ kind

module _ (scope : CodeScope) (names : KindsOfNames) (Usable Event : List ℕ → Type 0)
    (name_kind : (name : List ℕ) → Usable name → (kind : Kind) → names name ≡ Some kind → (name_code (named scope.names name)).kind ≡ kind)
    (presence_kind : (name : List ℕ) → Event name → (name_code (named scope.names (presence_name name))).kind ≡ kinds.Bool) where
  name_agrees : (name : List ℕ) → (name_code (named scope.names name)).agrees ≡ true
  name_agrees name = told (named scope.names name)
    where
      told : (found : Option _) → (name_code found).agrees ≡ true
      told None = refl
      told (Some found) = refl

  -- An expression uses only usable names, and asks for events only of event inputs.
  pub record Uses (value : Expr) : Type 0 where
    pub names_used : (name : List ℕ) → Has (names_in value) name → Usable name
    pub events_asked : (name : List ℕ) → Has (events_asked_in value) name → Event name

  abbrev pub Kinded : Expr → Type 0
  Kinded value = (kind : Kind) → kind_of_expression value names ≡ Some kind → Uses value → IsOf (code_of (plain_expression value) scope) kind

  by_code : (value : Expr) (plain : Expr) (coded : Coding) (kind : Kind) → plain_expression value ≡ plain → code_of plain ≡ coded → IsOf (coded scope) kind
      → IsOf (code_of (plain_expression value) scope) kind
  by_code value plain coded kind is code good =
      subst (λ (e : Expr). IsOf (code_of e scope) kind) (sym is) (subst (λ (c : Coding). IsOf (c scope) kind) (sym code) good)

  abbrev names_step : Expr → List (List ℕ)
  names_step value = names_in value

  unary_kinded : (op : UnOp) (a : Expr) → Kinded a → Kinded (expr.Unary op a)
  unary_kinded op a claim kind is uses =
      let told = step_of (unary_kind op) (kind_of_expression a names) kind (sym (kind-Unary op a names) ∙ is) in
      let inner = claim told.one told.was (record {
        names_used = λ name has. uses.names_used name (subst (λ xs. Has xs name) (sym (fold-Unary (List (List ℕ)) node_names op a)) has);
        events_asked = λ name has. uses.events_asked name (subst (λ xs. Has xs name) (sym (fold-Unary (List (List ℕ)) node_events op a)) has);
      }) in
      by_code (expr.Unary op a) (expr.Unary op (plain_expression a)) (λ s. unary_joined op (code_of (plain_expression a) s)) kind (plain-Unary op a)
      (fold-Unary Coding node_code op (plain_expression a))
      (record { agrees = inner.agrees; kind_is = ap (unary_kind_of op) inner.kind_is ∙ unary_told op told.one kind told.gives })

  binary_kinded : (op : BinOp) (a b : Expr) → Kinded a → Kinded b → Kinded (expr.Binary op a b)
  binary_kinded op a b left right kind is uses =
      let told =
      step_of (λ x. option_and_then (binary_kind op x) (kind_of_expression b names)) (kind_of_expression a names) kind (sym (kind-Binary op a b names) ∙ is) in
      let other = step_of (binary_kind op told.one) (kind_of_expression b names) kind told.gives in
      let names_are = fold-Binary (List (List ℕ)) node_names op a b in
      let events_are = fold-Binary (List (List ℕ)) node_events op a b in
      let one = left told.one told.was (record {
        names_used = λ name has. uses.names_used name (subst (λ xs. Has xs name) (sym names_are) (has_front (names_in a) (names_in b) name has));
        events_asked =
            λ name has. uses.events_asked name (subst (λ xs. Has xs name) (sym events_are) (has_front (events_asked_in a) (events_asked_in b) name has));
      }) in
      let two = right other.one other.was (record {
        names_used = λ name has. uses.names_used name (subst (λ xs. Has xs name) (sym names_are) (has_behind (names_in a) (names_in b) name has));
        events_asked =
            λ name has. uses.events_asked name (subst (λ xs. Has xs name) (sym events_are) (has_behind (events_asked_in a) (events_asked_in b) name has));
      }) in
      by_code (expr.Binary op a b) (expr.Binary op (plain_expression a) (plain_expression b))
      (λ s. binary_joined op (code_of (plain_expression a) s) (code_of (plain_expression b) s)) kind (plain-Binary op a b)
      (fold-Binary Coding node_code op (plain_expression a) (plain_expression b))
      (record {
        agrees = and_from _ _ one.agrees two.agrees;
        kind_is = ap (binary_kind_of op) one.kind_is ∙ binary_told op told.one other.one kind other.gives;
      })

  -- Three parts: each uses only what all together may use.
  three : (a b c : Expr) (all_names all_events : List (List ℕ)) → all_names ≡ (names_in a ++ names_in b) ++ names_in c
      → all_events ≡ (events_asked_in a ++ events_asked_in b) ++ events_asked_in c → ((name : List ℕ) → Has all_names name → Usable name)
      → ((name : List ℕ) → Has all_events name → Event name) → Uses a × Uses b × Uses c
  three a b c all_names all_events names_are events_are on_names on_events =
      let N = λ (name : List ℕ) (has : Has ((names_in a ++ names_in b) ++ names_in c) name). on_names name (subst (λ xs. Has xs name) (sym names_are) has) in
      let E = λ (name : List ℕ) (has : Has ((events_asked_in a ++ events_asked_in b) ++ events_asked_in c) name).
      on_events name (subst (λ xs. Has xs name) (sym events_are) has) in (
        record {
          names_used = λ name has. N name (has_front (names_in a ++ names_in b) (names_in c) name (has_front (names_in a) (names_in b) name has));
          events_asked =
              λ name has.
              E name (has_front (events_asked_in a ++ events_asked_in b) (events_asked_in c) name (has_front (events_asked_in a) (events_asked_in b) name has));
        },
        record {
          names_used = λ name has. N name (has_front (names_in a ++ names_in b) (names_in c) name (has_behind (names_in a) (names_in b) name has));
          events_asked =
              λ name has.
              E name (has_front (events_asked_in a ++ events_asked_in b) (events_asked_in c) name
              (has_behind (events_asked_in a) (events_asked_in b) name has));
        },
        record {
          names_used = λ name has. N name (has_behind (names_in a ++ names_in b) (names_in c) name has);
          events_asked = λ name has. E name (has_behind (events_asked_in a ++ events_asked_in b) (events_asked_in c) name has);
        },
      )

  clamp_kinded : (a b c : Expr) → Kinded a → Kinded b → Kinded c → Kinded (expr.Clamp a b c)
  clamp_kinded a b c one two last kind is uses =
      let told =
      step_of
      (λ x. option_and_then (λ l. option_and_then (λ h. where_holds (same_kind x l && (same_kind x h && is_number x)) x) (kind_of_expression c names))
      (kind_of_expression b names))
      (kind_of_expression a names) kind (sym (kind-Clamp a b c names) ∙ is) in
      let low =
      step_of
      (λ l. option_and_then (λ h. where_holds (same_kind told.one l && (same_kind told.one h && is_number told.one)) told.one) (kind_of_expression c names))
      (kind_of_expression b names) kind told.gives in
      let high =
      step_of (λ h. where_holds (same_kind told.one low.one && (same_kind told.one h && is_number told.one)) told.one)
      (kind_of_expression c names) kind low.gives in
      let parts =
      three a b c (names_in (expr.Clamp a b c)) (events_asked_in (expr.Clamp a b c)) (fold-Clamp (List (List ℕ)) node_names a b c)
      (fold-Clamp (List (List ℕ)) node_events a b c) uses.names_used uses.events_asked in
      let x = one told.one told.was parts.0 in
      let y = two low.one low.was parts.1 in
      let z = last high.one high.was parts.2 in
      by_code (expr.Clamp a b c) (expr.Clamp (plain_expression a) (plain_expression b) (plain_expression c))
      (λ s. clamp_joined (code_of (plain_expression a) s) (code_of (plain_expression b) s) (code_of (plain_expression c) s)) kind (plain-Clamp a b c)
      (fold-Clamp Coding node_code (plain_expression a) (plain_expression b) (plain_expression c))
      (record { agrees = and_from _ _ x.agrees (and_from _ _ y.agrees z.agrees); kind_is = x.kind_is ∙ (where_told _ told.one kind high.gives).1 })

  choice_kinded : (c a b : Expr) → Kinded c → Kinded a → Kinded b → Kinded (expr.Choose c a b)
  choice_kinded c a b last one two kind is uses =
      let test =
      step_of
      (λ t. option_and_then (λ x. option_and_then (λ y. where_holds (same_kind t kinds.Bool && same_kind x y) x) (kind_of_expression b names))
      (kind_of_expression a names))
      (kind_of_expression c names) kind (sym (kind-Choose c a b names) ∙ is) in
      let told =
      step_of (λ x. option_and_then (λ y. where_holds (same_kind test.one kinds.Bool && same_kind x y) x) (kind_of_expression b names))
      (kind_of_expression a names) kind test.gives in
      let other = step_of (λ y. where_holds (same_kind test.one kinds.Bool && same_kind told.one y) told.one) (kind_of_expression b names) kind told.gives in
      let holds = where_told (same_kind test.one kinds.Bool && same_kind told.one other.one) told.one kind other.gives in
      let same : told.one ≡ other.one =
      same_kind_is [] 0 told.one other.one (and_parts (same_kind test.one kinds.Bool) (same_kind told.one other.one) holds.0).1 in
      let parts =
      three c a b (names_in (expr.Choose c a b)) (events_asked_in (expr.Choose c a b)) (fold-Choose (List (List ℕ)) node_names c a b)
      (fold-Choose (List (List ℕ)) node_events c a b) uses.names_used uses.events_asked in
      let x = last test.one test.was parts.0 in
      let y = one told.one told.was parts.1 in
      let z = two other.one other.was parts.2 in
      let alike : same_kind (code_of (plain_expression b) scope).kind (code_of (plain_expression a) scope).kind ≡ true =
      ap (λ k. same_kind k (code_of (plain_expression a) scope).kind) (z.kind_is ∙ sym same ∙ sym y.kind_is)
      ∙ same_itself (code_of (plain_expression a) scope).kind in
      by_code (expr.Choose c a b) (expr.Choose (plain_expression c) (plain_expression a) (plain_expression b))
      (λ s. choice_joined (code_of (plain_expression c) s) (code_of (plain_expression a) s) (code_of (plain_expression b) s)) kind (plain-Choose c a b)
      (fold-Choose Coding node_code (plain_expression c) (plain_expression a) (plain_expression b))
      (record { agrees = and_from _ _ x.agrees (and_from _ _ y.agrees (and_from _ _ z.agrees alike)); kind_is = y.kind_is ∙ holds.1 })

  abbrev Proved : Type 0
  Proved = (e : Expr) × Kinded e

  abbrev bare : Proved → Expr
  bare p = p.0

  node : (y : Expr-F Proved) → Kinded (roll-Expr (map-Expr Proved Expr bare y))
  node (Expr-F.Number number decimals) =
      subst Kinded (sym (rolls-Number number decimals))
      (λ kind is uses.
      by_code (expr.Number number decimals) _ _ kind (plain-Number number decimals) (fold-Number Coding node_code number decimals)
      (record { agrees = refl; kind_is = same_Some _ _ (sym (kind-Number number decimals names) ∙ is) }))
  node (Expr-F.Truth told) =
      subst Kinded (sym (rolls-Truth told))
      (λ kind is uses.
      by_code (expr.Truth told) _ _ kind (plain-Truth told) (fold-Truth Coding node_code told)
      (record { agrees = refl; kind_is = same_Some _ _ (sym (kind-Truth told names) ∙ is) }))
  node (Expr-F.Var name) =
      subst Kinded (sym (rolls-Var name))
      (λ kind is uses.
      by_code (expr.Var name) _ _ kind (plain-Var name) (fold-Var Coding node_code name)
      (record {
        agrees = name_agrees name;
        kind_is =
            name_kind name (uses.names_used name (subst (λ xs. Has xs name) (sym (fold-Var (List (List ℕ)) node_names name)) (inl refl))) kind
            (sym (kind-Var name names) ∙ is);
      }))
  node Expr-F.Time =
      subst Kinded (sym rolls-Time)
      (λ kind is uses.
      by_code expr.Time _ _ kind plain-Time (fold-Time Coding node_code) (record { agrees = refl; kind_is = same_Some _ _ (sym (kind-Time names) ∙ is) }))
  node Expr-F.Step =
      subst Kinded (sym rolls-Step)
      (λ kind is uses.
      by_code expr.Step _ _ kind plain-Step (fold-Step Coding node_code) (record { agrees = refl; kind_is = same_Some _ _ (sym (kind-Step names) ∙ is) }))
  node (Expr-F.Unary op a) = subst Kinded (sym (rolls-Unary op (bare a))) (unary_kinded op (bare a) a.1)
  node (Expr-F.Binary op a b) = subst Kinded (sym (rolls-Binary op (bare a) (bare b))) (binary_kinded op (bare a) (bare b) a.1 b.1)
  node (Expr-F.Clamp a b c) = subst Kinded (sym (rolls-Clamp (bare a) (bare b) (bare c))) (clamp_kinded (bare a) (bare b) (bare c) a.1 b.1 c.1)
  node (Expr-F.Choose c a b) = subst Kinded (sym (rolls-Choose (bare c) (bare a) (bare b))) (choice_kinded (bare c) (bare a) (bare b) c.1 a.1 b.1)
  node Expr-F.Absent = subst Kinded (sym rolls-Absent) (λ kind is uses. absurd (none-some kind (sym (kind-Absent names) ∙ is)))
  node (Expr-F.Present name) =
      subst Kinded (sym (rolls-Present name))
      (λ kind is uses.
      by_code (expr.Present name) _ _ kind (plain-Present name) (fold-Var Coding node_code (presence_name name))
      (record {
        agrees = name_agrees (presence_name name);
        kind_is = presence_kind name (uses.events_asked name (subst (λ xs. Has xs name) (sym (fold-Present (List (List ℕ)) node_events name)) (inl refl)))
            ∙ same_Some _ _ (sym (kind-Present name names) ∙ is);
      }))

  pub kinded : (value : Expr) → Kinded value
  kinded = ind-Expr Kinded (λ x y is. subst (λ z. Kinded (roll-Expr z)) is (node y))
