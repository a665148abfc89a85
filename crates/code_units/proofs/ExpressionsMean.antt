-- The piece of an expression does what the expression means: it pushes the value, or meets its fault.
use Rattle.std.proofs.Common.{◌≡◌, ℕ, ◌-◌, Bool, true, false, nat_le, ◌&&◌, ℤ, pos, List, ◌∷◌, Option, Some, None, slice_get, Result, Ok, Err, refl, sym, ap}
use Rattle.std.proofs.Common.{◌∙◌, subst, true≢false, rules}
use Rattle.std.specs.Prelude.{not, if◌then◌else◌}
use Rattle.std.proofs.lemmas.Bool.{and_parts}
use Rattle.fixed_words.specs.Operations.{Outcome, is_zero, scaled_up, scaled_down}
use Rattle.fixed_words.specs.declared.types.Fault.{Fault}
use Rattle.fixed_words.specs.declared.types.Kind.{Kind}
use Rattle.fixed_words.specs.declared.types.Kind.TheVariants as kinds
use Rattle.code_units.specs.Expressions.{Coded, Coding, leaf, name_code, truth_code, unary_code, unary_kind_of, binary_code, binary_kind_of, and_perhaps}
use Rattle.code_units.specs.Expressions.{unary_joined, binary_joined, clamp_joined, choice_joined, node_code, code_of}
use Rattle.code_units.specs.Scopes.{named}
use Rattle.code_units.specs.declared.scope.CodeScope.{CodeScope}
use Rattle.code_pieces.specs.Pieces.{Piece, One, Then, Choice, and_then, does}
use Rattle.unit_tree.specs.Kinds.{same_kind}
use Rattle.unit_tree.specs.Values.{◌>>=◌, as_kind, truth, holds, unary_value, binary_value, clamped_value, value_of, value_of_name, node_meaning, Meaning}
use Rattle.unit_tree.specs.declared.environment.Environment.{Environment}
use Rattle.unit_tree.specs.declared.environment.Value.{Value}
use Rattle.unit_tree.specs.declared.expr.BinOp.{BinOp}
use Rattle.unit_tree.specs.declared.expr.BinOp.TheVariants as by
use Rattle.unit_tree.specs.declared.expr.UnOp.{UnOp}
use Rattle.unit_tree.specs.declared.expr.UnOp.TheVariants as of
use Rattle.unit_tree.specs.declared.expr.Expr as expr
use Rattle.unit_tree.specs.declared.expr.Expr.{Expr}
use Rattle.unit_tree.specs.declared.expr.Expr.TheVariants.{rolls-Number, rolls-Truth, rolls-Var, rolls-Time, rolls-Step, rolls-Unary, rolls-Binary, rolls-Clamp}
use Rattle.unit_tree.specs.declared.expr.Expr.TheVariants.{rolls-Choose, rolls-Absent, rolls-Present}
use Rattle.unit_tree.specs.declared.expr.Expr.TheFolds.{ind-Expr, map-Expr}
use Rattle.unit_tree.specs.declared.expr.Expr.TheViews.{roll-Expr}
use Rattle.unit_tree.specs.declared.expr.Expr.TheOpen.{Expr-F}
use Rattle.unit_tree.proofs.FoldLemmas.{fold-Number, fold-Truth, fold-Var, fold-Time, fold-Step, fold-Unary, fold-Binary, fold-Clamp, fold-Choose, fold-Absent}
use Rattle.unit_tree.proofs.FoldLemmas.{fold-Present}
use Rattle.unit_vm.specs.Machine.{Work, Did, Does, Fails, truth as truth_of, pushes, loads, least, most, act}
use Rattle.unit_vm.specs.declared.instruction.Instruction.{Instruction}
use Rattle.unit_vm.specs.declared.instruction.Instruction.TheVariants.{Load, Negate, Magnitude, Not, Clamp, ScaleUp, ScaleDown}

-- Slots and an accepted length, with any stack.
module _ (slots : List ℤ) (accepted : ℕ) where
  abbrev pub at : List ℤ → Work
  at stack = record { stack = stack; slots = slots; accepted = accepted }

  -- The result pushes the value, of this kind, or is its fault.
  abbrev pub Gives : Kind → List ℤ → Did → Result Value Fault → Type 0
  Gives kind stack did (Ok value) = (did ≡ Does (at (value.word ∷ stack))) × (value.kind ≡ kind)
  Gives kind stack did (Err fault) = did ≡ Fails fault

  -- Code gives a result on every stack.
  abbrev pub Means : Coded → Result Value Fault → Type 0
  Means coded result = coded.agrees ≡ true → (stack : List ℤ) → Gives coded.kind stack (does coded.piece (at stack)) result

  -- ---- Operations

  given : (kind : Kind) (stack : List ℤ) (outcome : Outcome) (did : Did) → did ≡ pushes (at stack) stack outcome → Gives kind stack did (as_kind kind outcome)
  given kind stack (Ok word) did is = (is, refl)
  given kind stack (Err fault) did is = is

  given_truth : (told : Bool) (stack : List ℤ) (did : Did) → did ≡ pushes (at stack) stack (truth_of told) → Gives kinds.Bool stack did (Ok (truth told))
  given_truth true stack did is = (is, refl)
  given_truth false stack did is = (is, refl)

  -- An operation after a piece.
  behind_it : (piece : Piece) (stack : List ℤ) (did : Did) (instruction : Instruction) → does piece (at stack) ≡ did
      → does (Then piece (One instruction)) (at stack) ≡ and_then did (act instruction)
  behind_it piece stack did instruction is = ap (λ d. and_then d (act instruction)) is

  scaled : (longer : Bool) (up down : ℕ) (word : ℤ) (stack : List ℤ)
      → act (if longer then ScaleUp up else ScaleDown down) (at (word ∷ stack))
      ≡ pushes (at stack) stack (if longer then scaled_up up word else scaled_down down word)
  scaled true up down word stack = refl
  scaled false up down word stack = refl

  unary_gives : (op : UnOp) (piece : Piece) (kind : Kind) (word : ℤ) (stack : List ℤ) → does piece (at stack) ≡ Does (at (word ∷ stack))
      → Gives (unary_kind_of op kind) stack (does (and_perhaps piece (unary_code op kind)) (at stack)) (unary_value op (record { kind = kind; word = word }))
  unary_gives of.Neg piece kind word stack is = given kind stack _ _ (behind_it piece stack (Does (at (word ∷ stack))) Negate is)
  unary_gives of.Not piece kind word stack is = given_truth _ stack _ (behind_it piece stack (Does (at (word ∷ stack))) Not is)
  unary_gives of.Abs piece kind word stack is = given kind stack _ _ (behind_it piece stack (Does (at (word ∷ stack))) Magnitude is)
  unary_gives of.ToInt piece kinds.Int word stack is = (is, refl)
  unary_gives of.ToInt piece kinds.Bool word stack is = (is, refl)
  unary_gives of.ToInt piece (kinds.Fixed had) word stack is = given kinds.Int stack _ _ (behind_it piece stack (Does (at (word ∷ stack))) (ScaleDown had) is)
  unary_gives (of.ToFix n) piece kinds.Int word stack is = given (kinds.Fixed n) stack _ _ (behind_it piece stack (Does (at (word ∷ stack))) (ScaleUp n) is)
  unary_gives (of.ToFix n) piece kinds.Bool word stack is = given (kinds.Fixed n) stack _ _ (behind_it piece stack (Does (at (word ∷ stack))) (ScaleUp n) is)
  unary_gives (of.ToFix n) piece (kinds.Fixed had) word stack is =
      given (kinds.Fixed n) stack _ _
      (behind_it piece stack (Does (at (word ∷ stack))) (if nat_le had n then ScaleUp (n - had) else ScaleDown (had - n)) is
      ∙ scaled (nat_le had n) (n - had) (had - n) word stack)

  -- An operation on two words is that on two values, the first of this kind.
  binary_gives : (op : BinOp) (kind other : Kind) (x y : ℤ) (stack : List ℤ) (did : Did) → did ≡ act (binary_code op kind) (at (y ∷ (x ∷ stack)))
      → Gives (binary_kind_of op kind) stack did (binary_value op (record { kind = kind; word = x }) (record { kind = other; word = y }))
  binary_gives by.Add kind other x y stack did is = given kind stack _ did is
  binary_gives by.Sub kind other x y stack did is = given kind stack _ did is
  binary_gives by.Mul kinds.Int other x y stack did is = given kinds.Int stack _ did is
  binary_gives by.Mul kinds.Bool other x y stack did is = given kinds.Bool stack _ did is
  binary_gives by.Mul (kinds.Fixed n) other x y stack did is = given (kinds.Fixed n) stack _ did is
  binary_gives by.Slash kinds.Int other x y stack did is = given kinds.Int stack _ did is
  binary_gives by.Slash kinds.Bool other x y stack did is = given kinds.Bool stack _ did is
  binary_gives by.Slash (kinds.Fixed n) other x y stack did is = given (kinds.Fixed n) stack _ did is
  binary_gives by.Div kind other x y stack did is = given kind stack _ did is
  binary_gives by.Mod kind other x y stack did is = given kind stack _ did is
  binary_gives by.Eq kind other x y stack did is = given_truth _ stack did is
  binary_gives by.Ne kind other x y stack did is = given_truth _ stack did is
  binary_gives by.Lt kind other x y stack did is = given_truth _ stack did is
  binary_gives by.Le kind other x y stack did is = given_truth _ stack did is
  binary_gives by.Gt kind other x y stack did is = given_truth _ stack did is
  binary_gives by.Ge kind other x y stack did is = given_truth _ stack did is
  binary_gives by.And kind other x y stack did is = given_truth _ stack did is
  binary_gives by.Or kind other x y stack did is = given_truth _ stack did is
  binary_gives by.Min kind other x y stack did is = given kind stack (least x y) did is
  binary_gives by.Max kind other x y stack did is = given kind stack (most x y) did is

  -- ---- Nodes, of any code and results of their parts

  -- A fault before the operation is the fault.
  failed : (piece : Piece) (stack : List ℤ) (fault : Fault) (behind : Option Instruction) → does piece (at stack) ≡ Fails fault
      → does (and_perhaps piece behind) (at stack) ≡ Fails fault
  failed piece stack fault None is = is
  failed piece stack fault (Some instruction) is = behind_it piece stack (Fails fault) instruction is

  unary_means : (op : UnOp) (a : Coded) (r : Result Value Fault) → Means a r → Means (unary_joined op a) (r >>= λ x. unary_value op x)
  unary_means op a (Ok v) m agrees stack =
      let x = m agrees stack in
      subst (λ k. Gives (unary_kind_of op k) stack (does (and_perhaps a.piece (unary_code op k)) (at stack)) (unary_value op v)) x.1
      (unary_gives op a.piece v.kind v.word stack x.0)
  unary_means op a (Err fault) m agrees stack = failed a.piece stack fault (unary_code op a.kind) (m agrees stack)

  -- A piece, and what comes after it.
  then_does : (piece next : Piece) (stack : List ℤ) (did : Did) → does piece (at stack) ≡ did → does (Then piece next) (at stack) ≡ and_then did (does next)
  then_does piece next stack did is = ap (λ d. and_then d (does next)) is

  binary_means : (op : BinOp) (a b : Coded) (r q : Result Value Fault) → Means a r → Means b q
      → Means (binary_joined op a b) (r >>= λ x. (q >>= λ y. binary_value op x y))
  binary_means op a b (Err fault) q m n agrees stack =
      then_does a.piece (Then b.piece (One (binary_code op a.kind))) stack (Fails fault) (m (and_parts a.agrees b.agrees agrees).0 stack)
  binary_means op a b (Ok x) (Err fault) m n agrees stack =
      let parts = and_parts a.agrees b.agrees agrees in
      then_does a.piece (Then b.piece (One (binary_code op a.kind))) stack (Does (at (x.word ∷ stack))) (m parts.0 stack).0
      ∙ then_does b.piece (One (binary_code op a.kind)) (x.word ∷ stack) (Fails fault) (n parts.1 (x.word ∷ stack))
  binary_means op a b (Ok x) (Ok y) m n agrees stack =
      let parts = and_parts a.agrees b.agrees agrees in
      let first = m parts.0 stack in
      let second = n parts.1 (x.word ∷ stack) in
      let back : does (Then a.piece (Then b.piece (One (binary_code op a.kind)))) (at stack) ≡ act (binary_code op x.kind) (at (y.word ∷ (x.word ∷ stack))) =
      then_does a.piece (Then b.piece (One (binary_code op a.kind))) stack (Does (at (x.word ∷ stack))) first.0
      ∙ then_does b.piece (One (binary_code op a.kind)) (x.word ∷ stack) (Does (at (y.word ∷ (x.word ∷ stack)))) second.0
      ∙ ap (λ k. act (binary_code op k) (at (y.word ∷ (x.word ∷ stack)))) (sym first.1) in
      subst (λ k. Gives (binary_kind_of op k) stack (does (Then a.piece (Then b.piece (One (binary_code op a.kind)))) (at stack)) (binary_value op x y)) first.1
      (binary_gives op x.kind y.kind x.word y.word stack _ back)

  pub same_kind_is : (a b : Kind) → same_kind a b ≡ true → a ≡ b
  same_kind_is kinds.Int kinds.Int e = refl
  same_kind_is kinds.Bool kinds.Bool e = refl
  same_kind_is (kinds.Fixed m) (kinds.Fixed n) e = ap (λ k. kinds.Fixed k) (search (e, rules))
  same_kind_is kinds.Int kinds.Bool e = absurd (true≢false (sym e))
  same_kind_is kinds.Int (kinds.Fixed n) e = absurd (true≢false (sym e))
  same_kind_is kinds.Bool kinds.Int e = absurd (true≢false (sym e))
  same_kind_is kinds.Bool (kinds.Fixed n) e = absurd (true≢false (sym e))
  same_kind_is (kinds.Fixed m) kinds.Int e = absurd (true≢false (sym e))
  same_kind_is (kinds.Fixed m) kinds.Bool e = absurd (true≢false (sym e))

  -- One of two paths, both of this kind.
  either_gives : (zero : Bool) (a b : Coded) (stack : List ℤ) (r q : Result Value Fault) (did : Did)
      → did ≡ (if zero then does b.piece else does a.piece) (at stack) → b.kind ≡ a.kind → Gives a.kind stack (does a.piece (at stack)) r
      → Gives b.kind stack (does b.piece (at stack)) q → Gives a.kind stack did (if not zero then r else q)
  either_gives false a b stack r q did is same g h = subst (λ d. Gives a.kind stack d r) (sym is) g
  either_gives true a b stack r q did is same g h = subst (λ d. Gives a.kind stack d q) (sym is) (subst (λ k. Gives k stack (does b.piece (at stack)) q) same h)

  choice_means : (c a b : Coded) (s r q : Result Value Fault) → Means c s → Means a r → Means b q
      → Means (choice_joined c a b) (s >>= λ v. (if holds v then r else q))
  choice_means c a b (Err fault) r q l m n agrees stack =
      then_does c.piece (Choice a.piece b.piece) stack (Fails fault) (l (and_parts c.agrees _ agrees).0 stack)
  choice_means c a b (Ok v) r q l m n agrees stack =
      let first = and_parts c.agrees (a.agrees && (b.agrees && same_kind b.kind a.kind)) agrees in
      let second = and_parts a.agrees (b.agrees && same_kind b.kind a.kind) first.1 in
      let third = and_parts b.agrees (same_kind b.kind a.kind) second.1 in
      either_gives (is_zero v.word) a b stack r q _ (then_does c.piece (Choice a.piece b.piece) stack (Does (at (v.word ∷ stack))) (l first.0 stack).0)
      (same_kind_is b.kind a.kind third.1) (m second.0 stack) (n third.0 stack)

  clamp_means : (a b c : Coded) (r q s : Result Value Fault) → Means a r → Means b q → Means c s → Means (clamp_joined a b c) (clamped_value r q s)
  clamp_means a b c (Err fault) q s l m n agrees stack =
      then_does a.piece (Then b.piece (Then c.piece (One Clamp))) stack (Fails fault) (l (and_parts a.agrees _ agrees).0 stack)
  clamp_means a b c (Ok x) (Err fault) s l m n agrees stack =
      let first = and_parts a.agrees (b.agrees && c.agrees) agrees in
      then_does a.piece (Then b.piece (Then c.piece (One Clamp))) stack (Does (at (x.word ∷ stack))) (l first.0 stack).0
      ∙ then_does b.piece (Then c.piece (One Clamp)) (x.word ∷ stack) (Fails fault) (m (and_parts b.agrees c.agrees first.1).0 (x.word ∷ stack))
  clamp_means a b c (Ok x) (Ok y) (Err fault) l m n agrees stack =
      let first = and_parts a.agrees (b.agrees && c.agrees) agrees in
      let second = and_parts b.agrees c.agrees first.1 in
      then_does a.piece (Then b.piece (Then c.piece (One Clamp))) stack (Does (at (x.word ∷ stack))) (l first.0 stack).0
      ∙ then_does b.piece (Then c.piece (One Clamp)) (x.word ∷ stack) (Does (at (y.word ∷ (x.word ∷ stack)))) (m second.0 (x.word ∷ stack)).0
      ∙ then_does c.piece (One Clamp) (y.word ∷ (x.word ∷ stack)) (Fails fault) (n second.1 (y.word ∷ (x.word ∷ stack)))
  clamp_means a b c (Ok x) (Ok y) (Ok z) l m n agrees stack =
      let first = and_parts a.agrees (b.agrees && c.agrees) agrees in
      let second = and_parts b.agrees c.agrees first.1 in (
        then_does a.piece (Then b.piece (Then c.piece (One Clamp))) stack (Does (at (x.word ∷ stack))) (l first.0 stack).0
            ∙ then_does b.piece (Then c.piece (One Clamp)) (x.word ∷ stack) (Does (at (y.word ∷ (x.word ∷ stack)))) (m second.0 (x.word ∷ stack)).0
            ∙ then_does c.piece (One Clamp) (y.word ∷ (x.word ∷ stack)) (Does (at (z.word ∷ (y.word ∷ (x.word ∷ stack)))))
            (n second.1 (y.word ∷ (x.word ∷ stack))).0,
        (l first.0 stack).1,
      )

  truth_means : (told : Bool) → Means (leaf (truth_code told) kinds.Bool) (Ok (truth told))
  truth_means true agrees stack = (refl, refl)
  truth_means false agrees stack = (refl, refl)

  -- A slot's word is loaded.
  pub load_means : (slot : ℕ) (word : ℤ) (kind : Kind) → slice_get slots slot ≡ Some word
      → Means (leaf (Load slot) kind) (Ok (record { kind = kind; word = word }))
  load_means slot word kind is agrees stack = (ap (loads (at stack)) is, refl)

  -- ---- Expressions

  -- Slots and an environment agree: in the words of all names, and in the times.
  pub record Sees (scope : CodeScope) (env : Environment) : Type 0 where
    pub time : slice_get slots scope.time ≡ Some (pos env.time)
    pub step : slice_get slots scope.step ≡ Some (pos env.step)
    pub names : (name : List ℕ) → Means (name_code (named scope.names name)) (Ok (value_of_name env.variables env.words name))

  module _ (scope : CodeScope) (env : Environment) (sees : Sees scope env) where
    abbrev pub Here : Expr → Type 0
    Here e = Means (code_of e scope) (value_of e env)

    by_folds : (e : Expr) (c : Coding) (m : Meaning) → code_of e ≡ c → value_of e ≡ m → Means (c scope) (m env) → Here e
    by_folds e c m is means mean =
        subst (λ (x : Coding). Means (x scope) (value_of e env)) (sym is) (subst (λ (x : Meaning). Means (c scope) (x env)) (sym means) mean)

    abbrev Proved : Type 0
    Proved = (e : Expr) × Here e

    abbrev bare : Proved → Expr
    bare p = p.0

    node : (y : Expr-F Proved) → Here (roll-Expr (map-Expr Proved Expr bare y))
    node (Expr-F.Number word decimals) =
        subst Here (sym (rolls-Number word decimals))
        (by_folds (expr.Number word decimals) _ _ (fold-Number Coding node_code word decimals) (fold-Number Meaning node_meaning word decimals)
        (λ agrees stack. (refl, refl)))
    node (Expr-F.Truth told) =
        subst Here (sym (rolls-Truth told))
        (by_folds (expr.Truth told) _ _ (fold-Truth Coding node_code told) (fold-Truth Meaning node_meaning told) (truth_means told))
    node (Expr-F.Var name) =
        subst Here (sym (rolls-Var name)) (by_folds (expr.Var name) _ _ (fold-Var Coding node_code name) (fold-Var Meaning node_meaning name) (sees.names name))
    node Expr-F.Time =
        subst Here (sym rolls-Time)
        (by_folds expr.Time _ _ (fold-Time Coding node_code) (fold-Time Meaning node_meaning) (load_means scope.time (pos env.time) kinds.Int sees.time))
    node Expr-F.Step =
        subst Here (sym rolls-Step)
        (by_folds expr.Step _ _ (fold-Step Coding node_code) (fold-Step Meaning node_meaning) (load_means scope.step (pos env.step) kinds.Int sees.step))
    node (Expr-F.Unary op a) =
        subst Here (sym (rolls-Unary op (bare a)))
        (by_folds (expr.Unary op (bare a)) _ _ (fold-Unary Coding node_code op (bare a)) (fold-Unary Meaning node_meaning op (bare a))
        (unary_means op (code_of (bare a) scope) (value_of (bare a) env) a.1))
    node (Expr-F.Binary op a b) =
        subst Here (sym (rolls-Binary op (bare a) (bare b)))
        (by_folds (expr.Binary op (bare a) (bare b)) _ _ (fold-Binary Coding node_code op (bare a) (bare b))
        (fold-Binary Meaning node_meaning op (bare a) (bare b))
        (binary_means op (code_of (bare a) scope) (code_of (bare b) scope) (value_of (bare a) env) (value_of (bare b) env) a.1 b.1))
    node (Expr-F.Clamp a b c) =
        subst Here (sym (rolls-Clamp (bare a) (bare b) (bare c)))
        (by_folds (expr.Clamp (bare a) (bare b) (bare c)) _ _ (fold-Clamp Coding node_code (bare a) (bare b) (bare c))
        (fold-Clamp Meaning node_meaning (bare a) (bare b) (bare c))
        (clamp_means (code_of (bare a) scope) (code_of (bare b) scope) (code_of (bare c) scope) (value_of (bare a) env) (value_of (bare b) env)
        (value_of (bare c) env) a.1 b.1 c.1))
    node (Expr-F.Choose c a b) =
        subst Here (sym (rolls-Choose (bare c) (bare a) (bare b)))
        (by_folds (expr.Choose (bare c) (bare a) (bare b)) _ _ (fold-Choose Coding node_code (bare c) (bare a) (bare b))
        (fold-Choose Meaning node_meaning (bare c) (bare a) (bare b))
        (choice_means (code_of (bare c) scope) (code_of (bare a) scope) (code_of (bare b) scope) (value_of (bare c) env) (value_of (bare a) env)
        (value_of (bare b) env) c.1 a.1 b.1))
    node Expr-F.Absent =
        subst Here (sym rolls-Absent)
        (by_folds expr.Absent _ _ (fold-Absent Coding node_code) (fold-Absent Meaning node_meaning) (λ agrees stack. (refl, refl)))
    node (Expr-F.Present name) =
        subst Here (sym (rolls-Present name))
        (by_folds (expr.Present name) _ _ (fold-Present Coding node_code name) (fold-Present Meaning node_meaning name) (truth_means false))

    -- The code of an expression does what the expression means.
    pub means : (e : Expr) → Here e
    means = ind-Expr Here (λ x y is. subst (λ z. Here (roll-Expr z)) is (node y))
