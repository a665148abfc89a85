-- Pieces of expressions and step lines are well-made, as high as the expressions are deep, and cost what the trees cost.
use Rattle.std.proofs.Common.{◌≡◌, ℕ, zero, suc, ◌+◌, ◌-◌, ◌*◌, ◌<◌, ◌≤◌, max, Bool, true, false, ◌&&◌, nat_le, List, Option, Some, None, refl, sym, ap}
use Rattle.std.proofs.Common.{◌∙◌, subst, eq-eqb, arith}
use Rattle.std.specs.Prelude.{⊤, if◌then◌else◌}
use Rattle.std.specs.Option.{unwrap_or}
use Rattle.std.proofs.Math.Nat.{le-max_left, le-max_right, max-le}
use Rattle.std.proofs.lemmas.Bool.{and_parts, and_from}
use Rattle.fixed_words.specs.Types.{kind_of, AreDecimals}
use Rattle.fixed_words.specs.declared.types.Kind.{Kind}
use Rattle.fixed_words.specs.declared.types.Kind.TheVariants as kinds
use Rattle.fixed_words.specs.declared.types.Ty.{Ty}
use Rattle.fixed_words.specs.declared.types.Ty.TheVariants as types
use Rattle.code_units.specs.Expressions.{Coded, Coding, leaf, place_code, name_code, truth_code, unary_code, unary_kind_of, binary_code, binary_kind_of}
use Rattle.code_units.specs.Expressions.{and_perhaps, unary_joined, binary_joined, clamp_joined, choice_joined, node_code, code_of}
use Rattle.code_units.specs.Scopes.{named}
use Rattle.code_units.specs.declared.scope.Named.{Named}
use Rattle.code_units.specs.declared.scope.NamePlace.{NamePlace}
use Rattle.code_units.specs.declared.scope.NamePlace.TheVariants.{Constant, Slot}
use Rattle.code_units.specs.declared.scope.CodeScope.{CodeScope}
use Rattle.code_pieces.specs.Pieces.{Piece, One, Then, Choice, cost, is_on, is_made, and_height, one_height, height_behind, top_of}
use Rattle.unit_tree.specs.Costs.{node_cost, cost_of}
use Rattle.unit_tree.specs.Names.{node_depth, depth_of}
use Rattle.unit_tree.specs.Values.{IsKind, kind_of_number, unary_is_ranged, node_is_ranged, is_ranged}
use Rattle.unit_tree.specs.declared.expr.BinOp.{BinOp}
use Rattle.unit_tree.specs.declared.expr.BinOp.TheVariants as by
use Rattle.unit_tree.specs.declared.expr.UnOp.{UnOp}
use Rattle.unit_tree.specs.declared.expr.UnOp.TheVariants as of
use Rattle.unit_tree.specs.declared.expr.Expr as expr
use Rattle.unit_tree.specs.declared.expr.Expr.{Expr}
use Rattle.unit_tree.specs.declared.expr.Expr.TheVariants.{rolls-Number, rolls-Truth, rolls-Var, rolls-Time, rolls-Step, rolls-Unary, rolls-Binary, rolls-Clamp}
use Rattle.unit_tree.specs.declared.expr.Expr.TheVariants.{rolls-Choose, rolls-Absent, rolls-Present}
use Rattle.unit_tree.specs.declared.expr.Expr.TheFolds.{ind-Expr, map-Expr}
use Rattle.unit_tree.specs.declared.expr.Expr.TheViews.{roll-Expr}
use Rattle.unit_tree.specs.declared.expr.Expr.TheOpen.{Expr-F}
use Rattle.unit_tree.proofs.FoldLemmas.{fold-Number, fold-Truth, fold-Var, fold-Time, fold-Step, fold-Unary, fold-Binary, fold-Clamp, fold-Choose, fold-Absent}
use Rattle.unit_tree.proofs.FoldLemmas.{fold-Present}
use Rattle.unit_vm.specs.Instructions.{takes, leaves, flow_of, slots_of, is_type, is_argued}
use Rattle.unit_vm.specs.declared.instruction.Instruction.{Instruction}
use Rattle.unit_vm.specs.declared.instruction.Instruction.TheVariants.{Push, Load, Clamp, ScaleUp, ScaleDown}
use Rattle.unit_vm.specs.declared.program.Sizes.{Sizes}
use Rattle.list_laws.proofs.Truths.{le_asked, lt_asked, le_told}

-- ---- Tests

-- ---- Heights of pieces

pub one_is : (instruction : Instruction) (height after : ℕ) → takes instruction ≤ height → height - takes instruction + leaves instruction ≡ after
    → height_behind (One instruction) height ≡ Some after
one_is instruction height after enough is =
    ap (λ (b : Bool). if b then Some (height - takes instruction + leaves instruction) else None) (le_asked (takes instruction) height enough)
    ∙ ap (λ n. Some n) is

pub then_is : (first second : Piece) (height between after : ℕ) → height_behind first height ≡ Some between → height_behind second between ≡ Some after
    → height_behind (Then first second) height ≡ Some after
then_is first second height between after one other = ap (λ o. and_height o (height_behind second)) one ∙ other

pub then_top : (first second : Piece) (height between top : ℕ) → height_behind first height ≡ Some between → top_of first height ≤ top
    → top_of second between ≤ top → top_of (Then first second) height ≤ top
then_top first second height between top is one other =
    max-le one (subst (λ (o : Option ℕ). top_of second (unwrap_or o 0) ≤ top) (sym is) other)

pub same_height : (n : ℕ) → one_height (Some n) (Some n) ≡ Some n
same_height n = ap (λ (b : Bool). if b then Some n else None) (eq-eqb n n refl)

pub choice_is : (first second : Piece) (below after : ℕ) → height_behind first below ≡ Some after → height_behind second below ≡ Some after
    → height_behind (Choice first second) (suc below) ≡ Some after
choice_is first second below after one other =
    ap (λ o. one_height o (height_behind second below)) one ∙ ap (one_height (Some after)) other ∙ same_height after

pub choice_top : (first second : Piece) (below top : ℕ) → suc below ≤ top → top_of first below ≤ top → top_of second below ≤ top
    → top_of (Choice first second) (suc below) ≤ top
choice_top first second below top low one other =
    let less : suc below - 1 ≡ below = omega arith in
    max-le low (max-le (subst (λ n. top_of first n ≤ top) (sym less) one) (subst (λ n. top_of second n ≤ top) (sym less) other))

-- ---- Scopes whose slots exist and whose types are known

abbrev pub PlaceFits : Sizes → NamePlace → Type 0
PlaceFits sizes (Slot slot) = slot < slots_of sizes
PlaceFits sizes (Constant word) = ⊤

abbrev pub NamedFits : Sizes → Option Named → Type 0
NamedFits sizes None = ⊤
NamedFits sizes (Some found) = PlaceFits sizes found.place × AreDecimals found.ty

pub record Known (scope : CodeScope) : Type 0 where
  pub time : scope.time < slots_of scope.sizes
  pub step : scope.step < slots_of scope.sizes
  pub names : (name : List ℕ) → NamedFits scope.sizes (named scope.names name)

type_kind : (ty : Ty) → AreDecimals ty → IsKind (kind_of ty)
type_kind types.Int8 are = _
type_kind types.UInt8 are = _
type_kind types.Int16 are = _
type_kind types.UInt16 are = _
type_kind types.Int32 are = _
type_kind types.UInt32 are = _
type_kind types.Int64 are = _
type_kind types.Bool are = _
type_kind (types.Fixed decimals) are = are

pub type_known : (ty : Ty) → AreDecimals ty → is_type ty ≡ true
type_known types.Int8 are = refl
type_known types.UInt8 are = refl
type_known types.Int16 are = refl
type_known types.UInt16 are = refl
type_known types.Int32 are = refl
type_known types.UInt32 are = refl
type_known types.Int64 are = refl
type_known types.Bool are = refl
type_known (types.Fixed decimals) are = le_asked decimals 9 are

-- ---- Expressions

-- A piece pushes one word.
pub record Pushes (piece : Piece) (depth : ℕ) : Type 0 where
  pub height : (n : ℕ) → height_behind piece n ≡ Some (suc n)
  pub top : (n k : ℕ) → n + 2 * depth ≤ suc k → top_of piece n ≤ k
  pub deep : 1 ≤ depth

-- The code of an expression of such a depth and such a cost, which is in range or not.
pub record Good (sizes : Sizes) (coded : Coded) (ranged : Bool) (depth price : ℕ) : Type 0 where
  pub made : ranged ≡ true → is_made sizes coded.piece ≡ true
  pub kind : ranged ≡ true → IsKind coded.kind
  pub pushes : Pushes coded.piece depth
  pub cheap : cost coded.piece ≤ price

module _ (sizes : Sizes) where
  leaf_pushes : (instruction : Instruction) → takes instruction ≡ 0 → leaves instruction ≡ 1 → Pushes (One instruction) 1
  leaf_pushes instruction none one = record {
    height = λ n. one_is instruction n (suc n) (omega arith) (omega arith);
    top = λ n k low. let after : n - takes instruction + leaves instruction ≤ k = omega arith in let before : n ≤ k = omega arith in max-le before after;
    deep = omega arith;
  }

  leaf_good : (instruction : Instruction) (kind : Kind) (ranged : Bool) → takes instruction ≡ 0 → leaves instruction ≡ 1
      → (ranged ≡ true → is_made sizes (One instruction) ≡ true) → (ranged ≡ true → IsKind kind) → Good sizes (leaf instruction kind) ranged 1 1
  leaf_good instruction kind ranged none one made known = record { made = made; kind = known; pushes = leaf_pushes instruction none one; cheap = omega arith }

  -- What replaces the top word.
  abbrev Replaces : Option Instruction → Type 0
  Replaces None = ⊤
  Replaces (Some instruction) = (takes instruction ≡ 1) × (leaves instruction ≡ 1)

  scale_replaces : (longer : Bool) (up down : ℕ) → Replaces (Some (if longer then ScaleUp up else ScaleDown down))
  scale_replaces true up down = (refl, refl)
  scale_replaces false up down = (refl, refl)

  unary_replaces : (op : UnOp) (kind : Kind) → Replaces (unary_code op kind)
  unary_replaces of.Neg kind = (refl, refl)
  unary_replaces of.Not kind = (refl, refl)
  unary_replaces of.Abs kind = (refl, refl)
  unary_replaces of.ToInt kinds.Int = _
  unary_replaces of.ToInt kinds.Bool = _
  unary_replaces of.ToInt (kinds.Fixed had) = (refl, refl)
  unary_replaces (of.ToFix n) kinds.Int = (refl, refl)
  unary_replaces (of.ToFix n) kinds.Bool = (refl, refl)
  unary_replaces (of.ToFix n) (kinds.Fixed had) = scale_replaces (nat_le had n) (n - had) (had - n)

  perhaps_pushes : (piece : Piece) (instruction : Option Instruction) (depth : ℕ) → Replaces instruction → Pushes piece depth
      → Pushes (and_perhaps piece instruction) (suc depth)
  perhaps_pushes piece None depth one pushes = record {
    height = pushes.height;
    top = λ n k low. pushes.top n k (omega arith);
    deep = omega arith;
  }
  perhaps_pushes piece (Some instruction) depth one pushes =
      let deep : 1 ≤ depth = pushes.deep in
      let takes_one : takes instruction ≡ 1 = one.0 in
      let leaves_one : leaves instruction ≡ 1 = one.1 in record {
        height = λ n. then_is piece (One instruction) n (suc n) (suc n) (pushes.height n) (one_is instruction (suc n) (suc n) (omega arith) (omega arith));
        top = λ n k low.
            let before : suc n ≤ k = omega arith in
            let after : suc n - takes instruction + leaves instruction ≤ k = omega arith in
            then_top piece (One instruction) n (suc n) k (pushes.height n) (pushes.top n k (omega arith)) (max-le before after);
        deep = omega arith;
      }

  perhaps_cost : (piece : Piece) (instruction : Option Instruction) → cost (and_perhaps piece instruction) ≤ cost piece + 1
  perhaps_cost piece None = omega arith
  perhaps_cost piece (Some instruction) = omega arith

  abbrev is_fine : Instruction → Bool
  is_fine instruction = is_on (flow_of instruction) && is_argued sizes instruction

  scale_fine : (longer : Bool) (n had : ℕ) → n ≤ 9 → had ≤ 9 → is_fine (if longer then ScaleUp (n - had) else ScaleDown (had - n)) ≡ true
  scale_fine true n had one other = le_asked (n - had) 9 (omega arith)
  scale_fine false n had one other = le_asked (had - n) 9 (omega arith)

  unary_made : (op : UnOp) (kind : Kind) (piece : Piece) → unary_is_ranged op ≡ true → IsKind kind → is_made sizes piece ≡ true
      → is_made sizes (and_perhaps piece (unary_code op kind)) ≡ true
  unary_made of.Neg kind piece ranged known made = and_from _ _ made refl
  unary_made of.Not kind piece ranged known made = and_from _ _ made refl
  unary_made of.Abs kind piece ranged known made = and_from _ _ made refl
  unary_made of.ToInt kinds.Int piece ranged known made = made
  unary_made of.ToInt kinds.Bool piece ranged known made = made
  unary_made of.ToInt (kinds.Fixed had) piece ranged known made = and_from _ _ made (le_asked had 9 known)
  unary_made (of.ToFix n) kinds.Int piece ranged known made = and_from _ _ made ranged
  unary_made (of.ToFix n) kinds.Bool piece ranged known made = and_from _ _ made ranged
  unary_made (of.ToFix n) (kinds.Fixed had) piece ranged known made = and_from _ _ made (scale_fine (nat_le had n) n had (le_told n 9 ranged) known)

  unary_kind_known : (op : UnOp) (kind : Kind) → unary_is_ranged op ≡ true → IsKind kind → IsKind (unary_kind_of op kind)
  unary_kind_known of.Neg kind ranged known = known
  unary_kind_known of.Not kind ranged known = _
  unary_kind_known of.Abs kind ranged known = known
  unary_kind_known of.ToInt kind ranged known = _
  unary_kind_known (of.ToFix n) kind ranged known = le_told n 9 ranged

  unary_good : (op : UnOp) (a : Coded) (ranged : Bool) (depth price : ℕ) → Good sizes a ranged depth price
      → Good sizes (unary_joined op a) (unary_is_ranged op && ranged) (suc depth) (price + 1)
  unary_good op a ranged depth price good = record {
    made = λ is. let parts = and_parts (unary_is_ranged op) ranged is in unary_made op a.kind a.piece parts.0 (good.kind parts.1) (good.made parts.1);
    kind = λ is. let parts = and_parts (unary_is_ranged op) ranged is in unary_kind_known op a.kind parts.0 (good.kind parts.1);
    pushes = perhaps_pushes a.piece (unary_code op a.kind) depth (unary_replaces op a.kind) good.pushes;
    cheap = let more = perhaps_cost a.piece (unary_code op a.kind) in let less = good.cheap in omega arith;
  }

  -- What joins the two top words.
  pub record Joins (instruction : Instruction) : Type 0 where
    pub two : takes instruction ≡ 2
    pub one : leaves instruction ≡ 1

  binary_joins : (op : BinOp) (kind : Kind) → Joins (binary_code op kind)
  binary_joins by.Add kind = record { two = refl; one = refl }
  binary_joins by.Sub kind = record { two = refl; one = refl }
  binary_joins by.Mul kinds.Int = record { two = refl; one = refl }
  binary_joins by.Mul kinds.Bool = record { two = refl; one = refl }
  binary_joins by.Mul (kinds.Fixed n) = record { two = refl; one = refl }
  binary_joins by.Slash kinds.Int = record { two = refl; one = refl }
  binary_joins by.Slash kinds.Bool = record { two = refl; one = refl }
  binary_joins by.Slash (kinds.Fixed n) = record { two = refl; one = refl }
  binary_joins by.Div kind = record { two = refl; one = refl }
  binary_joins by.Mod kind = record { two = refl; one = refl }
  binary_joins by.Eq kind = record { two = refl; one = refl }
  binary_joins by.Ne kind = record { two = refl; one = refl }
  binary_joins by.Lt kind = record { two = refl; one = refl }
  binary_joins by.Le kind = record { two = refl; one = refl }
  binary_joins by.Gt kind = record { two = refl; one = refl }
  binary_joins by.Ge kind = record { two = refl; one = refl }
  binary_joins by.And kind = record { two = refl; one = refl }
  binary_joins by.Or kind = record { two = refl; one = refl }
  binary_joins by.Min kind = record { two = refl; one = refl }
  binary_joins by.Max kind = record { two = refl; one = refl }

  binary_fine : (op : BinOp) (kind : Kind) → IsKind kind → is_fine (binary_code op kind) ≡ true
  binary_fine by.Mul (kinds.Fixed n) known = le_asked n 9 known
  binary_fine by.Slash (kinds.Fixed n) known = le_asked n 9 known
  binary_fine by.Mul kinds.Int known = refl
  binary_fine by.Mul kinds.Bool known = refl
  binary_fine by.Slash kinds.Int known = refl
  binary_fine by.Slash kinds.Bool known = refl
  binary_fine by.Add kind known = refl
  binary_fine by.Sub kind known = refl
  binary_fine by.Div kind known = refl
  binary_fine by.Mod kind known = refl
  binary_fine by.Eq kind known = refl
  binary_fine by.Ne kind known = refl
  binary_fine by.Lt kind known = refl
  binary_fine by.Le kind known = refl
  binary_fine by.Gt kind known = refl
  binary_fine by.Ge kind known = refl
  binary_fine by.And kind known = refl
  binary_fine by.Or kind known = refl
  binary_fine by.Min kind known = refl
  binary_fine by.Max kind known = refl

  binary_kind_known : (op : BinOp) (kind : Kind) → IsKind kind → IsKind (binary_kind_of op kind)
  binary_kind_known by.Add kind known = known
  binary_kind_known by.Sub kind known = known
  binary_kind_known by.Mul kind known = known
  binary_kind_known by.Slash kind known = known
  binary_kind_known by.Div kind known = known
  binary_kind_known by.Mod kind known = known
  binary_kind_known by.Eq kind known = _
  binary_kind_known by.Ne kind known = _
  binary_kind_known by.Lt kind known = _
  binary_kind_known by.Le kind known = _
  binary_kind_known by.Gt kind known = _
  binary_kind_known by.Ge kind known = _
  binary_kind_known by.And kind known = _
  binary_kind_known by.Or kind known = _
  binary_kind_known by.Min kind known = known
  binary_kind_known by.Max kind known = known

  join_pushes : (a b : Piece) (instruction : Instruction) (d e : ℕ) → Joins instruction → Pushes a d → Pushes b e
      → Pushes (Then a (Then b (One instruction))) (suc (max d e))
  join_pushes a b instruction d e joins one other =
      let low : d ≤ max d e = le-max_left d e in
      let high : e ≤ max d e = le-max_right d e in
      let deep : 1 ≤ d = one.deep in
      let two : takes instruction ≡ 2 = joins.two in
      let single : leaves instruction ≡ 1 = joins.one in
      let last = λ (n : ℕ). one_is instruction (suc (suc n)) (suc n) (omega arith) (omega arith) in
      let behind_b = λ (n : ℕ). then_is b (One instruction) (suc n) (suc (suc n)) (suc n) (other.height (suc n)) (last n) in record {
        height = λ n. then_is a (Then b (One instruction)) n (suc n) (suc n) (one.height n) (behind_b n);
        top = λ n k within.
            let before : suc (suc n) ≤ k = omega arith in
            let after : suc (suc n) - takes instruction + leaves instruction ≤ k = omega arith in
            then_top a (Then b (One instruction)) n (suc n) k (one.height n) (one.top n k (omega arith))
            (then_top b (One instruction) (suc n) (suc (suc n)) k (other.height (suc n)) (other.top (suc n) k (omega arith)) (max-le before after));
        deep = omega arith;
      }

  binary_good : (op : BinOp) (a b : Coded) (one other : Bool) (d e p q : ℕ) → Good sizes a one d p → Good sizes b other e q
      → Good sizes (binary_joined op a b) (one && other) (suc (max d e)) (p + q + 1)
  binary_good op a b one other d e p q f g = record {
    made = λ is. let parts = and_parts one other is in and_from _ _ (f.made parts.0) (and_from _ _ (g.made parts.1) (binary_fine op a.kind (f.kind parts.0)));
    kind = λ is. binary_kind_known op a.kind (f.kind (and_parts one other is).0);
    pushes = join_pushes a.piece b.piece (binary_code op a.kind) d e (binary_joins op a.kind) f.pushes g.pushes;
    cheap = let less = f.cheap in let also = g.cheap in omega arith;
  }

  clamp_pushes : (a b c : Piece) (d e f : ℕ) → Pushes a d → Pushes b e → Pushes c f → Pushes (Then a (Then b (Then c (One Clamp)))) (suc (max d (max e f)))
  clamp_pushes a b c d e f one other third =
      let inner : ℕ = max e f in
      let low : d ≤ max d (max e f) = le-max_left d (max e f) in
      let high : max e f ≤ max d (max e f) = le-max_right d (max e f) in
      let second : e ≤ max e f = le-max_left e f in
      let last : f ≤ max e f = le-max_right e f in
      let deep : 1 ≤ f = third.deep in
      let end = λ (n : ℕ). one_is Clamp (suc (suc (suc n))) (suc n) (omega arith) (omega arith) in
      let behind_c = λ (n : ℕ). then_is c (One Clamp) (suc (suc n)) (suc (suc (suc n))) (suc n) (third.height (suc (suc n))) (end n) in
      let behind_b = λ (n : ℕ). then_is b (Then c (One Clamp)) (suc n) (suc (suc n)) (suc n) (other.height (suc n)) (behind_c n) in record {
        height = λ n. then_is a (Then b (Then c (One Clamp))) n (suc n) (suc n) (one.height n) (behind_b n);
        top = λ n k within.
            let before : suc (suc (suc n)) ≤ k = omega arith in
            let after : suc (suc (suc n)) - 3 + 1 ≤ k = omega arith in
            then_top a (Then b (Then c (One Clamp))) n (suc n) k (one.height n) (one.top n k (omega arith))
            (then_top b (Then c (One Clamp)) (suc n) (suc (suc n)) k (other.height (suc n)) (other.top (suc n) k (omega arith))
            (then_top c (One Clamp) (suc (suc n)) (suc (suc (suc n))) k (third.height (suc (suc n))) (third.top (suc (suc n)) k (omega arith))
            (max-le before after)));
        deep = omega arith;
      }

  clamp_good : (a b c : Coded) (one other third : Bool) (d e f p q r : ℕ) → Good sizes a one d p → Good sizes b other e q → Good sizes c third f r
      → Good sizes (clamp_joined a b c) (one && (other && third)) (suc (max d (max e f))) (p + q + r + 1)
  clamp_good a b c one other third d e f p q r g h i = record {
    made = λ is.
        let parts = and_parts one (other && third) is in
        let rest = and_parts other third parts.1 in
        and_from _ _ (g.made parts.0) (and_from _ _ (h.made rest.0) (and_from _ _ (i.made rest.1) refl));
    kind = λ is. g.kind (and_parts one (other && third) is).0;
    pushes = clamp_pushes a.piece b.piece c.piece d e f g.pushes h.pushes i.pushes;
    cheap = let x = g.cheap in let y = h.cheap in let z = i.cheap in omega arith;
  }

  choice_pushes : (c a b : Piece) (f d e : ℕ) → Pushes c f → Pushes a d → Pushes b e → Pushes (Then c (Choice a b)) (suc (max f (max d e)))
  choice_pushes c a b f d e first one other =
      let low : f ≤ max f (max d e) = le-max_left f (max d e) in
      let high : max d e ≤ max f (max d e) = le-max_right f (max d e) in
      let second : d ≤ max d e = le-max_left d e in
      let last : e ≤ max d e = le-max_right d e in
      let deep : 1 ≤ f = first.deep in record {
        height = λ n. then_is c (Choice a b) n (suc n) (suc n) (first.height n) (choice_is a b n (suc n) (one.height n) (other.height n));
        top = λ n k within.
            then_top c (Choice a b) n (suc n) k (first.height n) (first.top n k (omega arith))
            (choice_top a b n k (omega arith) (one.top n k (omega arith)) (other.top n k (omega arith)));
        deep = omega arith;
      }

  choice_good : (c a b : Coded) (third one other : Bool) (f d e r p q : ℕ) → Good sizes c third f r → Good sizes a one d p → Good sizes b other e q
      → Good sizes (choice_joined c a b) (third && (one && other)) (suc (max f (max d e))) (r + 1 + p + 1 + q)
  choice_good c a b third one other f d e r p q g h i = record {
    made = λ is.
        let parts = and_parts third (one && other) is in
        let rest = and_parts one other parts.1 in
        and_from _ _ (g.made parts.0) (and_from _ _ (h.made rest.0) (i.made rest.1));
    kind = λ is. h.kind (and_parts one other (and_parts third (one && other) is).1).0;
    pushes = choice_pushes c.piece a.piece b.piece f d e g.pushes h.pushes i.pushes;
    cheap = let x = g.cheap in let y = h.cheap in let z = i.cheap in omega arith;
  }

  -- ---- Leaves

  number_kind : (decimals : ℕ) → nat_le decimals 9 ≡ true → IsKind (kind_of_number decimals)
  number_kind zero is = _
  number_kind (suc less) is = le_told (suc less) 9 is

  name_good : (found : Option Named) → NamedFits sizes found → Good sizes (name_code found) true 1 1
  name_good None fits = leaf_good (Push _) kinds.Int true refl refl (λ is. refl) (λ is. tt)
  name_good (Some found) fits = placed found.place fits.0
    where
      placed : (place : NamePlace) → PlaceFits sizes place → Good sizes (leaf (place_code place) (kind_of found.ty)) true 1 1
      placed (Constant word) fit = leaf_good (Push word) (kind_of found.ty) true refl refl (λ is. refl) (λ is. type_kind found.ty fits.1)
      placed (Slot slot) fit =
          leaf_good (Load slot) (kind_of found.ty) true refl refl (λ is. lt_asked slot (slots_of sizes) fit) (λ is. type_kind found.ty fits.1)

  truth_good : (told : Bool) → Good sizes (leaf (truth_code told) kinds.Bool) true 1 1
  truth_good true = leaf_good (truth_code true) kinds.Bool true refl refl (λ is. refl) (λ is. tt)
  truth_good false = leaf_good (truth_code false) kinds.Bool true refl refl (λ is. refl) (λ is. tt)

-- ---- All expressions

module _ (scope : CodeScope) (known : Known scope) where
  abbrev pub Fine : Expr → Type 0
  Fine e = Good scope.sizes (code_of e scope) (is_ranged e) (depth_of e) (cost_of e)

  by_folds : (e : Expr) (c : Coding) (b : Bool) (d p : ℕ) → code_of e ≡ c → is_ranged e ≡ b → depth_of e ≡ d → cost_of e ≡ p
      → Good scope.sizes (c scope) b d p → Fine e
  by_folds e c b d p is ranged deep costs good =
      subst (λ (x : Coding). Good scope.sizes (x scope) (is_ranged e) (depth_of e) (cost_of e)) (sym is)
      (subst (λ x. Good scope.sizes (c scope) x (depth_of e) (cost_of e)) (sym ranged)
      (subst (λ x. Good scope.sizes (c scope) b x (cost_of e)) (sym deep)
      (subst (Good scope.sizes (c scope) b d) (sym costs) good)))

  abbrev Proved : Type 0
  Proved = (e : Expr) × Fine e

  abbrev bare : Proved → Expr
  bare p = p.0

  node : (y : Expr-F Proved) → Fine (roll-Expr (map-Expr Proved Expr bare y))
  node (Expr-F.Number word decimals) =
      subst Fine (sym (rolls-Number word decimals))
      (by_folds (expr.Number word decimals) _ _ _ _ (fold-Number Coding node_code word decimals) (fold-Number Bool node_is_ranged word decimals)
      (fold-Number ℕ node_depth word decimals) (fold-Number ℕ node_cost word decimals)
      (leaf_good scope.sizes (Push word) (kind_of_number decimals) (nat_le decimals 9) refl refl (λ is. refl) (number_kind scope.sizes decimals)))
  node (Expr-F.Truth told) =
      subst Fine (sym (rolls-Truth told))
      (by_folds (expr.Truth told) _ _ _ _ (fold-Truth Coding node_code told) (fold-Truth Bool node_is_ranged told) (fold-Truth ℕ node_depth told)
      (fold-Truth ℕ node_cost told) (truth_good scope.sizes told))
  node (Expr-F.Var name) =
      subst Fine (sym (rolls-Var name))
      (by_folds (expr.Var name) _ _ _ _ (fold-Var Coding node_code name) (fold-Var Bool node_is_ranged name) (fold-Var ℕ node_depth name)
      (fold-Var ℕ node_cost name) (name_good scope.sizes (named scope.names name) (known.names name)))
  node Expr-F.Time =
      subst Fine (sym rolls-Time)
      (by_folds expr.Time _ _ _ _ (fold-Time Coding node_code) (fold-Time Bool node_is_ranged) (fold-Time ℕ node_depth) (fold-Time ℕ node_cost)
      (leaf_good scope.sizes (Load scope.time) kinds.Int true refl refl (λ is. lt_asked scope.time (slots_of scope.sizes) known.time) (λ is. tt)))
  node Expr-F.Step =
      subst Fine (sym rolls-Step)
      (by_folds expr.Step _ _ _ _ (fold-Step Coding node_code) (fold-Step Bool node_is_ranged) (fold-Step ℕ node_depth) (fold-Step ℕ node_cost)
      (leaf_good scope.sizes (Load scope.step) kinds.Int true refl refl (λ is. lt_asked scope.step (slots_of scope.sizes) known.step) (λ is. tt)))
  node (Expr-F.Unary op a) =
      subst Fine (sym (rolls-Unary op (bare a)))
      (by_folds (expr.Unary op (bare a)) _ _ _ _ (fold-Unary Coding node_code op (bare a)) (fold-Unary Bool node_is_ranged op (bare a))
      (fold-Unary ℕ node_depth op (bare a)) (fold-Unary ℕ node_cost op (bare a))
      (unary_good scope.sizes op (code_of (bare a) scope) (is_ranged (bare a)) (depth_of (bare a)) (cost_of (bare a)) a.1))
  node (Expr-F.Binary op a b) =
      subst Fine (sym (rolls-Binary op (bare a) (bare b)))
      (by_folds (expr.Binary op (bare a) (bare b)) _ _ _ _ (fold-Binary Coding node_code op (bare a) (bare b))
      (fold-Binary Bool node_is_ranged op (bare a) (bare b)) (fold-Binary ℕ node_depth op (bare a) (bare b))
      (fold-Binary ℕ node_cost op (bare a) (bare b))
      (binary_good scope.sizes op (code_of (bare a) scope) (code_of (bare b) scope) (is_ranged (bare a)) (is_ranged (bare b)) (depth_of (bare a))
      (depth_of (bare b)) (cost_of (bare a)) (cost_of (bare b)) a.1 b.1))
  node (Expr-F.Clamp a b c) =
      subst Fine (sym (rolls-Clamp (bare a) (bare b) (bare c)))
      (by_folds (expr.Clamp (bare a) (bare b) (bare c)) _ _ _ _ (fold-Clamp Coding node_code (bare a) (bare b) (bare c))
      (fold-Clamp Bool node_is_ranged (bare a) (bare b) (bare c)) (fold-Clamp ℕ node_depth (bare a) (bare b) (bare c))
      (fold-Clamp ℕ node_cost (bare a) (bare b) (bare c))
      (clamp_good scope.sizes (code_of (bare a) scope) (code_of (bare b) scope) (code_of (bare c) scope) (is_ranged (bare a)) (is_ranged (bare b))
      (is_ranged (bare c)) (depth_of (bare a)) (depth_of (bare b)) (depth_of (bare c)) (cost_of (bare a)) (cost_of (bare b))
      (cost_of (bare c)) a.1 b.1 c.1))
  node (Expr-F.Choose c a b) =
      subst Fine (sym (rolls-Choose (bare c) (bare a) (bare b)))
      (by_folds (expr.Choose (bare c) (bare a) (bare b)) _ _ _ _ (fold-Choose Coding node_code (bare c) (bare a) (bare b))
      (fold-Choose Bool node_is_ranged (bare c) (bare a) (bare b)) (fold-Choose ℕ node_depth (bare c) (bare a) (bare b))
      (fold-Choose ℕ node_cost (bare c) (bare a) (bare b))
      (choice_good scope.sizes (code_of (bare c) scope) (code_of (bare a) scope) (code_of (bare b) scope) (is_ranged (bare c)) (is_ranged (bare a))
      (is_ranged (bare b)) (depth_of (bare c)) (depth_of (bare a)) (depth_of (bare b)) (cost_of (bare c)) (cost_of (bare a))
      (cost_of (bare b)) c.1 a.1 b.1))
  node Expr-F.Absent =
      subst Fine (sym rolls-Absent)
      (by_folds expr.Absent _ _ _ _ (fold-Absent Coding node_code) (fold-Absent Bool node_is_ranged) (fold-Absent ℕ node_depth) (fold-Absent ℕ node_cost)
      (leaf_good scope.sizes (Push _) kinds.Int true refl refl (λ is. refl) (λ is. tt)))
  node (Expr-F.Present name) =
      subst Fine (sym (rolls-Present name))
      (by_folds (expr.Present name) _ _ _ _ (fold-Present Coding node_code name) (fold-Present Bool node_is_ranged name) (fold-Present ℕ node_depth name)
      (fold-Present ℕ node_cost name) (truth_good scope.sizes false))

  pub fine : (e : Expr) → Fine e
  fine = ind-Expr Fine (λ x y is. subst (λ z. Fine (roll-Expr z)) is (node y))
