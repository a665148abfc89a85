-- Canonical phrases have their trees, and the grammar allows them.
use Rattle.std.proofs.Common.{◌≡◌, ℕ, Bool, true, false, cond, ◌&&◌, ℤ, pos, negsuc, refl, ap, sym, subst, ◌∙◌, rules, arith}
use Rattle.std.proofs.lemmas.Bool.{and_parts}
use Rattle.std.specs.Prelude.{unsigned_abs, not}
use Rattle.std.specs.Int.{is_negative}
use Rattle.fixed_words.specs.Types.{is_word_of}
use Rattle.fixed_words.specs.declared.types.Ty.TheVariants.{Int64}
use Rattle.unit_tree.specs.Canonical.{placed, node_phrase, canonical_phrase}
use Rattle.unit_tree.specs.Phrases as phrase
use Rattle.unit_tree.specs.Phrases.{Phrase, Level, Whole, Or, And, Not, Comparison, Sum, Product, Negation, Primary, level_of, operand_level, left_level}
use Rattle.unit_tree.specs.Phrases.{right_level, unary_level, binary_level, allows, stands, tree_of}
use Rattle.unit_tree.specs.Printable.{node_is_unsigned, is_unsigned}
use Rattle.unit_tree.specs.declared.expr.BinOp.{BinOp}
use Rattle.unit_tree.specs.declared.expr.Expr as expr
use Rattle.unit_tree.specs.declared.expr.Expr.{Expr, the_lemmas}
use Rattle.unit_tree.specs.declared.expr.Expr.TheVariants.{rolls-Number, rolls-Unary, rolls-Binary, rolls-Clamp, rolls-Choose}
use Rattle.unit_tree.specs.declared.expr.Expr.TheFolds.{ind-Expr, map-Expr}
use Rattle.unit_tree.specs.declared.expr.Expr.TheViews.{roll-Expr}
use Rattle.unit_tree.specs.declared.expr.Expr.TheOpen.{Expr-F}
use Rattle.unit_tree.specs.declared.expr.UnOp.{UnOp}
use Rattle.unit_tree.proofs.FoldLemmas.{fold-Number, fold-Unary, fold-Binary, fold-Clamp, fold-Choose}

-- The weakest level allows every other, and the strongest is allowed everywhere.
pub all_in_whole : (level : Level) → allows Whole level ≡ true
all_in_whole level = search rules

pub primary_stands : (asked : Level) → allows asked Primary ≡ true
primary_stands Whole = refl
primary_stands Or = refl
primary_stands And = refl
primary_stands Not = refl
primary_stands Comparison = refl
primary_stands Sum = refl
primary_stands Product = refl
primary_stands Negation = refl
primary_stands Primary = refl

pub record Right (value : Expr) : Type 0 where
  pub is_tree : tree_of (canonical_phrase value) ≡ value
  pub stands_so : stands Whole (canonical_phrase value) ≡ true

abbrev Claim : Expr → Type 0
Claim value = is_unsigned value ≡ true → Right value

abbrev Proved : Type 0
Proved = (value : Expr) × Claim value

abbrev bare : Proved → Expr
bare value = value.0

unsigned_pos : (number : ℤ) → not (is_negative number) ≡ true → pos (unsigned_abs number) ≡ number
unsigned_pos (pos n) nonnegative = ap pos (omega arith)
unsigned_pos (negsuc n) nonnegative = absurd (cc)

-- An expression that is allowed somewhere is allowed wherever its level is.
stands_where : (asked : Level) (inner : Phrase) → stands Whole inner ≡ true → allows asked (level_of inner) ≡ true → stands asked inner ≡ true
stands_where asked (phrase.Number digits decimals) so allowed = refl
stands_where asked (phrase.Truth told) so allowed = refl
stands_where asked (phrase.Var name) so allowed = refl
stands_where asked phrase.Time so allowed = refl
stands_where asked phrase.Step so allowed = refl
stands_where asked (phrase.Parens inner) so allowed = so
stands_where asked (phrase.Unary op arg) so allowed = rw allowed (rw (all_in_whole (unary_level op)) at so)
stands_where asked (phrase.Binary op left right) so allowed = rw allowed (rw (all_in_whole (binary_level op)) at so)
stands_where asked (phrase.Clamp value low high) so allowed = so
stands_where asked (phrase.Choose condition then_part else_part) so allowed = rw allowed so
stands_where asked phrase.Absent so allowed = refl
stands_where asked (phrase.Present name) so allowed = refl

placed_by : (allowed : Bool) (asked : Level) (inner : Phrase) → allows asked (level_of inner) ≡ allowed → stands Whole inner ≡ true
    → stands asked (cond allowed inner (phrase.Parens inner)) ≡ true
placed_by true asked inner is so = stands_where asked inner so is
placed_by false asked inner is so = so

placed_stands : (asked : Level) (inner : Phrase) → stands Whole inner ≡ true → stands asked (placed asked inner) ≡ true
placed_stands asked inner so = placed_by (allows asked (level_of inner)) asked inner refl so

tree_by : (allowed : Bool) (inner : Phrase) → tree_of (cond allowed inner (phrase.Parens inner)) ≡ tree_of inner
tree_by true inner = refl
tree_by false inner = refl

tree_placed : (asked : Level) (inner : Phrase) → tree_of (placed asked inner) ≡ tree_of inner
tree_placed asked inner = tree_by (allows asked (level_of inner)) inner

-- ---- One node

right-Number : (number : ℤ) (decimals : ℕ) → Claim (expr.Number number decimals)
right-Number number decimals unsigned =
    let sign = and_parts (not (is_negative number)) (is_word_of Int64 number) (sym (fold-Number Bool node_is_unsigned number decimals) ∙ unsigned) in
    record {
      is_tree = ap tree_of (fold-Number Phrase node_phrase number decimals) ∙ ap (λ n. expr.Number n decimals) (unsigned_pos number sign.0);
      stands_so = ap (stands Whole) (fold-Number Phrase node_phrase number decimals);
    }

right-Unary : (op : UnOp) (arg : Expr) → Claim arg → Claim (expr.Unary op arg)
right-Unary op arg given unsigned =
    let is = given (sym (fold-Unary Bool node_is_unsigned op arg) ∙ unsigned) in
    record {
      is_tree = ap tree_of (fold-Unary Phrase node_phrase op arg)
          ∙ ap (expr.Unary op) (tree_placed (operand_level (unary_level op)) (canonical_phrase arg) ∙ is.is_tree);
      stands_so = ap (stands Whole) (fold-Unary Phrase node_phrase op arg)
          ∙ rw (all_in_whole (unary_level op)) (placed_stands (operand_level (unary_level op)) (canonical_phrase arg) is.stands_so);
    }

right-Binary : (op : BinOp) (left right : Expr) → Claim left → Claim right → Claim (expr.Binary op left right)
right-Binary op left right on_left on_right unsigned =
    let both = and_parts (is_unsigned left) (is_unsigned right) (sym (fold-Binary Bool node_is_unsigned op left right) ∙ unsigned) in
    let l = on_left both.0 in
    let r = on_right both.1 in
    let left_tree = tree_placed (left_level (binary_level op)) (canonical_phrase left) ∙ l.is_tree in
    let right_tree = tree_placed (right_level (binary_level op)) (canonical_phrase right) ∙ r.is_tree in
    record {
      is_tree = ap tree_of (fold-Binary Phrase node_phrase op left right)
          ∙ ap (λ e. expr.Binary op e (tree_of (placed (right_level (binary_level op)) (canonical_phrase right)))) left_tree
          ∙ ap (λ e. expr.Binary op left e) right_tree;
      stands_so =
          ap (stands Whole) (fold-Binary Phrase node_phrase op left right)
          ∙ rw (all_in_whole (binary_level op), placed_stands (left_level (binary_level op)) (canonical_phrase left) l.stands_so)
          (placed_stands (right_level (binary_level op)) (canonical_phrase right) r.stands_so);
    }

right-Clamp : (value low high : Expr) → Claim value → Claim low → Claim high → Claim (expr.Clamp value low high)
right-Clamp value low high on_value on_low on_high unsigned =
    let all = and_parts (is_unsigned value) (is_unsigned low && is_unsigned high) (sym (fold-Clamp Bool node_is_unsigned value low high) ∙ unsigned) in
    let bounds = and_parts (is_unsigned low) (is_unsigned high) all.1 in
    let v = on_value all.0 in
    let l = on_low bounds.0 in
    let h = on_high bounds.1 in
    record {
      is_tree = ap tree_of (fold-Clamp Phrase node_phrase value low high) ∙ rw (v.is_tree, l.is_tree, h.is_tree) refl;
      stands_so = ap (stands Whole) (fold-Clamp Phrase node_phrase value low high) ∙ rw (v.stands_so, l.stands_so) h.stands_so;
    }

right-Choose : (condition chosen other : Expr) → Claim condition → Claim chosen → Claim other → Claim (expr.Choose condition chosen other)
right-Choose condition chosen other on_condition on_chosen on_other unsigned =
    let all =
    and_parts (is_unsigned condition) (is_unsigned chosen && is_unsigned other) (sym (fold-Choose Bool node_is_unsigned condition chosen other) ∙ unsigned) in
    let parts = and_parts (is_unsigned chosen) (is_unsigned other) all.1 in
    let c = on_condition all.0 in
    let y = on_chosen parts.0 in
    let n = on_other parts.1 in
    record {
      is_tree = ap tree_of (fold-Choose Phrase node_phrase condition chosen other) ∙ rw (c.is_tree, y.is_tree, n.is_tree) refl;
      stands_so = ap (stands Whole) (fold-Choose Phrase node_phrase condition chosen other) ∙ rw (c.stands_so, y.stands_so) n.stands_so;
    }

node : (y : Expr-F Proved) → Claim (roll-Expr (map-Expr Proved Expr bare y))
node (Expr-F.Number number decimals) = subst Claim (sym (rolls-Number number decimals)) (right-Number number decimals)
node (Expr-F.Truth told) = λ unsigned. record { is_tree = simp the_lemmas; stands_so = simp the_lemmas }
node (Expr-F.Var name) = λ unsigned. record { is_tree = simp the_lemmas; stands_so = simp the_lemmas }
node Expr-F.Time = λ unsigned. record { is_tree = simp the_lemmas; stands_so = simp the_lemmas }
node Expr-F.Step = λ unsigned. record { is_tree = simp the_lemmas; stands_so = simp the_lemmas }
node (Expr-F.Unary op arg) = subst Claim (sym (rolls-Unary op (bare arg))) (right-Unary op (bare arg) arg.1)
node (Expr-F.Binary op left right) = subst Claim (sym (rolls-Binary op (bare left) (bare right))) (right-Binary op (bare left) (bare right) left.1 right.1)
node (Expr-F.Clamp value low high) =
    subst Claim (sym (rolls-Clamp (bare value) (bare low) (bare high))) (right-Clamp (bare value) (bare low) (bare high) value.1 low.1 high.1)
node (Expr-F.Choose condition then_part else_part) =
    subst Claim (sym (rolls-Choose (bare condition) (bare then_part) (bare else_part)))
    (right-Choose (bare condition) (bare then_part) (bare else_part) condition.1 then_part.1 else_part.1)
node Expr-F.Absent = λ unsigned. record { is_tree = simp the_lemmas; stands_so = simp the_lemmas }
node (Expr-F.Present name) = λ unsigned. record { is_tree = simp the_lemmas; stands_so = simp the_lemmas }

pub right : (value : Expr) → is_unsigned value ≡ true → Right value
right = ind-Expr Claim (λ x y is. subst (λ z. Claim (roll-Expr z)) is (node y))
