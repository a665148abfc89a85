-- How deep one node of an expression is nested, by a limit.
use Rattle.std.proofs.Common.{◌≡◌, ◌≤◌, ℕ, ◌+◌, suc, max, true, false, ◌&&◌, refl, sym, ap, ◌∙◌, arith}
use Rattle.std.specs.Prelude.{nat_le, nat_lt, IsTrue, IsFalse}
use Rattle.std.proofs.lemmas.Bool.Decides.{nat_tests}
use Rattle.unit_tree.specs.Canonical.{canonical_phrase, node_phrase, placed}
use Rattle.unit_tree.specs.Phrases as phrase
use Rattle.unit_tree.specs.Phrases.{Phrase, Level, Whole, nesting, binary_nesting, binary_level, left_level, right_level}
use Rattle.unit_tree.specs.declared.expr.BinOp.{BinOp}
use Rattle.unit_tree.specs.declared.expr.BinOp.TheVariants as by
use Rattle.unit_tree.specs.declared.expr.Expr as expr
use Rattle.unit_tree.specs.declared.expr.Expr.{Expr}
use Rattle.unit_tree.proofs.FoldLemmas.{fold-Binary, fold-Clamp, fold-Choose}
use Rattle.unit_print.specs.Calls.{is_call}
use Rattle.text_laws.proofs.ShortestPhrases.{placed_whole}

-- ---- Limits

pub none_above : (count : ℕ) → count ≤ 0 → nat_lt 0 count ≡ false
none_above count is = grind (arith, nat_tests)

-- The greater of two is within a limit where both are.
pub max_within : (one other limit : ℕ) → nat_le (max one other) limit ≡ (nat_le one limit && nat_le other limit)
max_within one other limit = grind (arith, nat_tests)

pub one_more : (depth less limit : ℕ) → less + 1 ≡ limit → nat_le (suc depth) limit ≡ nat_le depth less
one_more depth less limit is = grind (arith, nat_tests)

-- Of three parts, each one level deeper, two are within the limit: the third decides.
three_within : (a b c less limit : ℕ) → less + 1 ≡ limit → nat_le a less ≡ true → nat_le b less ≡ true → nat_le c less ≡ nat_le (suc (max a (max b c))) limit
three_within a b c less limit is first second =
    sym (one_more (max a (max b c)) less limit is ∙ max_within a (max b c) less ∙ ap (λ told. told && nat_le (max b c) less) first
    ∙ max_within b c less ∙ ap (λ told. told && nat_le c less) second)

two_within : (a b limit : ℕ) → nat_le a limit ≡ true → nat_le b limit ≡ nat_le (max a b) limit
two_within a b limit first = sym (max_within a b limit ∙ ap (λ told. told && nat_le b limit) first)

-- ---- Nodes

-- How deep an expression, as it is written, is nested.
abbrev levels : Expr → ℕ
levels value = nesting (canonical_phrase value)

pub clamp_within : (whole value low high one two three : Expr) (less limit : ℕ) → whole ≡ expr.Clamp value low high → one ≡ value → two ≡ low
    → three ≡ high → less + 1 ≡ limit
    → nat_le (levels one) less ≡ true → nat_le (levels two) less ≡ true → nat_le (levels three) less ≡ nat_le (levels whole) limit
clamp_within whole value low high one two three less limit is is_one is_two is_three more first second =
    let a = ap (λ (e : Expr). nat_le (levels e) less) (sym is_one) ∙ first in
    let b = ap (λ (e : Expr). nat_le (levels e) less) (sym is_two) ∙ second in
    let node : levels whole ≡ suc (max (levels value) (max (levels low) (levels high))) =
    ap levels is ∙ ap nesting (fold-Clamp Phrase node_phrase value low high) in
    ap (λ (e : Expr). nat_le (levels e) less) is_three ∙ three_within (levels value) (levels low) (levels high) less limit more a b
    ∙ ap (λ d. nat_le d limit) (sym node)

pub choose_within : (whole cond chosen other one two three : Expr) (less limit : ℕ) → whole ≡ expr.Choose cond chosen other → one ≡ cond
    → two ≡ chosen → three ≡ other → less + 1 ≡ limit
    → nat_le (levels one) less ≡ true → nat_le (levels two) less ≡ true → nat_le (levels three) less ≡ nat_le (levels whole) limit
choose_within whole cond chosen other one two three less limit is is_one is_two is_three more first second =
    let a = ap (λ (e : Expr). nat_le (levels e) less) (sym is_one) ∙ first in
    let b = ap (λ (e : Expr). nat_le (levels e) less) (sym is_two) ∙ second in
    let node : levels whole ≡ suc (max (levels cond) (max (levels chosen) (levels other))) =
    ap levels is ∙ ap nesting (fold-Choose Phrase node_phrase cond chosen other) in
    ap (λ (e : Expr). nat_le (levels e) less) is_three ∙ three_within (levels cond) (levels chosen) (levels other) less limit more a b
    ∙ ap (λ d. nat_le d limit) (sym node)

-- The operands of a call have no parentheses of their own, and are one level deeper.
call_levels : (op : BinOp) (left right : Phrase) → IsTrue (is_call op)
    → nesting (phrase.Binary op (placed (left_level (binary_level op)) left) (placed (right_level (binary_level op)) right)) ≡ suc (max
    (nesting left) (nesting right))
call_levels by.Min left right is =
    ap (λ (p : Phrase). suc (max (nesting p) (nesting (placed Whole right)))) (placed_whole left)
    ∙ ap (λ (p : Phrase). suc (max (nesting left) (nesting p))) (placed_whole right)
call_levels by.Max left right is =
    ap (λ (p : Phrase). suc (max (nesting p) (nesting (placed Whole right)))) (placed_whole left)
    ∙ ap (λ (p : Phrase). suc (max (nesting left) (nesting p))) (placed_whole right)
call_levels by.Add left right is = absurd cc
call_levels by.Sub left right is = absurd cc
call_levels by.Mul left right is = absurd cc
call_levels by.Slash left right is = absurd cc
call_levels by.Div left right is = absurd cc
call_levels by.Mod left right is = absurd cc
call_levels by.Eq left right is = absurd cc
call_levels by.Ne left right is = absurd cc
call_levels by.Lt left right is = absurd cc
call_levels by.Le left right is = absurd cc
call_levels by.Gt left right is = absurd cc
call_levels by.Ge left right is = absurd cc
call_levels by.And left right is = absurd cc
call_levels by.Or left right is = absurd cc

pub call_within : (whole left right one two : Expr) (op : BinOp) (less limit : ℕ) → IsTrue (is_call op) → whole ≡ expr.Binary op left right
    → one ≡ left → two ≡ right → less + 1 ≡ limit
    → nat_le (levels one) less ≡ true → nat_le (levels two) less ≡ nat_le (levels whole) limit
call_within whole left right one two op less limit called is is_one is_two more first =
    let a = ap (λ (e : Expr). nat_le (levels e) less) (sym is_one) ∙ first in
    let node : levels whole ≡ suc (max (levels left) (levels right)) =
    ap levels is ∙ ap nesting (fold-Binary Phrase node_phrase op left right) ∙ call_levels op (canonical_phrase left) (canonical_phrase right) called in
    ap (λ (e : Expr). nat_le (levels e) less) is_two
    ∙ two_within (levels left) (levels right) less a
    ∙ sym (one_more (max (levels left) (levels right)) less limit more)
    ∙ ap (λ d. nat_le d limit) (sym node)

-- The operands of any other operation are no deeper.
infix_levels : (op : BinOp) (deepest : ℕ) → IsFalse (is_call op) → binary_nesting op deepest ≡ deepest
infix_levels by.Min deepest is = absurd cc
infix_levels by.Max deepest is = absurd cc
infix_levels by.Add deepest is = refl
infix_levels by.Sub deepest is = refl
infix_levels by.Mul deepest is = refl
infix_levels by.Slash deepest is = refl
infix_levels by.Div deepest is = refl
infix_levels by.Mod deepest is = refl
infix_levels by.Eq deepest is = refl
infix_levels by.Ne deepest is = refl
infix_levels by.Lt deepest is = refl
infix_levels by.Le deepest is = refl
infix_levels by.Gt deepest is = refl
infix_levels by.Ge deepest is = refl
infix_levels by.And deepest is = refl
infix_levels by.Or deepest is = refl

pub infix_within : (whole left right one two : Expr) (op : BinOp) (own at_left at_right : Level) (limit : ℕ) → IsFalse (is_call op)
    → whole ≡ expr.Binary op left right → one ≡ left → two ≡ right
    → own ≡ binary_level op → at_left ≡ left_level own → at_right ≡ right_level own
    → nat_le (nesting (placed at_left (canonical_phrase one))) limit ≡ true
    → nat_le (nesting (placed at_right (canonical_phrase two))) limit ≡ nat_le (levels whole) limit
infix_within whole left right one two op own at_left at_right limit called is is_one is_two is_own is_left is_right first =
    let on_left = placed (left_level (binary_level op)) (canonical_phrase left) in
    let on_right = placed (right_level (binary_level op)) (canonical_phrase right) in
    let a : nat_le (nesting on_left) limit ≡ true =
    ap (λ (l : Level). nat_le (nesting (placed l (canonical_phrase left))) limit) (sym (is_left ∙ ap left_level is_own))
    ∙ ap (λ (e : Expr). nat_le (nesting (placed at_left (canonical_phrase e))) limit) (sym is_one) ∙ first in
    let node : levels whole ≡ max (nesting on_left) (nesting on_right) =
    ap levels is ∙ ap nesting (fold-Binary Phrase node_phrase op left right) ∙ infix_levels op (max (nesting on_left) (nesting on_right)) called in
    ap (λ (e : Expr). nat_le (nesting (placed at_right (canonical_phrase e))) limit) is_two
    ∙ ap (λ (l : Level). nat_le (nesting (placed l (canonical_phrase right))) limit) (is_right ∙ ap right_level is_own)
    ∙ two_within (nesting on_left) (nesting on_right) limit a
    ∙ ap (λ d. nat_le d limit) (sym node)
