-- How deep blocks are nested, up to a limit.
use Rattle.std.proofs.Common.{◌≡◌, ℕ, suc, max, Bool, true, false, ◌&&◌, List, [], ◌∷◌, ◌+◌, map, Some, None, ap, ◌∙◌, arith, ◌≤◌}
use Rattle.std.specs.Prelude.{nat_le}
use Rattle.std.specs.List.{list_all, fold}
use Rattle.std.proofs.lemmas.Bool.Decides.{nat_tests}
use Rattle.unit_tree.specs.Printable.{deepest, block_depth, line_depth}
use Rattle.unit_tree.specs.declared.expr.Expr.{Expr}
use Rattle.unit_tree.specs.declared.line.Line as line
use Rattle.unit_tree.specs.declared.line.Line.{Line}
use Rattle.unit_tree.proofs.FoldLemmas.{fold-If, fold-Repeat}
use Rattle.unit_print.proofs.NestingLaws.{max_within, one_more}
use Rattle.list_laws.proofs.Truths.{and_true}

-- The greatest depth, from some depth on.
deepest_from : (from limit : ℕ) (lines : List Line)
    → nat_le (fold max from (map line_depth lines)) limit ≡ (nat_le from limit && list_all (λ line. nat_le (line_depth line) limit) lines)
deepest_from from limit [] = grind (arith, nat_tests)
deepest_from from limit (line ∷ lines) = deepest_from (max from (line_depth line)) limit lines ∙ grind (arith, nat_tests)

none_within : (limit : ℕ) → nat_le 0 limit ≡ true
none_within limit = grind (arith, nat_tests)

too_deep : (depth limit : ℕ) → limit ≤ 0 → nat_le (suc depth) limit ≡ false
too_deep depth limit none = grind (arith, nat_tests)

-- Blocks are nested at most this deep in each line.
abbrev pub are_within : ℕ → List Line → Bool
are_within limit lines = list_all (λ line. nat_le (line_depth line) limit) lines

pub deepest_within : (limit : ℕ) (lines : List Line) → nat_le (deepest (map line_depth lines)) limit ≡ list_all (λ line. nat_le
    (line_depth line) limit) lines
deepest_within limit lines = deepest_from 0 limit lines ∙ ap (λ told. told && list_all (λ line. nat_le (line_depth line) limit) lines) (none_within limit)

-- A line with a block, where the limit is one more than that of the block.
pub if_within : (whole : Line) (cond : Expr) (chosen : List Line) (less limit : ℕ) → whole ≡ line.If cond chosen None → less + 1 ≡ limit
    → nat_le (line_depth whole) limit ≡ list_all (λ line. nat_le (line_depth line) less) chosen
if_within whole cond chosen less limit is more =
    let depth = deepest (map line_depth chosen) in
    ap (λ one. nat_le (line_depth one) limit) is
    ∙ ap (λ depth. nat_le depth limit) (fold-If ℕ block_depth cond chosen None)
    ∙ one_more (max depth 0) less limit more
    ∙ max_within depth 0 less
    ∙ ap (λ told. nat_le depth less && told) (none_within less)
    ∙ and_true (nat_le depth less)
    ∙ deepest_within less chosen

pub if_else_within : (whole : Line) (cond : Expr) (chosen otherwise : List Line) (less limit : ℕ) → whole ≡ line.If cond chosen (Some otherwise)
    → less + 1 ≡ limit
    → nat_le (line_depth whole) limit ≡ (list_all (λ line. nat_le (line_depth line) less) chosen && list_all (λ line. nat_le
    (line_depth line) less) otherwise)
if_else_within whole cond chosen otherwise less limit is more =
    let depth = deepest (map line_depth chosen) in
    let other = deepest (map line_depth otherwise) in
    ap (λ one. nat_le (line_depth one) limit) is
    ∙ ap (λ depth. nat_le depth limit) (fold-If ℕ block_depth cond chosen (Some otherwise))
    ∙ one_more (max depth other) less limit more
    ∙ max_within depth other less
    ∙ ap (λ told. told && nat_le other less) (deepest_within less chosen)
    ∙ ap (λ told. list_all (λ line. nat_le (line_depth line) less) chosen && told) (deepest_within less otherwise)

pub repeat_within : (whole : Line) (count : ℕ) (body : List Line) (less limit : ℕ) → whole ≡ line.Repeat count body → less + 1 ≡ limit
    → nat_le (line_depth whole) limit ≡ list_all (λ line. nat_le (line_depth line) less) body
repeat_within whole count body less limit is more =
    ap (λ one. nat_le (line_depth one) limit) is
    ∙ ap (λ depth. nat_le depth limit) (fold-Repeat ℕ block_depth count body)
    ∙ one_more (deepest (map line_depth body)) less limit more
    ∙ deepest_within less body

-- A line with a block is within no limit of 0.
pub if_is_deep : (whole : Line) (cond : Expr) (chosen otherwise : List Line) (limit : ℕ) → whole ≡ line.If cond chosen (Some otherwise)
    → limit ≤ 0 → nat_le (line_depth whole) limit ≡ false
if_is_deep whole cond chosen otherwise limit is none =
    ap (λ one. nat_le (line_depth one) limit) is ∙ ap (λ depth. nat_le depth limit) (fold-If ℕ block_depth cond chosen (Some otherwise))
    ∙ too_deep (max (deepest (map line_depth chosen)) (deepest (map line_depth otherwise))) limit none
