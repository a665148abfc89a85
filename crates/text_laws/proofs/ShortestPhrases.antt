-- The canonical phrase of a tree takes no more bytes than any phrase that has this tree.
use Rattle.std.proofs.Common.{◌≡◌, ℕ, ◌≤◌, Bool, true, false, cond, ◌&&◌, List, [], ◌∷◌, ◌++◌, refl, ap, subst, ◌∙◌, arith, pos}
use Rattle.std.proofs.lemmas.Bool.{and_parts}
use Rattle.std.proofs.lemmas.List.{append_assoc}
use Rattle.text_laws.proofs.TokenWidths.{is_worded, width, width_bound}
use Rattle.unit_tree.specs.Canonical.{placed, node_phrase, canonical_phrase, expression_tokens}
use Rattle.unit_tree.specs.Phrases as phrase
use Rattle.unit_tree.specs.Phrases.{Phrase, Level, Whole, Or, And, Not, Primary, level_of, operand_level, left_level}
use Rattle.unit_tree.specs.Phrases.{right_level, unary_level, binary_level, allows, stands, tree_of, Writes, keyword, symbol, whole, in_parens}
use Rattle.unit_tree.specs.Phrases.{unary_tokens, operation, call_of_two, binary_tokens, phrase_tokens}
use Rattle.unit_tree.specs.declared.expr.BinOp.{BinOp}
use Rattle.unit_tree.specs.declared.expr.BinOp.TheVariants as by
use Rattle.unit_tree.specs.declared.expr.Expr.{Expr}
use Rattle.unit_tree.specs.declared.expr.UnOp.{UnOp}
use Rattle.unit_tree.specs.declared.expr.UnOp.TheVariants as of
use Rattle.unit_tree.specs.declared.token.Keyword.TheVariants as word
use Rattle.unit_tree.specs.declared.token.Symbol.TheVariants as sign
use Rattle.unit_tree.specs.declared.token.Token.{Token}
use Rattle.unit_tree.proofs.FoldLemmas.{fold-Number, fold-Truth, fold-Var, fold-Time, fold-Step, fold-Unary, fold-Binary, fold-Clamp, fold-Choose, fold-Absent}
use Rattle.unit_tree.proofs.FoldLemmas.{fold-Present}
use Rattle.language_laws.proofs.PhraseLaws.{primary_stands, all_in_whole}

-- ---- Tokens that take no more bytes than others

-- The canonical tokens take no more bytes than the written ones, whatever comes before and after them.
pub record TakeNoMore (canonical written : List Token) : Type 0 where
  pub within : (behind : Bool) (rest : List Token) → width behind (canonical ++ rest) ≤ width behind (written ++ rest)

-- The same tokens take the same number of bytes.
pub as_much : (canonical written : List Token) → canonical ≡ written → TakeNoMore canonical written
as_much canonical written same = rw same (record { within = λ behind rest. omega arith })

-- Two such comparisons, one after the other.
through : {canonical middle written : List Token} → TakeNoMore canonical middle → TakeNoMore middle written → TakeNoMore canonical written
through first second = record { within = λ behind rest. omega (arith, first.within behind rest, second.within behind rest) }

-- One token before both.
take_behind : (first : Token) {canonical written : List Token} → TakeNoMore canonical written → TakeNoMore (first ∷ canonical) (first ∷ written)
take_behind first less = record { within = λ behind rest. omega (arith, less.within (is_worded first) rest) }

-- The same tokens before both.
pub take_after : (front : List Token) {canonical written : List Token} → TakeNoMore canonical written → TakeNoMore (front ++ canonical) (front ++ written)
take_after [] less = less
take_after (first ∷ front) less = take_behind first (take_after front less)

-- The same tokens after both.
take_before : (back canonical written : List Token) → TakeNoMore canonical written → TakeNoMore (canonical ++ back) (written ++ back)
take_before back canonical written less =
    record { within = λ behind rest. rw (append_assoc canonical back rest, append_assoc written back rest) (less.within behind (back ++ rest)) }

-- Two parts in a row.
take_both : {left left_written right right_written : List Token} → TakeNoMore left left_written → TakeNoMore right right_written
    → TakeNoMore (left ++ right) (left_written ++ right_written)
take_both {left} {left_written} {right} {right_written} on_left on_right =
    through (take_before right left left_written on_left) (take_after left_written on_right)

-- Two parts with a token between them.
take_between : (middle : Token) {left left_written right right_written : List Token} → TakeNoMore left left_written → TakeNoMore right right_written
    → TakeNoMore (left ++ (middle ∷ right)) (left_written ++ (middle ∷ right_written))
take_between middle on_left on_right = take_both on_left (take_behind middle on_right)

-- Both in parentheses.
take_inside : {canonical written : List Token} → TakeNoMore canonical written → TakeNoMore (in_parens canonical) (in_parens written)
take_inside {canonical} {written} less = take_behind (symbol sign.Open) (take_before (symbol sign.Close ∷ []) canonical written less)

-- The closing parenthesis takes one byte, and saves at most one space.
close_takes : (behind : Bool) (tokens rest : List Token) → width behind (tokens ++ rest) ≤ width behind (tokens ++ (symbol sign.Close ∷ rest))
close_takes true [] rest = omega (arith, width_bound true false rest)
close_takes false [] rest = omega arith
close_takes behind (first ∷ tokens) rest = omega (arith, close_takes (is_worded first) tokens rest)

-- To leave out parentheses saves two bytes, and requires at most two spaces.
without_parens : (tokens : List Token) → TakeNoMore tokens (in_parens tokens)
without_parens tokens =
    record {
      within =
          λ behind rest.
          rw (append_assoc tokens (symbol sign.Close ∷ []) rest) (omega (arith, width_bound behind false (tokens ++ rest), close_takes false tokens rest));
    }

-- ---- Operations

-- An operation on one operand.
take_unary : (op : UnOp) {arg arg_written : List Token} → TakeNoMore arg arg_written → TakeNoMore (unary_tokens op arg) (unary_tokens op arg_written)
take_unary of.Neg less = take_behind (symbol sign.Minus) less
take_unary of.Not less = take_behind (keyword word.Not) less
take_unary of.Abs less = take_behind (keyword word.Abs) (take_inside less)
take_unary of.ToInt less = take_behind (keyword word.Int) (take_inside less)
take_unary (of.ToFix decimals) less = take_after (keyword word.Fix ∷ whole decimals ∷ []) (take_inside less)

-- A call of two operands.
take_call : (called : Token) {left left_written right right_written : List Token} → TakeNoMore left left_written → TakeNoMore right right_written
    → TakeNoMore (call_of_two called left right) (call_of_two called left_written right_written)
take_call called on_left on_right = take_behind called (take_inside (take_between (symbol sign.Comma) on_left on_right))

-- An operation on two operands.
take_binary : (op : BinOp) {left left_written right right_written : List Token} → TakeNoMore left left_written → TakeNoMore right right_written
    → TakeNoMore (binary_tokens op left right) (binary_tokens op left_written right_written)
take_binary by.Min on_left on_right = take_call (operation by.Min) on_left on_right
take_binary by.Max on_left on_right = take_call (operation by.Max) on_left on_right
take_binary by.Add on_left on_right = take_between (operation by.Add) on_left on_right
take_binary by.Sub on_left on_right = take_between (operation by.Sub) on_left on_right
take_binary by.Mul on_left on_right = take_between (operation by.Mul) on_left on_right
take_binary by.Slash on_left on_right = take_between (operation by.Slash) on_left on_right
take_binary by.Div on_left on_right = take_between (operation by.Div) on_left on_right
take_binary by.Mod on_left on_right = take_between (operation by.Mod) on_left on_right
take_binary by.Eq on_left on_right = take_between (operation by.Eq) on_left on_right
take_binary by.Ne on_left on_right = take_between (operation by.Ne) on_left on_right
take_binary by.Lt on_left on_right = take_between (operation by.Lt) on_left on_right
take_binary by.Le on_left on_right = take_between (operation by.Le) on_left on_right
take_binary by.Gt on_left on_right = take_between (operation by.Gt) on_left on_right
take_binary by.Ge on_left on_right = take_between (operation by.Ge) on_left on_right
take_binary by.And on_left on_right = take_between (operation by.And) on_left on_right
take_binary by.Or on_left on_right = take_between (operation by.Or) on_left on_right

-- Three parts with a token between any two.
take_three : (first second : Token) {one one_written two two_written three three_written : List Token} → TakeNoMore one one_written
    → TakeNoMore two two_written → TakeNoMore three three_written
    → TakeNoMore (one ++ (first ∷ two ++ (second ∷ three))) (one_written ++ (first ∷ two_written ++ (second ∷ three_written)))
take_three first second on_one on_two on_three = take_between first on_one (take_between second on_two on_three)

-- ---- Phrases in their places

-- A phrase takes no more bytes than another one.
abbrev IsNoLonger : Phrase → Phrase → Type 0
IsNoLonger canonical written = TakeNoMore (phrase_tokens canonical) (phrase_tokens written)

-- A phrase is placed unchanged where its level is allowed.
placed_bare : (asked : Level) (canonical written : Phrase) → allows asked (level_of canonical) ≡ true → IsNoLonger canonical written
    → IsNoLonger (placed asked canonical) written
placed_bare asked canonical written allowed less = rw allowed less

-- The weakest level allows every phrase unchanged.
pub placed_whole : (canonical : Phrase) → placed Whole canonical ≡ canonical
placed_whole canonical = ap (λ allowed. cond allowed canonical (phrase.Parens canonical)) (all_in_whole (level_of canonical))

-- A phrase in parentheses has at most these again.
placed_parens : (allowed : Bool) (canonical inner : Phrase) → IsNoLonger canonical inner
    → IsNoLonger (cond allowed canonical (phrase.Parens canonical)) (phrase.Parens inner)
placed_parens true canonical inner less = through less (without_parens (phrase_tokens inner))
placed_parens false canonical inner less = take_inside less

-- ---- Phrases

-- The canonical phrase of the tree of a phrase.
abbrev pub again : Phrase → Phrase
again written = canonical_phrase (tree_of written)

-- In every place where a phrase is allowed, the canonical phrase of its tree takes no more bytes.
abbrev Claim : Phrase → Type 0
Claim written = (asked : Level) → stands asked written ≡ true → IsNoLonger (placed asked (again written)) written

-- A phrase with no parts is its own canonical one.
leaf : (written : Phrase) → again written ≡ written → level_of written ≡ Primary → Claim written
leaf written is primary asked so =
    rw is (placed_bare asked written written (ap (allows asked) primary ∙ primary_stands asked) (as_much (phrase_tokens written) (phrase_tokens written) refl))

-- A part that is a whole expression.
on_whole : (written : Phrase) → Claim written → stands Whole written ≡ true → IsNoLonger (again written) written
on_whole written given so = subst (λ canonical. IsNoLonger canonical written) (placed_whole (again written)) (given Whole so)

-- A number keeps its digits.
on_number : (digits decimals : ℕ) → Claim (phrase.Number digits decimals)
on_number digits decimals =
    leaf (phrase.Number digits decimals) (fold-Number Phrase node_phrase (pos digits) decimals ∙ ap (λ n. phrase.Number n decimals) (omega arith)) refl

-- Parentheses that are written are needed again only where the place requires them.
on_parens : (inner : Phrase) → Claim inner → Claim (phrase.Parens inner)
on_parens inner given asked so = placed_parens (allows asked (level_of (again inner))) (again inner) inner (on_whole inner given so)

-- What is written is in its place without parentheses, and so is the canonical operation.
on_unary : (op : UnOp) (arg : Phrase) → Claim arg → Claim (phrase.Unary op arg)
on_unary op arg given asked so =
    let level = operand_level (unary_level op) in
    let parts = and_parts (allows asked (unary_level op)) (stands level arg) so in
    rw (fold-Unary Phrase node_phrase op (tree_of arg))
    (placed_bare asked (phrase.Unary op (placed level (again arg))) (phrase.Unary op arg) parts.0 (take_unary op (given level parts.1)))

-- The same with two operands.
on_binary : (op : BinOp) (left right : Phrase) → Claim left → Claim right → Claim (phrase.Binary op left right)
on_binary op left right on_left on_right asked so =
    let left_asked = left_level (binary_level op) in
    let right_asked = right_level (binary_level op) in
    let parts = and_parts (allows asked (binary_level op)) (stands left_asked left && stands right_asked right) so in
    let sides = and_parts (stands left_asked left) (stands right_asked right) parts.1 in
    rw (fold-Binary Phrase node_phrase op (tree_of left) (tree_of right))
    (placed_bare asked (phrase.Binary op (placed left_asked (again left)) (placed right_asked (again right))) (phrase.Binary op left right) parts.0
    (take_binary op (on_left left_asked sides.0) (on_right right_asked sides.1)))

-- A call of three parts, each a whole expression.
on_clamp : (value low high : Phrase) → Claim value → Claim low → Claim high → Claim (phrase.Clamp value low high)
on_clamp value low high on_value on_low on_high asked so =
    let parts = and_parts (stands Whole value) (stands Whole low && stands Whole high) so in
    let limits = and_parts (stands Whole low) (stands Whole high) parts.1 in
    let inside =
    take_three (symbol sign.Comma) (symbol sign.Comma) (on_whole value on_value parts.0) (on_whole low on_low limits.0) (on_whole high on_high limits.1) in
    rw (fold-Clamp Phrase node_phrase (tree_of value) (tree_of low) (tree_of high))
    (placed_bare asked (phrase.Clamp (again value) (again low) (again high)) (phrase.Clamp value low high) (primary_stands asked)
    (take_behind (keyword word.Clamp) (take_inside inside)))

-- An `if`, whose parts are whole expressions.
on_choose : (condition then_part else_part : Phrase) → Claim condition → Claim then_part → Claim else_part → Claim (phrase.Choose condition then_part else_part)
on_choose condition then_part else_part on_condition on_then on_else asked so =
    let parts = and_parts (allows asked Whole) (stands Whole condition && (stands Whole then_part && stands Whole else_part)) so in
    let three = and_parts (stands Whole condition) (stands Whole then_part && stands Whole else_part) parts.1 in
    let branches = and_parts (stands Whole then_part) (stands Whole else_part) three.1 in
    let inside =
    take_three (keyword word.Then) (keyword word.Else) (on_whole condition on_condition three.0) (on_whole then_part on_then branches.0)
    (on_whole else_part on_else branches.1) in
    rw (fold-Choose Phrase node_phrase (tree_of condition) (tree_of then_part) (tree_of else_part))
    (placed_bare asked (phrase.Choose (again condition) (again then_part) (again else_part)) (phrase.Choose condition then_part else_part) parts.0
    (take_behind (keyword word.If) inside))

-- Each phrase, by its parts.
canonical_takes_no_more : (written : Phrase) → Claim written
canonical_takes_no_more (phrase.Number digits decimals) = on_number digits decimals
canonical_takes_no_more (phrase.Truth told) = leaf (phrase.Truth told) (fold-Truth Phrase node_phrase told) refl
canonical_takes_no_more (phrase.Var name) = leaf (phrase.Var name) (fold-Var Phrase node_phrase name) refl
canonical_takes_no_more phrase.Time = leaf phrase.Time (fold-Time Phrase node_phrase) refl
canonical_takes_no_more phrase.Step = leaf phrase.Step (fold-Step Phrase node_phrase) refl
canonical_takes_no_more (phrase.Parens inner) = on_parens inner (canonical_takes_no_more inner)
canonical_takes_no_more (phrase.Unary op arg) = on_unary op arg (canonical_takes_no_more arg)
canonical_takes_no_more (phrase.Binary op left right) = on_binary op left right (canonical_takes_no_more left) (canonical_takes_no_more right)
canonical_takes_no_more (phrase.Clamp value low high) =
    on_clamp value low high (canonical_takes_no_more value) (canonical_takes_no_more low) (canonical_takes_no_more high)
canonical_takes_no_more (phrase.Choose condition then_part else_part) =
    on_choose condition then_part else_part (canonical_takes_no_more condition) (canonical_takes_no_more then_part) (canonical_takes_no_more else_part)
canonical_takes_no_more phrase.Absent = leaf phrase.Absent (fold-Absent Phrase node_phrase) refl
canonical_takes_no_more (phrase.Present name) = leaf (phrase.Present name) (fold-Present Phrase node_phrase name) refl

-- The canonical expression takes no more bytes than any that writes its tree.
pub expression_takes_no_more : (value : Expr) (tokens : List Token) → Writes value tokens → TakeNoMore (expression_tokens value) tokens
expression_takes_no_more value tokens written =
    let whole_stands = (and_parts (stands Whole written.phrase) _ written.is_grammatical).0 in
    subst (λ tree. TakeNoMore (expression_tokens tree) tokens) written.is_tree
    (subst (TakeNoMore (expression_tokens (tree_of written.phrase))) written.spelled
    (on_whole written.phrase (canonical_takes_no_more written.phrase) whole_stands))
