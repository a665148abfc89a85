-- The canonical phrase of a phrase is nested no deeper, and has the same numbers.
use Rattle.std.proofs.Common.{◌≡◌, ℕ, suc, ◌≤◌, ◌^◌, Bool, true, false, not, cond, ◌&&◌, pos, nat_lt, nat_le, max, List, IsTrue, refl, ap, sym, subst, ◌∙◌}
use Rattle.std.proofs.Common.{arith}
use Rattle.std.specs.Int.{is_negative}
use Rattle.std.proofs.lemmas.Bool.{and_parts, and_from}
use Rattle.std.proofs.lemmas.Bool.Decides.{nat_tests}
use Rattle.fixed_words.specs.Types.{is_word_of}
use Rattle.fixed_words.specs.declared.types.Ty.TheVariants.{Int64}
use Rattle.unit_tree.specs.Canonical.{placed, node_phrase, canonical_phrase}
use Rattle.unit_tree.specs.LineForms.{OfExpression}
use Rattle.unit_tree.specs.Phrases as phrase
use Rattle.unit_tree.specs.Phrases.{Phrase, Level, Whole, Primary, level_of, operand_level, left_level, right_level, unary_level, binary_level, allows, stands}
use Rattle.unit_tree.specs.Phrases.{tree_of, binary_nesting, nesting, numbers_fit, Writes}
use Rattle.unit_tree.specs.Printable.{node_is_unsigned, is_unsigned, is_writable}
use Rattle.unit_tree.specs.Values.{unary_is_ranged, node_is_ranged, is_ranged}
use Rattle.unit_tree.specs.declared.expr.BinOp.{BinOp}
use Rattle.unit_tree.specs.declared.expr.BinOp.TheVariants as by
use Rattle.unit_tree.specs.declared.expr.Expr.{Expr}
use Rattle.unit_tree.specs.declared.expr.UnOp.{UnOp}
use Rattle.unit_tree.specs.declared.token.Token.{Token}
use Rattle.unit_tree.proofs.FoldLemmas.{fold-Number, fold-Truth, fold-Var, fold-Time, fold-Step, fold-Unary, fold-Binary, fold-Clamp, fold-Choose, fold-Absent}
use Rattle.unit_tree.proofs.FoldLemmas.{fold-Present}
use Rattle.language_laws.proofs.PhraseLaws.{right, primary_stands}
use Rattle.text_laws.proofs.ShortestPhrases.{placed_whole, again}
use Rattle.list_laws.proofs.Truths.{crossed}

-- ---- Nesting

-- In every place where a phrase is allowed, the canonical phrase of its tree is nested no deeper.
abbrev Claim : Phrase → Type 0
Claim written = (asked : Level) → stands asked written ≡ true → nesting (placed asked (again written)) ≤ nesting written

-- A phrase is placed unchanged where its level is allowed.
placed_bare : (asked : Level) (canonical : Phrase) (deep : ℕ) → allows asked (level_of canonical) ≡ true → nesting canonical ≤ deep
    → nesting (placed asked canonical) ≤ deep
placed_bare asked canonical deep allowed within = rw allowed within

-- A phrase with no parts is its own canonical one.
leaf : (written : Phrase) → again written ≡ written → level_of written ≡ Primary → Claim written
leaf written is primary asked so = rw is (placed_bare asked written (nesting written) (ap (allows asked) primary ∙ primary_stands asked) (omega arith))

-- A part that is a whole expression.
on_whole : (written : Phrase) → Claim written → stands Whole written ≡ true → nesting (again written) ≤ nesting written
on_whole written given so = subst (λ canonical. nesting canonical ≤ nesting written) (placed_whole (again written)) (given Whole so)

-- A phrase in parentheses has at most these again.
placed_parens : (allowed : Bool) (canonical : Phrase) (deep : ℕ) → nesting canonical ≤ deep
    → nesting (cond allowed canonical (phrase.Parens canonical)) ≤ suc deep
placed_parens true canonical deep within = omega (arith, within)
placed_parens false canonical deep within = omega (arith, within)

-- The greater of two depths.
deeper_within : (one other written written_too : ℕ) → one ≤ written → other ≤ written_too → max one other ≤ max written written_too
deeper_within one other written written_too within within_too = omega (arith, within, within_too)

-- An operation with a deeper operand is nested no less deep.
binary_within : (op : BinOp) (canonical written : ℕ) → canonical ≤ written → binary_nesting op canonical ≤ binary_nesting op written
binary_within by.Min canonical written within = omega (arith, within)
binary_within by.Max canonical written within = omega (arith, within)
binary_within _ canonical written within = within

-- The canonical operand is nested no deeper in its place, and so is the operation.
on_unary : (op : UnOp) (arg : Phrase) → Claim arg → Claim (phrase.Unary op arg)
on_unary op arg given asked so =
    let level = operand_level (unary_level op) in
    let parts = and_parts (allows asked (unary_level op)) (stands level arg) so in
    let within = given level parts.1 in
    rw (fold-Unary Phrase node_phrase op (tree_of arg))
    (placed_bare asked (phrase.Unary op (placed level (again arg))) (suc (nesting arg)) parts.0 (omega (arith, within)))

-- The same with two operands.
on_binary : (op : BinOp) (left right : Phrase) → Claim left → Claim right → Claim (phrase.Binary op left right)
on_binary op left right on_left on_right asked so =
    let left_asked = left_level (binary_level op) in
    let right_asked = right_level (binary_level op) in
    let parts = and_parts (allows asked (binary_level op)) (stands left_asked left && stands right_asked right) so in
    let sides = and_parts (stands left_asked left) (stands right_asked right) parts.1 in
    let on_both =
    deeper_within (nesting (placed left_asked (again left))) (nesting (placed right_asked (again right))) (nesting left) (nesting right)
    (on_left left_asked sides.0) (on_right right_asked sides.1) in
    rw (fold-Binary Phrase node_phrase op (tree_of left) (tree_of right))
    (placed_bare asked (phrase.Binary op (placed left_asked (again left)) (placed right_asked (again right))) (nesting (phrase.Binary op left right)) parts.0
    (binary_within op (max (nesting (placed left_asked (again left))) (nesting (placed right_asked (again right))))
    (max (nesting left) (nesting right)) on_both))

-- The deepest of three parts that are whole expressions.
three_within : (one two three : Phrase) → Claim one → Claim two → Claim three → (stands Whole one && (stands Whole two && stands Whole three)) ≡ true
    → max (nesting (again one)) (max (nesting (again two)) (nesting (again three))) ≤ max (nesting one) (max (nesting two) (nesting three))
three_within one two three on_one on_two on_three so =
    let parts = and_parts (stands Whole one) (stands Whole two && stands Whole three) so in
    let others = and_parts (stands Whole two) (stands Whole three) parts.1 in
    deeper_within (nesting (again one)) (max (nesting (again two)) (nesting (again three))) (nesting one) (max (nesting two) (nesting three))
    (on_whole one on_one parts.0)
    (deeper_within (nesting (again two)) (nesting (again three)) (nesting two) (nesting three) (on_whole two on_two others.0)
    (on_whole three on_three others.1))

-- A call of three parts, each a whole expression.
on_clamp : (value low high : Phrase) → Claim value → Claim low → Claim high → Claim (phrase.Clamp value low high)
on_clamp value low high on_value on_low on_high asked so =
    let within = three_within value low high on_value on_low on_high so in
    rw (fold-Clamp Phrase node_phrase (tree_of value) (tree_of low) (tree_of high))
    (placed_bare asked (phrase.Clamp (again value) (again low) (again high)) (nesting (phrase.Clamp value low high)) (primary_stands asked)
    (omega (arith, within)))

-- An `if`, whose parts are whole expressions.
on_choose : (condition then_part else_part : Phrase) → Claim condition → Claim then_part → Claim else_part → Claim (phrase.Choose condition then_part else_part)
on_choose condition then_part else_part on_condition on_then on_else asked so =
    let parts = and_parts (allows asked Whole) (stands Whole condition && (stands Whole then_part && stands Whole else_part)) so in
    let within = three_within condition then_part else_part on_condition on_then on_else parts.1 in
    rw (fold-Choose Phrase node_phrase (tree_of condition) (tree_of then_part) (tree_of else_part))
    (placed_bare asked (phrase.Choose (again condition) (again then_part) (again else_part)) (nesting (phrase.Choose condition then_part else_part)) parts.0
    (omega (arith, within)))

-- A number keeps its digits.
number_again : (digits decimals : ℕ) → again (phrase.Number digits decimals) ≡ phrase.Number digits decimals
number_again digits decimals = fold-Number Phrase node_phrase (pos digits) decimals ∙ ap (λ n. phrase.Number n decimals) (omega arith)

-- Each phrase, by its parts.
nests_less : (written : Phrase) → Claim written
nests_less (phrase.Number digits decimals) = leaf (phrase.Number digits decimals) (number_again digits decimals) refl
nests_less (phrase.Truth told) = leaf (phrase.Truth told) (fold-Truth Phrase node_phrase told) refl
nests_less (phrase.Var name) = leaf (phrase.Var name) (fold-Var Phrase node_phrase name) refl
nests_less phrase.Time = leaf phrase.Time (fold-Time Phrase node_phrase) refl
nests_less phrase.Step = leaf phrase.Step (fold-Step Phrase node_phrase) refl
nests_less (phrase.Parens inner) =
    λ asked so. placed_parens (allows asked (level_of (again inner))) (again inner) (nesting inner) (on_whole inner (nests_less inner) so)
nests_less (phrase.Unary op arg) = on_unary op arg (nests_less arg)
nests_less (phrase.Binary op left right) = on_binary op left right (nests_less left) (nests_less right)
nests_less (phrase.Clamp value low high) = on_clamp value low high (nests_less value) (nests_less low) (nests_less high)
nests_less (phrase.Choose condition then_part else_part) =
    on_choose condition then_part else_part (nests_less condition) (nests_less then_part) (nests_less else_part)
nests_less phrase.Absent = leaf phrase.Absent (fold-Absent Phrase node_phrase) refl
nests_less (phrase.Present name) = leaf (phrase.Present name) (fold-Present Phrase node_phrase name) refl

-- The canonical phrase in a place is nested there no deeper than the phrase that is written.
pub canonical_nests_less : (asked : Level) (written : Phrase) → IsTrue (stands asked written)
    → nesting (placed asked (canonical_phrase (tree_of written))) ≤ nesting written
canonical_nests_less asked written so = nests_less written asked so

-- ---- Numbers

-- The numbers of a phrase are words that its tree has without a sign, with at most nine decimals.
abbrev NumbersAre : Phrase → Type 0
NumbersAre written = numbers_fit written ≡ (is_unsigned (tree_of written) && is_ranged (tree_of written))

-- The tests of two parts, and of three.
two_are : (one other : Bool) (first second first_too second_too : Bool) → one ≡ (first && first_too) → other ≡ (second && second_too)
    → (one && other) ≡ ((first && second) && (first_too && second_too))
two_are one other first second first_too second_too is is_too = rw (is, is_too) (crossed first first_too second second_too)

-- With the tests of the parts instead of those of the whole.
told_by : (fits unsigned ranged unsigned_parts ranged_parts : Bool) → unsigned ≡ unsigned_parts → ranged ≡ ranged_parts
    → fits ≡ (unsigned_parts && ranged_parts) → fits ≡ (unsigned && ranged)
told_by fits unsigned ranged unsigned_parts ranged_parts is is_too same = rw (is, is_too) same

-- A number from 0 up is a word below 2^63.
word_is : (digits : ℕ) → nat_lt digits (2 ^ 63) ≡ (not (is_negative (pos digits)) && is_word_of Int64 (pos digits))
word_is digits = grind (arith, nat_tests)

-- Three tests in another order.
swapped_unary : (ranged unsigned inner : Bool) → (ranged && (unsigned && inner)) ≡ (unsigned && (ranged && inner))
swapped_unary true unsigned inner = refl
swapped_unary false true inner = refl
swapped_unary false false inner = refl

-- Each phrase, by its parts.
pub numbers_are : (written : Phrase) → NumbersAre written
numbers_are (phrase.Number digits decimals) =
    told_by (numbers_fit (phrase.Number digits decimals)) _ _ (not (is_negative (pos digits)) && is_word_of Int64 (pos digits)) (nat_le decimals 9)
    (fold-Number Bool node_is_unsigned (pos digits) decimals) (fold-Number Bool node_is_ranged (pos digits) decimals)
    (ap (λ told. told && nat_le decimals 9) (word_is digits))
numbers_are (phrase.Truth told) = told_by true _ _ true true (fold-Truth Bool node_is_unsigned told) (fold-Truth Bool node_is_ranged told) refl
numbers_are (phrase.Var name) = told_by true _ _ true true (fold-Var Bool node_is_unsigned name) (fold-Var Bool node_is_ranged name) refl
numbers_are phrase.Time = told_by true _ _ true true (fold-Time Bool node_is_unsigned) (fold-Time Bool node_is_ranged) refl
numbers_are phrase.Step = told_by true _ _ true true (fold-Step Bool node_is_unsigned) (fold-Step Bool node_is_ranged) refl
numbers_are (phrase.Parens inner) = numbers_are inner
numbers_are (phrase.Unary op arg) =
    let tree = tree_of arg in
    told_by (numbers_fit (phrase.Unary op arg)) _ _ (is_unsigned tree) (unary_is_ranged op && is_ranged tree) (fold-Unary Bool node_is_unsigned op tree)
    (fold-Unary Bool node_is_ranged op tree)
    (ap (λ told. unary_is_ranged op && told) (numbers_are arg) ∙ swapped_unary (unary_is_ranged op) (is_unsigned tree) (is_ranged tree))
numbers_are (phrase.Binary op left right) =
    let l = tree_of left in
    let r = tree_of right in
    told_by (numbers_fit (phrase.Binary op left right)) _ _ (is_unsigned l && is_unsigned r) (is_ranged l && is_ranged r)
    (fold-Binary Bool node_is_unsigned op l r) (fold-Binary Bool node_is_ranged op l r)
    (two_are (numbers_fit left) (numbers_fit right) (is_unsigned l) (is_unsigned r) (is_ranged l) (is_ranged r) (numbers_are left) (numbers_are right))
numbers_are (phrase.Clamp value low high) =
    let v = tree_of value in
    let l = tree_of low in
    let h = tree_of high in
    told_by (numbers_fit (phrase.Clamp value low high)) _ _ (is_unsigned v && (is_unsigned l && is_unsigned h)) (is_ranged v && (is_ranged l && is_ranged h))
    (fold-Clamp Bool node_is_unsigned v l h) (fold-Clamp Bool node_is_ranged v l h)
    (two_are (numbers_fit value) (numbers_fit low && numbers_fit high) (is_unsigned v) (is_unsigned l && is_unsigned h) (is_ranged v)
    (is_ranged l && is_ranged h) (numbers_are value)
    (two_are (numbers_fit low) (numbers_fit high) (is_unsigned l) (is_unsigned h) (is_ranged l) (is_ranged h) (numbers_are low) (numbers_are high)))
numbers_are (phrase.Choose condition then_part else_part) =
    let c = tree_of condition in
    let t = tree_of then_part in
    let e = tree_of else_part in
    told_by (numbers_fit (phrase.Choose condition then_part else_part)) _ _ (is_unsigned c && (is_unsigned t && is_unsigned e))
    (is_ranged c && (is_ranged t && is_ranged e)) (fold-Choose Bool node_is_unsigned c t e) (fold-Choose Bool node_is_ranged c t e)
    (two_are (numbers_fit condition) (numbers_fit then_part && numbers_fit else_part) (is_unsigned c) (is_unsigned t && is_unsigned e) (is_ranged c)
    (is_ranged t && is_ranged e) (numbers_are condition)
    (two_are (numbers_fit then_part) (numbers_fit else_part) (is_unsigned t) (is_unsigned e) (is_ranged t) (is_ranged e) (numbers_are then_part)
    (numbers_are else_part)))
numbers_are phrase.Absent = told_by true _ _ true true (fold-Absent Bool node_is_unsigned) (fold-Absent Bool node_is_ranged) refl
numbers_are (phrase.Present name) = told_by true _ _ true true (fold-Present Bool node_is_unsigned name) (fold-Present Bool node_is_ranged name) refl

-- The numbers of a canonical phrase fit where those of its tree do.
pub canonical_numbers_fit : (value : Expr) → is_unsigned value ≡ true → is_ranged value ≡ true → numbers_fit (canonical_phrase value) ≡ true
canonical_numbers_fit value unsigned ranged =
    numbers_are (canonical_phrase value)
    ∙ ap (λ tree. is_unsigned tree && is_ranged tree) ((right value unsigned).is_tree)
    ∙ and_from (is_unsigned value) (is_ranged value) unsigned ranged

-- ---- Expressions

-- What is known of an expression that tokens write: it has a canonical phrase, and its numbers have at most
-- nine decimals.
pub record IsWritten (value : Expr) : Type 0 where
  pub writable : is_writable (OfExpression value) ≡ true
  pub ranged : is_ranged value ≡ true

-- The tree of a phrase that the grammar has.
tree_is_written : (written : Phrase) → phrase.is_expression written ≡ true → IsWritten (tree_of written)
tree_is_written written is =
    let whole = and_parts (stands Whole written) (nat_le (nesting written) 64 && numbers_fit written) is in
    let inside = and_parts (nat_le (nesting written) 64) (numbers_fit written) whole.1 in
    let numbers = and_parts (is_unsigned (tree_of written)) (is_ranged (tree_of written)) (sym (numbers_are written) ∙ inside.1) in
    let within = on_whole written (nests_less written) whole.0 in
    record {
      writable = and_from (is_unsigned (tree_of written)) (nat_le (nesting (again written)) 64) numbers.0 (grind (arith, nat_tests));
      ranged = numbers.1;
    }

-- An expression that tokens write has a canonical phrase.
pub expression_is_written : (value : Expr) (tokens : List Token) → Writes value tokens → IsWritten value
expression_is_written value tokens writes = subst IsWritten writes.is_tree (tree_is_written writes.phrase writes.is_grammatical)
