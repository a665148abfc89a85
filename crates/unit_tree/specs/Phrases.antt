-- Expressions as they are written: the tree with its parentheses, its tokens, and which of these trees the grammar
-- has.
--
-- The grammar, from the weakest level to the strongest:
--
--   whole       "if" whole "then" whole "else" whole | or
--   or          and | or "or" and
--   and         not | and "and" not
--   not         comparison | "not" not
--   comparison  sum | sum ("==" | "!=" | "<" | "<=" | ">" | ">=") sum
--   sum         product | sum ("+" | "-") product
--   product     negation | product ("*" | "/" | "div" | "mod") negation
--   negation    primary | "-" negation
--   primary     number | "true" | "false" | "t" | "h" | name | "(" whole ")" | "abs" "(" whole ")"
--               | "int" "(" whole ")" | "fix" N "(" whole ")" | "min" "(" whole "," whole ")"
--               | "max" "(" whole "," whole ")" | "clamp" "(" whole "," whole "," whole ")"
--               and in version 2 also "absent" | "present" "(" name ")"
use Rattle.std.specs.Prelude.{◌≡◌, ℕ, suc, ◌^◌, max, Bool, true, false, ◌&&◌, nat_le, nat_lt, pos, List, [], ◌∷◌, ◌++◌, IsTrue}
use Rattle.model_rules.specs.Limits.{writing_limit}
use Rattle.unit_tree.specs.Values.{unary_is_ranged}
use Rattle.unit_tree.specs.declared.expr.BinOp.{BinOp}
use Rattle.unit_tree.specs.declared.expr.BinOp.TheVariants as by
use Rattle.unit_tree.specs.declared.expr.Expr.{Expr}
use Rattle.unit_tree.specs.declared.expr.Expr as expr
use Rattle.unit_tree.specs.declared.expr.UnOp.{UnOp}
use Rattle.unit_tree.specs.declared.expr.UnOp.TheVariants as of
use Rattle.unit_tree.specs.declared.token.Keyword.{Keyword}
use Rattle.unit_tree.specs.declared.token.Keyword.TheVariants as word
use Rattle.unit_tree.specs.declared.token.Symbol.{Symbol}
use Rattle.unit_tree.specs.declared.token.Symbol.TheVariants as sign
use Rattle.unit_tree.specs.declared.token.Token.{Token}
use Rattle.unit_tree.specs.declared.token.Token.TheVariants as token

-- An expression as it is written. A number is given by its digits without the point, and how many of them follow the
-- point.
pub data Phrase : Type 0 where
  Number : ℕ → ℕ → Phrase
  Truth : Bool → Phrase
  Var : List ℕ → Phrase
  Time : Phrase
  Step : Phrase
  Parens : Phrase → Phrase
  Unary : UnOp → Phrase → Phrase
  Binary : BinOp → Phrase → Phrase → Phrase
  Clamp : Phrase → Phrase → Phrase → Phrase
  Choose : Phrase → Phrase → Phrase → Phrase
  Absent : Phrase
  Present : List ℕ → Phrase

-- The tree of an expression, which has no parentheses.
abbrev pub tree_of : Phrase → Expr
tree_of (Number digits decimals) = expr.Number (pos digits) decimals
tree_of (Truth told) = expr.Truth told
tree_of (Var name) = expr.Var name
tree_of Time = expr.Time
tree_of Step = expr.Step
tree_of (Parens inner) = tree_of inner
tree_of (Unary op arg) = expr.Unary op (tree_of arg)
tree_of (Binary op left right) = expr.Binary op (tree_of left) (tree_of right)
tree_of (Clamp value low high) = expr.Clamp (tree_of value) (tree_of low) (tree_of high)
tree_of (Choose cond then_part else_part) = expr.Choose (tree_of cond) (tree_of then_part) (tree_of else_part)
tree_of Absent = expr.Absent
tree_of (Present name) = expr.Present name

-- ---- Tokens

abbrev pub keyword : Keyword → Token
keyword spelled = token.Keyword spelled

abbrev pub symbol : Symbol → Token
symbol spelled = token.Symbol spelled

-- A whole number.
abbrev pub whole : ℕ → Token
whole digits = token.Number digits 0

abbrev pub truth_word : Bool → Keyword
truth_word true = word.True
truth_word false = word.False

abbrev pub in_parens : List Token → List Token
in_parens tokens = symbol sign.Open ∷ tokens ++ (symbol sign.Close ∷ [])

-- An operation on one operand, which is given by its tokens.
abbrev pub unary_tokens : UnOp → List Token → List Token
unary_tokens of.Neg arg = symbol sign.Minus ∷ arg
unary_tokens of.Not arg = keyword word.Not ∷ arg
unary_tokens of.Abs arg = keyword word.Abs ∷ in_parens arg
unary_tokens of.ToInt arg = keyword word.Int ∷ in_parens arg
unary_tokens (of.ToFix decimals) arg = keyword word.Fix ∷ whole decimals ∷ in_parens arg

-- The token of an operation on two operands. In a call it comes first, and else between the operands.
abbrev pub operation : BinOp → Token
operation by.Add = symbol sign.Plus
operation by.Sub = symbol sign.Minus
operation by.Mul = symbol sign.Star
operation by.Slash = symbol sign.Slash
operation by.Div = keyword word.Div
operation by.Mod = keyword word.Mod
operation by.Eq = symbol sign.Equals
operation by.Ne = symbol sign.Differs
operation by.Lt = symbol sign.Less
operation by.Le = symbol sign.AtMost
operation by.Gt = symbol sign.Greater
operation by.Ge = symbol sign.AtLeast
operation by.And = keyword word.And
operation by.Or = keyword word.Or
operation by.Min = keyword word.Min
operation by.Max = keyword word.Max

abbrev pub call_of_two : Token → List Token → List Token → List Token
call_of_two called left right = called ∷ in_parens (left ++ (symbol sign.Comma ∷ right))

abbrev pub binary_tokens : BinOp → List Token → List Token → List Token
binary_tokens by.Min left right = call_of_two (operation by.Min) left right
binary_tokens by.Max left right = call_of_two (operation by.Max) left right
binary_tokens op left right = left ++ (operation op ∷ right)

-- The tokens that an expression is written with.
abbrev pub phrase_tokens : Phrase → List Token
phrase_tokens (Number digits decimals) = token.Number digits decimals ∷ []
phrase_tokens (Truth told) = keyword (truth_word told) ∷ []
phrase_tokens (Var name) = token.Name name ∷ []
phrase_tokens Time = keyword word.Time ∷ []
phrase_tokens Step = keyword word.Length ∷ []
phrase_tokens (Parens inner) = in_parens (phrase_tokens inner)
phrase_tokens (Unary op arg) = unary_tokens op (phrase_tokens arg)
phrase_tokens (Binary op left right) = binary_tokens op (phrase_tokens left) (phrase_tokens right)
phrase_tokens (Clamp value low high) =
    keyword word.Clamp ∷ in_parens (phrase_tokens value ++ (symbol sign.Comma ∷ phrase_tokens low ++ (symbol sign.Comma ∷ phrase_tokens high)))
phrase_tokens (Choose cond then_part else_part) =
    keyword word.If ∷ phrase_tokens cond ++ (keyword word.Then ∷ phrase_tokens then_part ++ (keyword word.Else ∷ phrase_tokens else_part))
phrase_tokens Absent = keyword word.Absent ∷ []
phrase_tokens (Present name) = keyword word.Present ∷ in_parens (token.Name name ∷ [])

-- ---- Levels

-- The levels of the grammar, from the weakest to the strongest.
pub data Level : Type 0 where
  Whole : Level
  Or : Level
  And : Level
  Not : Level
  Comparison : Level
  Sum : Level
  Product : Level
  Negation : Level
  Primary : Level

abbrev pub strength : Level → ℕ
strength Whole = 0
strength Or = 1
strength And = 2
strength Not = 3
strength Comparison = 4
strength Sum = 5
strength Product = 6
strength Negation = 7
strength Primary = 8

-- The level of an operation's own production.
abbrev pub unary_level : UnOp → Level
unary_level of.Neg = Negation
unary_level of.Not = Not
unary_level _ = Primary

abbrev pub binary_level : BinOp → Level
binary_level by.Or = Or
binary_level by.And = And
binary_level by.Add = Sum
binary_level by.Sub = Sum
binary_level by.Mul = Product
binary_level by.Slash = Product
binary_level by.Div = Product
binary_level by.Mod = Product
binary_level by.Min = Primary
binary_level by.Max = Primary
binary_level _ = Comparison

-- The level of an expression's outermost production.
abbrev pub level_of : Phrase → Level
level_of (Unary op arg) = unary_level op
level_of (Binary op left right) = binary_level op
level_of (Choose cond then_part else_part) = Whole
level_of _ = Primary

-- The level that a production requires of its operand: a prefix operation requires its own level, and a call a whole
-- expression.
abbrev pub operand_level : Level → Level
operand_level Not = Not
operand_level Negation = Negation
operand_level _ = Whole

abbrev pub left_level : Level → Level
left_level Or = Or
left_level And = And
left_level Comparison = Sum
left_level Sum = Sum
left_level Product = Product
left_level _ = Whole

abbrev pub right_level : Level → Level
right_level Or = And
right_level And = Not
right_level Comparison = Sum
right_level Sum = Product
right_level Product = Negation
right_level _ = Whole

-- An expression of a level is allowed where the grammar requires a level that is not stronger.
abbrev pub allows : Level → Level → Bool
allows asked level = nat_le (strength asked) (strength level)

-- The expression is allowed where the grammar requires this level, and each of its parts is allowed at its own place.
abbrev pub stands : Level → Phrase → Bool
stands asked (Parens inner) = stands Whole inner
stands asked (Unary op arg) = allows asked (unary_level op) && stands (operand_level (unary_level op)) arg
stands asked (Binary op left right) =
    allows asked (binary_level op) && (stands (left_level (binary_level op)) left && stands (right_level (binary_level op)) right)
stands asked (Clamp value low high) = stands Whole value && (stands Whole low && stands Whole high)
stands asked (Choose cond then_part else_part) =
    allows asked Whole && (stands Whole cond && (stands Whole then_part && stands Whole else_part))
stands asked _ = true

-- ---- Nesting and numbers

-- How much deeper the operands of an operation are nested: one level, but not those of an infix operation.
abbrev pub binary_nesting : BinOp → ℕ → ℕ
binary_nesting by.Min deepest = suc deepest
binary_nesting by.Max deepest = suc deepest
binary_nesting _ deepest = deepest

-- How many levels deep the parts of an expression are nested. Each part inside parentheses or a call, each part of an
-- `if`, and each operand of `not` and of the prefix `-` is one level deeper than what is around it. The name in
-- `present(u)` is not a part.
abbrev pub nesting : Phrase → ℕ
nesting (Parens inner) = suc (nesting inner)
nesting (Unary op arg) = suc (nesting arg)
nesting (Binary op left right) = binary_nesting op (max (nesting left) (nesting right))
nesting (Clamp value low high) = suc (max (nesting value) (max (nesting low) (nesting high)))
nesting (Choose cond then_part else_part) = suc (max (nesting cond) (max (nesting then_part) (nesting else_part)))
nesting _ = 0

-- The numbers of an expression are words from 0 up with at most nine decimals, and the N of each `fix N` is at most 9.
abbrev pub numbers_fit : Phrase → Bool
numbers_fit (Number digits decimals) = nat_lt digits (2 ^ 63) && nat_le decimals 9
numbers_fit (Parens inner) = numbers_fit inner
numbers_fit (Unary op arg) = unary_is_ranged op && numbers_fit arg
numbers_fit (Binary op left right) = numbers_fit left && numbers_fit right
numbers_fit (Clamp value low high) = numbers_fit value && (numbers_fit low && numbers_fit high)
numbers_fit (Choose cond then_part else_part) = numbers_fit cond && (numbers_fit then_part && numbers_fit else_part)
numbers_fit _ = true

-- The grammar has the expression: each part has an allowed level, the parts are nested at most 64 levels deep, and all
-- numbers are in range, also the N of each `fix N`.
abbrev pub is_expression : Phrase → Bool
is_expression phrase = stands Whole phrase && (nat_le (nesting phrase) writing_limit && numbers_fit phrase)

-- The tokens write the expression.
pub record Writes (tree : Expr) (tokens : List Token) : Type 0 where
  pub phrase : Phrase
  pub is_tree : tree_of phrase ≡ tree
  pub spelled : phrase_tokens phrase ≡ tokens
  pub is_grammatical : IsTrue (is_expression phrase)
