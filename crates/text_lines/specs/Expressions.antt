-- Reading of an expression from tokens: what its result states, and how it is read.
use Rattle.std.specs.Prelude.{◌≡◌, ℕ, suc, zero, ◌^◌, pos, Bool, true, false, ◌&&◌, ◌==◌, nat_le, nat_lt, List, [], ◌∷◌, Option, Some, None, Result, Ok, Err, ⊤}
use Rattle.std.specs.Prelude.{if◌then◌else◌, option_and_then}
use Rattle.std.specs.Borrow.{Bor}
use Rattle.std.specs.Str.{bytes_eq}
use Rattle.model_rules.specs.Limits.{decimals_limit, writing_limit}
use Rattle.unit_tree.specs.Phrases.{Level, Whole, Primary, unary_level, binary_level, left_level, right_level, allows, Writes}
use Rattle.unit_tree.specs.Tokens.{symbol_text}
use Rattle.unit_tree.specs.declared.expr.BinOp.{BinOp}
use Rattle.unit_tree.specs.declared.expr.BinOp.TheVariants as by
use Rattle.unit_tree.specs.declared.expr.Expr.{Expr}
use Rattle.unit_tree.specs.declared.expr.Expr as expr
use Rattle.unit_tree.specs.declared.expr.UnOp.{UnOp}
use Rattle.unit_tree.specs.declared.expr.UnOp.TheVariants as of
use Rattle.unit_tree.specs.declared.token.Keyword.{Keyword}
use Rattle.unit_tree.specs.declared.token.Keyword.TheVariants as word
use Rattle.unit_tree.specs.declared.token.Symbol.{Symbol}
use Rattle.unit_tree.specs.declared.token.Symbol.TheVariants as sign
use Rattle.unit_tree.specs.declared.token.Token.{Token}
use Rattle.unit_tree.specs.declared.token.Token.TheVariants as token
use Rattle.text_tokens.specs.declared.fault.Unread.{Unread}
use Rattle.text_tokens.specs.declared.fault.Unread.TheVariants as unread
use Rattle.unit_tree.specs.Levels.{grammar_level}
use Rattle.unit_tree.specs.declared.levels.Level as levels

-- The tokens write the expression; `None` states that they write none.
abbrev pub ExpressionIs : List Token → Option Expr → Type 0
ExpressionIs tokens (Some tree) = Writes tree tokens
ExpressionIs tokens None = (tree : Expr) → Writes tree tokens → ⊥

-- Tokens write at most one expression.
abbrev pub WritesOneTree : Type 0
WritesOneTree = (tokens : List Token) (one other : Expr) → Writes one tokens → Writes other tokens → one ≡ other

-- ---- How it is read

-- One reading after another, if the first one gives something.
infixl 10 ◌>>=◌
abbrev pub ◌>>=◌ : {A B : Type 0} → Option A → (A → Option B) → Option B
found >>= next = option_and_then next found

-- What is read of the first tokens: a tree, the level of its outermost production, and the tokens after it.
abbrev pub Front : Type 0
Front = Expr × Level × List Token

-- Reading of the first tokens where the grammar requires a level.
abbrev pub Reader : Type 0
Reader = Level → List Token → Option Front

-- The result is what the definition of the reading gives.
abbrev pub GivesExpression : Result (Expr × levels.Level × Bor (List Token)) Unread → Option Front → Type 0
GivesExpression (Ok x) read = read ≡ Some (x.0, grammar_level x.1, x.2.now)
GivesExpression (Err unread.NoForm) read = read ≡ None
GivesExpression (Err unread.NoMemory) read = ⊤

-- The result is the operation that the definition of the reading gives, with the rest after it.
abbrev pub GivesInfix : Option (BinOp × Bor (List Token)) → Option (BinOp × List Token) → Type 0
GivesInfix (Some x) read = read ≡ Some (x.0, x.1.now)
GivesInfix None read = read ≡ None

-- The result is the rest that the definition of the reading gives.
abbrev pub GivesRest : {Y : Type 0} → Result (Bor (List Y)) Unread → Option (List Y) → Type 0
GivesRest (Ok rest) read = read ≡ Some (rest.now)
GivesRest (Err unread.NoForm) read = read ≡ None
GivesRest (Err unread.NoMemory) read = ⊤

-- ---- Single tokens

-- Symbols are compared by their texts, all of which differ.
abbrev pub same_symbol : Symbol → Symbol → Bool
same_symbol one other = bytes_eq (symbol_text one) (symbol_text other)

-- The tokens after the symbol, which has to come first.
abbrev pub after_symbol : Symbol → List Token → Option (List Token)
after_symbol symbol [] = None
after_symbol symbol (token.Symbol found ∷ rest) = if same_symbol found symbol then Some rest else None
after_symbol symbol (_ ∷ rest) = None

-- The tokens after `then`, and after `else`, which has to come first.
abbrev pub after_then : List Token → Option (List Token)
after_then (token.Keyword word.Then ∷ rest) = Some rest
after_then _ = None

abbrev pub after_else : List Token → Option (List Token)
after_else (token.Keyword word.Else ∷ rest) = Some rest
after_else _ = None

-- The name that comes first, and the tokens after it.
abbrev pub name_at : List Token → Option (List ℕ × List Token)
name_at [] = None
name_at (token.Name name ∷ rest) = Some (name, rest)
name_at (_ ∷ rest) = None

-- The number of decimals of a conversion to fixed point, and the tokens after it.
abbrev pub decimals_at : List Token → Option (ℕ × List Token)
decimals_at [] = None
decimals_at (token.Number digits decimals ∷ rest) = if (decimals == 0) && nat_le digits decimals_limit then Some (digits, rest) else None
decimals_at (_ ∷ rest) = None

-- ---- Operands that begin with a token of their own: `deeper` reads their parts, which are one level of nesting
-- deeper

-- A whole expression in parentheses.
unfoldable pub grouped_at : Reader → List Token → Option (Expr × List Token)
grouped_at deeper tokens = do
  first ← after_symbol sign.Open tokens
  inner ← deeper Whole first
  rest ← after_symbol sign.Close inner.2
  Some (inner.0, rest)

-- The operand of a call of one, after the operation's token.
unfoldable pub call_at : Reader → UnOp → List Token → Option Front
call_at deeper op tokens = do
  arg ← grouped_at deeper tokens
  Some (expr.Unary op arg.0, Primary, arg.1)

-- `N (x)`, after `fix`.
unfoldable pub fix_at : Reader → List Token → Option Front
fix_at deeper tokens = do
  decimals ← decimals_at tokens
  call_at deeper (of.ToFix decimals.0) decimals.1

-- The operand of `not` and of the prefix `-`.
unfoldable pub prefix_at : Reader → Level → UnOp → List Token → Option Front
prefix_at deeper asked op tokens =
    if allows asked (unary_level op) then (deeper (unary_level op) tokens >>= λ arg. Some (expr.Unary op arg.0, unary_level op, arg.2)) else None

-- The operands of a call of two, after the operation's token.
unfoldable pub pair_at : Reader → BinOp → List Token → Option Front
pair_at deeper op tokens = do
  first ← after_symbol sign.Open tokens
  left ← deeper Whole first
  second ← after_symbol sign.Comma left.2
  right ← deeper Whole second
  rest ← after_symbol sign.Close right.2
  Some (expr.Binary op left.0 right.0, Primary, rest)

-- The operands of `clamp`, after it.
unfoldable pub clamp_at : Reader → List Token → Option Front
clamp_at deeper tokens = do
  first ← after_symbol sign.Open tokens
  value ← deeper Whole first
  second ← after_symbol sign.Comma value.2
  low ← deeper Whole second
  third ← after_symbol sign.Comma low.2
  high ← deeper Whole third
  rest ← after_symbol sign.Close high.2
  Some (expr.Clamp value.0 low.0 high.0, Primary, rest)

-- The parts of a choice, after `if`.
unfoldable pub choice_at : Reader → List Token → Option Front
choice_at deeper tokens = do
  cond ← deeper Whole tokens
  first ← after_then cond.2
  chosen ← deeper Whole first
  second ← after_else chosen.2
  other ← deeper Whole second
  Some (expr.Choose cond.0 chosen.0 other.0, Whole, other.2)

-- `(u)`, after `present`.
unfoldable pub present_at : List Token → Option Front
present_at tokens = do
  first ← after_symbol sign.Open tokens
  name ← name_at first
  rest ← after_symbol sign.Close name.1
  Some (expr.Present name.0, Primary, rest)

-- An operand that begins with a keyword, from the tokens after it.
abbrev pub keyword_operand : Reader → Level → Keyword → List Token → Option Front
keyword_operand deeper asked word.True rest = Some (expr.Truth true, Primary, rest)
keyword_operand deeper asked word.False rest = Some (expr.Truth false, Primary, rest)
keyword_operand deeper asked word.Time rest = Some (expr.Time, Primary, rest)
keyword_operand deeper asked word.Length rest = Some (expr.Step, Primary, rest)
keyword_operand deeper asked word.Not rest = prefix_at deeper asked of.Not rest
keyword_operand deeper asked word.Abs rest = call_at deeper of.Abs rest
keyword_operand deeper asked word.Int rest = call_at deeper of.ToInt rest
keyword_operand deeper asked word.Fix rest = fix_at deeper rest
keyword_operand deeper asked word.Min rest = pair_at deeper by.Min rest
keyword_operand deeper asked word.Max rest = pair_at deeper by.Max rest
keyword_operand deeper asked word.Clamp rest = clamp_at deeper rest
keyword_operand deeper asked word.If rest = if allows asked Whole then choice_at deeper rest else None
keyword_operand deeper asked word.Absent rest = Some (expr.Absent, Primary, rest)
keyword_operand deeper asked word.Present rest = present_at rest
keyword_operand deeper asked _ rest = None

-- An operand that begins with a symbol, from the tokens after it.
abbrev pub symbol_operand : Reader → Level → Symbol → List Token → Option Front
symbol_operand deeper asked sign.Minus rest = prefix_at deeper asked of.Neg rest
symbol_operand deeper asked sign.Open rest =
    grouped_at deeper (token.Symbol sign.Open ∷ rest) >>= λ inner. Some (inner.0, Primary, inner.1)
symbol_operand deeper asked _ rest = None

-- The expression that comes first, up to the first infix operation outside it.
unfoldable pub operand_at : Reader → Level → List Token → Option Front
operand_at deeper asked [] = None
operand_at deeper asked (token.Number digits decimals ∷ rest) =
    if nat_lt digits (2 ^ 63) && nat_le decimals 9 then Some (expr.Number (pos digits) decimals, Primary, rest) else None
operand_at deeper asked (token.Name name ∷ rest) = Some (expr.Var name, Primary, rest)
operand_at deeper asked (token.Symbol symbol ∷ rest) = symbol_operand deeper asked symbol rest
operand_at deeper asked (token.Keyword keyword ∷ rest) = keyword_operand deeper asked keyword rest

-- ---- Infix operations

-- The infix operation of a symbol, and that of a keyword.
abbrev pub infix_symbol : Symbol → Option BinOp
infix_symbol sign.Plus = Some by.Add
infix_symbol sign.Minus = Some by.Sub
infix_symbol sign.Star = Some by.Mul
infix_symbol sign.Slash = Some by.Slash
infix_symbol sign.Equals = Some by.Eq
infix_symbol sign.Differs = Some by.Ne
infix_symbol sign.Less = Some by.Lt
infix_symbol sign.AtMost = Some by.Le
infix_symbol sign.Greater = Some by.Gt
infix_symbol sign.AtLeast = Some by.Ge
infix_symbol _ = None

abbrev pub infix_keyword : Keyword → Option BinOp
infix_keyword word.Div = Some by.Div
infix_keyword word.Mod = Some by.Mod
infix_keyword word.And = Some by.And
infix_keyword word.Or = Some by.Or
infix_keyword _ = None

-- The infix operation of the token.
abbrev pub infix_of : Token → Option BinOp
infix_of (token.Symbol symbol) = infix_symbol symbol
infix_of (token.Keyword keyword) = infix_keyword keyword
infix_of _ = None

-- The infix operation that comes first, and the tokens after it, where the grammar requires level `asked` and
-- the operation's left side has level `left`.
abbrev pub infix_at : Level → Level → List Token → Option (BinOp × List Token)
infix_at asked left [] = None
infix_at asked left (first ∷ rest) =
    infix_of first >>= λ op. if allows asked (binary_level op) && allows (left_level (binary_level op)) left then Some (op, rest) else None

-- An operation with its right side, which `reader` reads, if there is an operation; and then what `next` reads
-- after both.
abbrev pub with_right : Reader → (Front → Option Front) → Front → Option (BinOp × List Token) → Option Front
with_right reader next left None = Some left
with_right reader next left (Some (op, behind)) =
    reader (right_level (binary_level op)) behind >>= λ right. next (expr.Binary op left.0 right.0, binary_level op, right.2)

-- The left side with the infix operations after it that the required level allows, at most as many as `turns`
-- has tokens.
abbrev pub climb : Reader → Level → List Token → Front → Option Front
climb reader asked [] left = Some left
climb reader asked (_ ∷ turns) left = with_right reader (climb reader asked turns) left (infix_at asked left.1 left.2)

-- ---- Expressions

-- How many levels the grammar of expressions has, from a whole expression to a primary one.
abbrev pub level_count : ℕ
level_count = 9

-- An expression whose nested parts `deeper` reads. A right side is on a stronger level than its operation, so
-- right sides are nested no deeper than there are levels.
unfoldable pub within : Reader → ℕ → Reader
within deeper zero asked tokens = None
within deeper (suc levels_left) asked tokens = do
  left ← operand_at deeper asked tokens
  climb (within deeper levels_left) asked left.2 left

-- An expression whose parts are nested at most this many levels deep.
unfoldable pub read : ℕ → Reader
read zero asked tokens = within (λ level inner. None) level_count asked tokens
read (suc budget) asked tokens = within (read budget) level_count asked tokens

-- A part that is one level of nesting deeper.
abbrev pub deeper : ℕ → Reader
deeper zero asked tokens = None
deeper (suc budget) asked tokens = read budget asked tokens

-- The tree, if no token is left.
abbrev pub whole_tree : Option Front → Option Expr
whole_tree None = None
whole_tree (Some (tree, level, [])) = Some tree
whole_tree (Some (tree, level, first ∷ rest)) = None

-- The expression that the tokens write, or `None`.
unfoldable pub read_expression : List Token → Option Expr
read_expression tokens = whole_tree (read writing_limit Whole tokens)
