-- The forms of lines: which tokens write each of them.
use Rattle.std.specs.Prelude.{◌≡◌, ℕ, ◌^◌, ◌≤◌, ◌<◌, Bool, true, false, ◌||◌, ◌==◌, ℤ, pos, List, [], ◌∷◌, ◌++◌, codes, IsTrue, if◌then◌else◌, ⊤}
use Rattle.std.specs.Str.{bytes_eq}
use Rattle.model_rules.specs.Limits.{decimals_limit, rows_limit, turn_limit, zero_limit}
use Rattle.fixed_words.specs.Literals.{with_sign}
use Rattle.fixed_words.specs.Types.{AreDecimals, is_word_of}
use Rattle.fixed_words.specs.declared.types.Literal.{Literal}
use Rattle.fixed_words.specs.declared.types.Literal.TheVariants as literal
use Rattle.fixed_words.specs.declared.types.Ty.{Ty}
use Rattle.fixed_words.specs.declared.types.Ty.TheVariants as types
use Rattle.unit_tree.specs.Lines.{code_of}
use Rattle.unit_tree.specs.Phrases.{keyword, symbol, whole, truth_word, Writes}
use Rattle.unit_tree.specs.Tokens.{Spells, keyword_text}
use Rattle.unit_tree.specs.declared.expr.Expr.{Expr, fold-Expr}
use Rattle.unit_tree.specs.declared.expr.Expr.TheOpen.{Expr-F}
use Rattle.unit_tree.specs.declared.line_form.LineForm.{LineForm}
use Rattle.unit_tree.specs.declared.line_form.LineForm.TheVariants as form
use Rattle.unit_tree.specs.declared.system.PortName.{PortName}
use Rattle.unit_tree.specs.declared.token.Keyword.{Keyword}
use Rattle.unit_tree.specs.declared.token.Keyword.TheVariants as word
use Rattle.unit_tree.specs.declared.token.Symbol.TheVariants as sign
use Rattle.unit_tree.specs.declared.token.Token.{Token}
use Rattle.unit_tree.specs.declared.token.Token.TheVariants as token

-- ---- The beginning of a line

-- A type by its name, which is not a reserved word.
abbrev pub type_tokens : Ty → List Token
type_tokens types.Int8 = token.Name (codes "Int8") ∷ []
type_tokens types.UInt8 = token.Name (codes "UInt8") ∷ []
type_tokens types.Int16 = token.Name (codes "Int16") ∷ []
type_tokens types.UInt16 = token.Name (codes "UInt16") ∷ []
type_tokens types.Int32 = token.Name (codes "Int32") ∷ []
type_tokens types.UInt32 = token.Name (codes "UInt32") ∷ []
type_tokens types.Int64 = token.Name (codes "Int64") ∷ []
type_tokens types.Bool = token.Name (codes "Bool") ∷ []
type_tokens (types.Fixed decimals) = token.Name (codes "Fixed") ∷ whole decimals ∷ []

-- `a.y`
abbrev pub port_tokens : PortName → List Token
port_tokens port = token.Name port.instance ∷ symbol sign.Point ∷ token.Name port.port ∷ []

-- `p : T`, after a keyword.
abbrev pub declaration : Keyword → List ℕ → Ty → List Token
declaration declared name ty = keyword declared ∷ token.Name name ∷ symbol sign.Colon ∷ type_tokens ty

-- Names, with a comma between neighbours.
abbrev pub names_tokens : List (List ℕ) → List Token
names_tokens [] = []
names_tokens (name ∷ []) = token.Name name ∷ []
names_tokens (name ∷ next ∷ names) = token.Name name ∷ symbol sign.Comma ∷ names_tokens (next ∷ names)

-- `needs u, v`; no tokens where there are no needs.
abbrev pub needs_tokens : List (List ℕ) → List Token
needs_tokens [] = []
needs_tokens (name ∷ names) = keyword word.Needs ∷ names_tokens (name ∷ names)

abbrev pub equals : List Token
equals = symbol sign.Is ∷ []

-- The tokens of a form before its literal or expression; all its tokens where it has none.
abbrev pub front_tokens : LineForm → List Token
front_tokens (form.Header version) = keyword word.Cosim ∷ whole version ∷ []
front_tokens (form.Unit name) = keyword word.Unit ∷ token.Name name ∷ []
front_tokens (form.Resolution decimals) = keyword word.Resolution ∷ whole decimals ∷ []
front_tokens (form.Param param) = declaration word.Param param.name param.ty ++ equals
front_tokens (form.State state) = declaration word.State state.name state.ty ++ equals
front_tokens (form.Local local) = declaration word.Local local.name local.ty
front_tokens (form.Input input) = declaration word.Input input.name input.ty ++ equals
front_tokens (form.EventInput event) = keyword word.Event ∷ declaration word.Input event.name event.ty
front_tokens (form.Output output) = declaration word.Output output.name output.ty ++ needs_tokens output.needs ++ equals
front_tokens (form.EventOutput event) = keyword word.Event ∷ declaration word.Output event.name event.ty ++ needs_tokens event.needs ++ equals
front_tokens (form.Max value) = keyword word.Max ∷ []
front_tokens form.Step = keyword word.Step ∷ []
front_tokens form.End = keyword word.End ∷ []
front_tokens (form.Assign target value) = token.Name target ∷ symbol sign.Assign ∷ []
front_tokens (form.If cond) = keyword word.If ∷ []
front_tokens form.Else = keyword word.Else ∷ []
front_tokens (form.Repeat count) = keyword word.Repeat ∷ whole count ∷ []
front_tokens (form.Accept value) = keyword word.Accept ∷ []
front_tokens (form.Instance name unit) = keyword word.Instance ∷ token.Name name ∷ symbol sign.Colon ∷ token.Name unit ∷ []
front_tokens (form.Setting setting) = token.Name setting.name ∷ equals
front_tokens (form.Connect wire) = keyword word.Connect ∷ port_tokens wire.from ++ (symbol sign.Arrow ∷ port_tokens wire.to)
front_tokens (form.Stop seconds) = keyword word.Stop ∷ []
front_tokens (form.Longest seconds) = keyword word.Longest ∷ []
front_tokens (form.Zero count) = keyword word.Zero ∷ whole count ∷ []
front_tokens (form.Rows count) = keyword word.Rows ∷ whole count ∷ []
front_tokens (form.Sample port) = keyword word.Sample ∷ port_tokens port

-- The keyword that a line begins with; no text where it begins with a name.
abbrev pub first_keyword : List Token → List ℕ
first_keyword (token.Keyword spelled ∷ tokens) = keyword_text spelled
first_keyword _ = []

-- Whether two lines begin with the same keyword. Lines that begin with a name count as having the same one.
abbrev pub are_alike : LineForm → LineForm → Bool
are_alike one other = bytes_eq (first_keyword (front_tokens one)) (first_keyword (front_tokens other))

-- ---- The end of a line

-- What a form ends with: nothing more, a literal, a number of seconds (which has no sign), or an expression.
pub data Tail : Type 0 where
  Nothing : Tail
  OfLiteral : Literal → Tail
  OfSeconds : Literal → Tail
  OfExpression : Expr → Tail

abbrev pub tail_of : LineForm → Tail
tail_of (form.Param param) = OfLiteral param.start
tail_of (form.State state) = OfLiteral state.start
tail_of (form.Input input) = OfLiteral input.start
tail_of (form.Setting setting) = OfLiteral setting.value
tail_of (form.Stop seconds) = OfSeconds seconds
tail_of (form.Longest seconds) = OfSeconds seconds
tail_of (form.Output output) = OfExpression output.value
tail_of (form.EventOutput event) = OfExpression event.value
tail_of (form.Max value) = OfExpression value
tail_of (form.Assign target value) = OfExpression value
tail_of (form.If cond) = OfExpression cond
tail_of (form.Accept value) = OfExpression value
tail_of _ = Nothing

-- `-` before a negative number. It may also be before 0.
abbrev pub sign_tokens : Bool → List Token
sign_tokens negative = if negative then symbol sign.Minus ∷ [] else []

-- The tokens write a number with or without a sign: `number` is the word of all its digits, and `decimals` is how
-- many of them follow the point.
pub record WritesNumber (number : ℤ) (decimals : ℕ) (tokens : List Token) : Type 0 where
  pub negative : Bool
  pub digits : ℕ
  pub spelled : tokens ≡ sign_tokens negative ++ (token.Number digits decimals ∷ [])
  pub value : with_sign negative digits ≡ number
  pub fits : IsTrue (is_word_of types.Int64 number)

-- The tokens write the literal.
abbrev pub WritesLiteral : Literal → List Token → Type 0
WritesLiteral (literal.Truth told) tokens = tokens ≡ keyword (truth_word told) ∷ []
WritesLiteral (literal.Number number decimals) tokens = WritesNumber number decimals tokens

-- The tokens write a number without a sign.
abbrev pub WritesSeconds : Literal → List Token → Type 0
WritesSeconds (literal.Truth told) tokens = ⊥
WritesSeconds (literal.Number number decimals) tokens =
    (digits : ℕ) × (digits < 2 ^ 63) × (number ≡ pos digits) × (tokens ≡ token.Number digits decimals ∷ [])

-- The tokens write the tail.
abbrev pub WritesTail : Tail → List Token → Type 0
WritesTail Nothing tokens = tokens ≡ []
WritesTail (OfLiteral value) tokens = WritesLiteral value tokens
WritesTail (OfSeconds seconds) tokens = WritesSeconds seconds tokens
WritesTail (OfExpression value) tokens = Writes value tokens

-- ---- Lines

-- The version, the count, the resolution and the decimals of the type on a line are in the ranges of the language.
abbrev pub AreCountsInRange : LineForm → Type 0
AreCountsInRange (form.Header version) = (1 ≤ version) × (version ≤ 2)
AreCountsInRange (form.Resolution decimals) = decimals ≤ decimals_limit
AreCountsInRange (form.Param param) = AreDecimals param.ty
AreCountsInRange (form.State state) = AreDecimals state.ty
AreCountsInRange (form.Local local) = AreDecimals local.ty
AreCountsInRange (form.Input input) = AreDecimals input.ty
AreCountsInRange (form.EventInput event) = AreDecimals event.ty
AreCountsInRange (form.Output output) = AreDecimals output.ty
AreCountsInRange (form.EventOutput event) = AreDecimals event.ty
AreCountsInRange (form.Repeat count) = (1 ≤ count) × (count ≤ turn_limit)
AreCountsInRange (form.Zero count) = count ≤ zero_limit
AreCountsInRange (form.Rows count) = (1 ≤ count) × (count ≤ rows_limit)
AreCountsInRange _ = ⊤

-- The tokens write the form.
pub record WritesForm (some : LineForm) (tokens : List Token) : Type 0 where
  pub tail : List Token
  pub spelled : tokens ≡ front_tokens some ++ tail
  pub tail_is : WritesTail (tail_of some) tail
  pub counts : AreCountsInRange some

-- The line has the form: its code spells tokens that write the form.
pub record HasForm (form : LineForm) (line : List ℕ) : Type 0 where
  pub tokens : List Token
  pub spelled : Spells tokens (code_of line)
  pub written : WritesForm form tokens

-- ---- What version 2 adds

-- One node, where for each part it is given whether `absent` or `present` occurs in it.
abbrev pub node_speaks_of_events : Expr-F Bool → Bool
node_speaks_of_events (Expr-F.Unary op arg) = arg
node_speaks_of_events (Expr-F.Binary op left right) = left || right
node_speaks_of_events (Expr-F.Clamp value low high) = value || (low || high)
node_speaks_of_events (Expr-F.Choose cond then_part else_part) = cond || (then_part || else_part)
node_speaks_of_events Expr-F.Absent = true
node_speaks_of_events (Expr-F.Present name) = true
node_speaks_of_events _ = false

-- Whether `absent` or `present` occurs in an expression.
abbrev pub speaks_of_events : Expr → Bool
speaks_of_events = fold-Expr Bool node_speaks_of_events

abbrev pub tail_speaks_of_events : Tail → Bool
tail_speaks_of_events (OfExpression value) = speaks_of_events value
tail_speaks_of_events _ = false

-- Whether only version 2 has the form: its own header, the lines of event ports, and lines with `absent` or
-- `present`.
abbrev pub is_of_version_2 : LineForm → Bool
is_of_version_2 (form.Header version) = version == 2
is_of_version_2 (form.EventInput event) = true
is_of_version_2 (form.EventOutput event) = true
is_of_version_2 some = tail_speaks_of_events (tail_of some)
