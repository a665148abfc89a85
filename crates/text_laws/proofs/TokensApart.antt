-- Tokens that may be next to each other without a blank between them, and are read one by one again.
use Rattle.std.proofs.Common.{◌≡◌, ℕ, Bool, true, false, not, ◌&&◌, List, [], ◌∷◌, ◌++◌, refl, ap, sym, ◌∙◌, append_assoc}
use Rattle.std.specs.Int.{is_negative}
use Rattle.std.specs.Prelude.{unsigned_abs}
use Rattle.std.proofs.lemmas.Bool.{and_right}
use Rattle.std.proofs.lemmas.List.{append-nil}
use Rattle.fixed_words.specs.declared.types.Literal.{Literal}
use Rattle.fixed_words.specs.declared.types.Literal.TheVariants as literal
use Rattle.fixed_words.specs.declared.types.Ty.{Ty}
use Rattle.fixed_words.specs.declared.types.Ty.TheVariants as types
use Rattle.unit_tree.specs.Canonical.{canonical_phrase, expression_tokens, literal_tokens, form_tokens}
use Rattle.unit_tree.specs.LineForms.{type_tokens, declaration, names_tokens, needs_tokens, equals, sign_tokens}
use Rattle.unit_tree.specs.Phrases as phrase
use Rattle.unit_tree.specs.Phrases.{Phrase, keyword, symbol, truth_word, in_parens, unary_tokens, operation, binary_tokens, phrase_tokens}
use Rattle.unit_tree.specs.declared.expr.BinOp.{BinOp}
use Rattle.unit_tree.specs.declared.expr.BinOp.TheVariants as by
use Rattle.unit_tree.specs.declared.expr.Expr.{Expr}
use Rattle.unit_tree.specs.declared.expr.UnOp.{UnOp}
use Rattle.unit_tree.specs.declared.expr.UnOp.TheVariants as of
use Rattle.unit_tree.specs.declared.line_form.LineForm.{LineForm}
use Rattle.unit_tree.specs.declared.line_form.LineForm.TheVariants as form
use Rattle.unit_tree.specs.declared.token.Keyword.{Keyword}
use Rattle.unit_tree.specs.declared.token.Keyword.TheVariants as word
use Rattle.unit_tree.specs.declared.token.Symbol.{Symbol}
use Rattle.unit_tree.specs.declared.token.Symbol.TheVariants as sign
use Rattle.unit_tree.specs.declared.token.Token.{Token}
use Rattle.unit_tree.specs.declared.token.Token.TheVariants as token

-- ---- Which tokens may be next to each other

-- Whether a longer symbol begins with this one.
abbrev pub can_grow : Symbol → Bool
can_grow sign.Colon = true
can_grow sign.Minus = true
can_grow sign.Less = true
can_grow sign.Greater = true
can_grow sign.Is = true
can_grow _ = false

-- Whether a token begins with `=` or `>`, which make a symbol longer.
abbrev pub is_growth : Token → Bool
is_growth (token.Symbol sign.Equals) = true
is_growth (token.Symbol sign.AtLeast) = true
is_growth (token.Symbol sign.Is) = true
is_growth (token.Symbol sign.Greater) = true
is_growth _ = false

-- Whether a token is a point.
abbrev pub is_point : Token → Bool
is_point (token.Symbol sign.Point) = true
is_point _ = false

-- Whether there is a first token and it passes the test.
abbrev pub starts_with : (Token → Bool) → List Token → Bool
starts_with test [] = false
starts_with test (first ∷ others) = test first

-- Whether the tokens after a token would continue it: a number is continued by a point, and a symbol by what makes
-- a longer symbol.
abbrev pub reads_on : Token → List Token → Bool
reads_on (token.Number digits decimals) behind = starts_with is_point behind
reads_on (token.Symbol spelled) behind = starts_with is_growth behind && can_grow spelled
reads_on _ behind = false

-- No token is continued by the next.
abbrev pub are_apart : List Token → Bool
are_apart [] = true
are_apart (first ∷ others) = not (reads_on first others) && are_apart others

-- ---- One token before others

-- A symbol needs no blank before tokens that cannot make it a longer symbol.
before_other : (spelled : Symbol) (behind : List Token) → starts_with is_growth behind ≡ false → are_apart behind ≡ true
    → are_apart (symbol spelled ∷ behind) ≡ true
before_other spelled behind other apart = rw other apart

-- A symbol that no other begins with needs no blank before any token.
before_any : (spelled : Symbol) (behind : List Token) → can_grow spelled ≡ false → are_apart behind ≡ true → are_apart (symbol spelled ∷ behind) ≡ true
before_any spelled behind full apart = rw (and_right (starts_with is_growth behind) (can_grow spelled) full) apart

-- A token that may be between two operands: it is not a point, and makes no symbol before it longer.
record Separates (between : Token) : Type 0 where
  no_point : is_point between ≡ false
  apart : (behind : List Token) → starts_with is_growth behind ≡ false → are_apart behind ≡ true → are_apart (between ∷ behind) ≡ true

-- Every keyword may.
keyword_separates : (spelled : Keyword) → Separates (keyword spelled)
keyword_separates spelled = record { no_point = refl; apart = λ behind other apart. apart }

-- Every symbol except the point may.
symbol_separates : (spelled : Symbol) → is_point (symbol spelled) ≡ false → Separates (symbol spelled)
symbol_separates spelled no_point = record { no_point = no_point; apart = before_other spelled }

-- Every operation may.
operation_separates : (op : BinOp) → Separates (operation op)
operation_separates by.Add = symbol_separates sign.Plus refl
operation_separates by.Sub = symbol_separates sign.Minus refl
operation_separates by.Mul = symbol_separates sign.Star refl
operation_separates by.Slash = symbol_separates sign.Slash refl
operation_separates by.Div = keyword_separates word.Div
operation_separates by.Mod = keyword_separates word.Mod
operation_separates by.Eq = symbol_separates sign.Equals refl
operation_separates by.Ne = symbol_separates sign.Differs refl
operation_separates by.Lt = symbol_separates sign.Less refl
operation_separates by.Le = symbol_separates sign.AtMost refl
operation_separates by.Gt = symbol_separates sign.Greater refl
operation_separates by.Ge = symbol_separates sign.AtLeast refl
operation_separates by.And = keyword_separates word.And
operation_separates by.Or = keyword_separates word.Or
operation_separates by.Min = keyword_separates word.Min
operation_separates by.Max = keyword_separates word.Max

-- ---- Operands

-- The tokens need no blanks between them or before any token but a point, and make no symbol before them longer.
record IsOperand (tokens : List Token) : Type 0 where
  apart : (behind : List Token) → are_apart behind ≡ true → starts_with is_point behind ≡ false → are_apart (tokens ++ behind) ≡ true
  other : (behind : List Token) → starts_with is_growth (tokens ++ behind) ≡ false

-- Tokens of an operand need no blanks if nothing follows them.
operand_apart : (tokens : List Token) → IsOperand tokens → are_apart tokens ≡ true
operand_apart tokens operand = ap are_apart (sym (append-nil tokens)) ∙ operand.apart [] refl refl

-- They make no symbol before them longer there.
operand_other : (tokens : List Token) → IsOperand tokens → starts_with is_growth tokens ≡ false
operand_other tokens operand = ap (starts_with is_growth) (sym (append-nil tokens)) ∙ operand.other []

-- A keyword is an operand.
keyword_operand : (spelled : Keyword) → IsOperand (keyword spelled ∷ [])
keyword_operand spelled = record { apart = λ behind apart no_point. apart; other = λ behind. refl }

-- A name is one.
name_operand : (name : List ℕ) → IsOperand (token.Name name ∷ [])
name_operand name = record { apart = λ behind apart no_point. apart; other = λ behind. refl }

-- A number is one.
number_operand : (digits decimals : ℕ) → IsOperand (token.Number digits decimals ∷ [])
number_operand digits decimals = record { apart = λ behind apart no_point. rw no_point apart; other = λ behind. refl }

-- The same for an operand after a token that separates and that makes no symbol longer.
behind_first : (first : Token) (tokens : List Token) → Separates first → is_growth first ≡ false → IsOperand tokens → IsOperand (first ∷ tokens)
behind_first first tokens separates no_growth operand =
    record {
      apart = λ behind apart no_point. separates.apart (tokens ++ behind) (operand.other behind) (operand.apart behind apart no_point);
      other = λ behind. no_growth;
    }

-- So are two operands with a token between them that separates.
both_operands : (left right : List Token) (between : Token) → Separates between → IsOperand left → IsOperand right → IsOperand (left ++ (between ∷ right))
both_operands left right between separates first second =
    record {
      apart = λ behind apart no_point. ap are_apart (append_assoc left (between ∷ right) behind)
          ∙ first.apart (between ∷ right ++ behind)
          (separates.apart (right ++ behind) (second.other behind) (second.apart behind apart no_point)) separates.no_point;
      other = λ behind. ap (starts_with is_growth) (append_assoc left (between ∷ right) behind) ∙ first.other (between ∷ right ++ behind);
    }

-- The same for an operand with `)` after it.
closed : (inner : List Token) → IsOperand inner → IsOperand (inner ++ (symbol sign.Close ∷ []))
closed inner operand =
    record {
      apart = λ behind apart no_point. ap are_apart (append_assoc inner (symbol sign.Close ∷ []) behind)
          ∙ operand.apart (symbol sign.Close ∷ behind) (before_any sign.Close behind refl apart) refl;
      other = λ behind. ap (starts_with is_growth) (append_assoc inner (symbol sign.Close ∷ []) behind) ∙ operand.other (symbol sign.Close ∷ behind);
    }

-- So is an operand in parentheses.
parens_operand : (inner : List Token) → IsOperand inner → IsOperand (in_parens inner)
parens_operand inner operand = behind_first (symbol sign.Open) (inner ++ (symbol sign.Close ∷ [])) (symbol_separates sign.Open refl) refl (closed inner operand)

-- So is a call.
call_operand : (called : Keyword) (inner : List Token) → IsOperand inner → IsOperand (keyword called ∷ in_parens inner)
call_operand called inner operand = behind_first (keyword called) (in_parens inner) (keyword_separates called) refl (parens_operand inner operand)

-- So are two operands with a comma between them.
comma_operands : (left right : List Token) → IsOperand left → IsOperand right → IsOperand (left ++ (symbol sign.Comma ∷ right))
comma_operands left right = both_operands left right (symbol sign.Comma) (symbol_separates sign.Comma refl)

-- So is an operation on an operand.
unary_operand : (op : UnOp) (arg : List Token) → IsOperand arg → IsOperand (unary_tokens op arg)
unary_operand of.Neg arg operand = behind_first (symbol sign.Minus) arg (symbol_separates sign.Minus refl) refl operand
unary_operand of.Not arg operand = behind_first (keyword word.Not) arg (keyword_separates word.Not) refl operand
unary_operand of.Abs arg operand = call_operand word.Abs arg operand
unary_operand of.ToInt arg operand = call_operand word.Int arg operand
unary_operand (of.ToFix decimals) arg operand =
    let inner = parens_operand arg operand in
    record { apart = inner.apart; other = λ behind. refl }

-- So is an operation between two operands.
infix_operand : (op : BinOp) (left right : List Token) → IsOperand left → IsOperand right → IsOperand (left ++ (operation op ∷ right))
infix_operand op left right = both_operands left right (operation op) (operation_separates op)

-- So is every operation on two operands.
binary_operand : (op : BinOp) (left right : List Token) → IsOperand left → IsOperand right → IsOperand (binary_tokens op left right)
binary_operand by.Min left right first second = call_operand word.Min (left ++ (symbol sign.Comma ∷ right)) (comma_operands left right first second)
binary_operand by.Max left right first second = call_operand word.Max (left ++ (symbol sign.Comma ∷ right)) (comma_operands left right first second)
binary_operand by.Add left right first second = infix_operand by.Add left right first second
binary_operand by.Sub left right first second = infix_operand by.Sub left right first second
binary_operand by.Mul left right first second = infix_operand by.Mul left right first second
binary_operand by.Slash left right first second = infix_operand by.Slash left right first second
binary_operand by.Div left right first second = infix_operand by.Div left right first second
binary_operand by.Mod left right first second = infix_operand by.Mod left right first second
binary_operand by.Eq left right first second = infix_operand by.Eq left right first second
binary_operand by.Ne left right first second = infix_operand by.Ne left right first second
binary_operand by.Lt left right first second = infix_operand by.Lt left right first second
binary_operand by.Le left right first second = infix_operand by.Le left right first second
binary_operand by.Gt left right first second = infix_operand by.Gt left right first second
binary_operand by.Ge left right first second = infix_operand by.Ge left right first second
binary_operand by.And left right first second = infix_operand by.And left right first second
binary_operand by.Or left right first second = infix_operand by.Or left right first second

-- The tokens of every expression are an operand.
phrase_operand : (some : Phrase) → IsOperand (phrase_tokens some)
phrase_operand (phrase.Number digits decimals) = number_operand digits decimals
phrase_operand (phrase.Truth told) = keyword_operand (truth_word told)
phrase_operand (phrase.Var name) = name_operand name
phrase_operand phrase.Time = keyword_operand word.Time
phrase_operand phrase.Step = keyword_operand word.Length
phrase_operand (phrase.Parens inner) = parens_operand (phrase_tokens inner) (phrase_operand inner)
phrase_operand (phrase.Unary op arg) = unary_operand op (phrase_tokens arg) (phrase_operand arg)
phrase_operand (phrase.Binary op left right) = binary_operand op (phrase_tokens left) (phrase_tokens right) (phrase_operand left) (phrase_operand right)
phrase_operand (phrase.Clamp value low high) =
    let bounds = comma_operands (phrase_tokens low) (phrase_tokens high) (phrase_operand low) (phrase_operand high) in
    call_operand word.Clamp (phrase_tokens value ++ (symbol sign.Comma ∷ phrase_tokens low ++ (symbol sign.Comma ∷ phrase_tokens high)))
    (comma_operands (phrase_tokens value) (phrase_tokens low ++ (symbol sign.Comma ∷ phrase_tokens high)) (phrase_operand value) bounds)
phrase_operand (phrase.Choose condition then_part else_part) =
    let branches =
    both_operands (phrase_tokens then_part) (phrase_tokens else_part) (keyword word.Else) (keyword_separates word.Else) (phrase_operand then_part)
    (phrase_operand else_part) in
    let tokens = phrase_tokens condition ++ (keyword word.Then ∷ phrase_tokens then_part ++ (keyword word.Else ∷ phrase_tokens else_part)) in
    behind_first (keyword word.If) tokens (keyword_separates word.If) refl
    (both_operands (phrase_tokens condition) (phrase_tokens then_part ++ (keyword word.Else ∷ phrase_tokens else_part)) (keyword word.Then)
    (keyword_separates word.Then) (phrase_operand condition) branches)
phrase_operand phrase.Absent = keyword_operand word.Absent
phrase_operand (phrase.Present name) = call_operand word.Present (token.Name name ∷ []) (name_operand name)

-- A number with its sign is an operand.
signed_operand : (negative : Bool) (digits decimals : ℕ) → IsOperand (sign_tokens negative ++ (token.Number digits decimals ∷ []))
signed_operand true digits decimals =
    behind_first (symbol sign.Minus) (token.Number digits decimals ∷ []) (symbol_separates sign.Minus refl) refl (number_operand digits decimals)
signed_operand false digits decimals = number_operand digits decimals

-- A literal is one.
literal_operand : (value : Literal) → IsOperand (literal_tokens value)
literal_operand (literal.Truth told) = keyword_operand (truth_word told)
literal_operand (literal.Number number decimals) = signed_operand (is_negative number) (unsigned_abs number) decimals

-- A canonical expression is one.
expression_operand : (value : Expr) → IsOperand (expression_tokens value)
expression_operand value = phrase_operand (canonical_phrase value)

-- A type is one.
type_operand : (ty : Ty) → IsOperand (type_tokens ty)
type_operand types.Int8 = name_operand _
type_operand types.UInt8 = name_operand _
type_operand types.Int16 = name_operand _
type_operand types.UInt16 = name_operand _
type_operand types.Int32 = name_operand _
type_operand types.UInt32 = name_operand _
type_operand types.Int64 = name_operand _
type_operand types.Bool = name_operand _
type_operand (types.Fixed decimals) = record { apart = λ behind apart no_point. rw no_point apart; other = λ behind. refl }

-- ---- Lines

-- A declaration needs no blank before any token but a point.
declaration_apart : (declared : Keyword) (name : List ℕ) (ty : Ty) (behind : List Token) → are_apart behind ≡ true → starts_with is_point behind ≡ false
    → are_apart (declaration declared name ty ++ behind) ≡ true
declaration_apart declared name ty behind apart no_point =
    let operand = type_operand ty in
    before_other sign.Colon (type_tokens ty ++ behind) (operand.other behind) (operand.apart behind apart no_point)

-- Names with commas need no blank before tokens that are apart themselves.
names_apart : (names : List (List ℕ)) (behind : List Token) → are_apart behind ≡ true → are_apart (names_tokens names ++ behind) ≡ true
names_apart [] behind apart = apart
names_apart (name ∷ []) behind apart = apart
names_apart (name ∷ next ∷ names) behind apart = before_any sign.Comma (names_tokens (next ∷ names) ++ behind) refl (names_apart (next ∷ names) behind apart)

-- So do the names in the needs, with their keyword.
needs_apart : (names : List (List ℕ)) (behind : List Token) → are_apart behind ≡ true → are_apart (needs_tokens names ++ behind) ≡ true
needs_apart [] behind apart = apart
needs_apart (name ∷ names) behind apart = names_apart (name ∷ names) behind apart

-- The tokens of needs don't begin with a point.
needs_no_point : (names : List (List ℕ)) (behind : List Token) → starts_with is_point behind ≡ false
    → starts_with is_point (needs_tokens names ++ behind) ≡ false
needs_no_point [] behind no_point = no_point
needs_no_point (name ∷ names) behind no_point = refl

-- A value after `=`.
given_apart : (tokens : List Token) → IsOperand tokens → are_apart (equals ++ tokens) ≡ true
given_apart tokens operand = before_other sign.Is tokens (operand_other tokens operand) (operand_apart tokens operand)

-- A declaration with its value needs no blanks.
declared_with : (declared : Keyword) (name : List ℕ) (ty : Ty) (value : List Token) → IsOperand value
    → are_apart (declaration declared name ty ++ equals ++ value) ≡ true
declared_with declared name ty value operand =
    ap are_apart (append_assoc (declaration declared name ty) equals value)
    ∙ declaration_apart declared name ty (equals ++ value) (given_apart value operand) refl

-- So does a declaration with its needs.
declared_needing : (declared : Keyword) (name : List ℕ) (ty : Ty) (needs : List (List ℕ)) (value : List Token) → IsOperand value
    → are_apart (declaration declared name ty ++ needs_tokens needs ++ equals ++ value) ≡ true
declared_needing declared name ty needs value operand =
    let front = declaration declared name ty in
    ap are_apart (append_assoc (front ++ needs_tokens needs) equals value ∙ append_assoc front (needs_tokens needs) (equals ++ value))
    ∙ declaration_apart declared name ty (needs_tokens needs ++ (equals ++ value)) (needs_apart needs (equals ++ value) (given_apart value operand))
    (needs_no_point needs (equals ++ value) refl)

-- The tokens of every canonical line need no blanks between them.
pub form_is_apart : (some : LineForm) → are_apart (form_tokens some) ≡ true
form_is_apart (form.Header version) = refl
form_is_apart (form.Unit name) = refl
form_is_apart (form.Resolution decimals) = refl
form_is_apart (form.Param param) = declared_with word.Param param.name param.ty (literal_tokens param.start) (literal_operand param.start)
form_is_apart (form.State state) = declared_with word.State state.name state.ty (literal_tokens state.start) (literal_operand state.start)
form_is_apart (form.Local local) = declaration_apart word.Local local.name local.ty [] refl refl
form_is_apart (form.Input input) = declared_with word.Input input.name input.ty (literal_tokens input.start) (literal_operand input.start)
form_is_apart (form.EventInput event) = declaration_apart word.Input event.name event.ty [] refl refl
form_is_apart (form.Output output) =
    declared_needing word.Output output.name output.ty output.needs (expression_tokens output.value) (expression_operand output.value)
form_is_apart (form.EventOutput event) =
    declared_needing word.Output event.name event.ty event.needs (expression_tokens event.value) (expression_operand event.value)
form_is_apart (form.Max value) = operand_apart (expression_tokens value) (expression_operand value)
form_is_apart form.Step = refl
form_is_apart form.End = refl
form_is_apart (form.Assign target value) =
    before_any sign.Assign (expression_tokens value) refl (operand_apart (expression_tokens value) (expression_operand value))
form_is_apart (form.If condition) = operand_apart (expression_tokens condition) (expression_operand condition)
form_is_apart form.Else = refl
form_is_apart (form.Repeat count) = refl
form_is_apart (form.Accept value) = operand_apart (expression_tokens value) (expression_operand value)
form_is_apart (form.Instance name unit) = refl
form_is_apart (form.Setting setting) = given_apart (literal_tokens setting.value) (literal_operand setting.value)
form_is_apart (form.Connect wire) = refl
form_is_apart (form.Stop seconds) = operand_apart (literal_tokens seconds) (literal_operand seconds)
form_is_apart (form.Longest seconds) = operand_apart (literal_tokens seconds) (literal_operand seconds)
form_is_apart (form.Zero count) = refl
form_is_apart (form.Rows count) = refl
form_is_apart (form.Sample port) = refl
