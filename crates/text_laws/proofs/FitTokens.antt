-- The tokens of canonical lines: their names are names, and their numbers fit.
use Rattle.std.proofs.Common.{◌≡◌, ℕ, ◌^◌, ◌≤◌, Bool, true, false, not, cond, ◌&&◌, ℤ, pos, negsuc, nat_le, List, [], ◌∷◌, ◌++◌, codes, IsTrue, refl, sym}
use Rattle.std.proofs.Common.{subst, ◌∙◌, arith, append_assoc}
use Rattle.std.specs.Int.{is_negative}
use Rattle.std.specs.List.{AllByRecursion}
use Rattle.std.specs.Prelude.{⊤, unsigned_abs}
use Rattle.std.proofs.lemmas.Bool.{and_parts}
use Rattle.std.proofs.lemmas.Bool.Decides.{nat_tests}
use Rattle.fixed_words.specs.Types.{is_word_of, AreDecimals}
use Rattle.fixed_words.specs.declared.types.Literal.{Literal}
use Rattle.fixed_words.specs.declared.types.Literal.TheVariants as literal
use Rattle.fixed_words.specs.declared.types.Ty.{Ty}
use Rattle.fixed_words.specs.declared.types.Ty.TheVariants as types
use Rattle.unit_tree.specs.Canonical.{placed, node_phrase, canonical_phrase, expression_tokens, literal_tokens, tail_tokens, form_tokens}
use Rattle.unit_tree.specs.LineForms.{Tail, Nothing, OfLiteral, OfSeconds, OfExpression, tail_of, AreCountsInRange, type_tokens, declaration, names_tokens}
use Rattle.unit_tree.specs.LineForms.{needs_tokens, equals, sign_tokens, front_tokens}
use Rattle.unit_tree.specs.Names.{node_names, names_in, expression_in, expression_on}
use Rattle.unit_tree.specs.Phrases as phrase
use Rattle.unit_tree.specs.Phrases.{Phrase, Level, level_of, operand_level, left_level, right_level, unary_level, binary_level, allows, nesting, keyword}
use Rattle.unit_tree.specs.Phrases.{symbol, whole, in_parens, unary_tokens, operation, binary_tokens, phrase_tokens}
use Rattle.unit_tree.specs.Printable.{node_is_unsigned, is_unsigned, is_writable, is_word_literal, is_seconds, IsLiteralInRange, IsTailInRange, IsInRange}
use Rattle.unit_tree.specs.Printable.{names_said, names_on, names_on_expression}
use Rattle.unit_tree.specs.Tokens.{IsName}
use Rattle.unit_tree.specs.Values.{node_is_ranged, is_ranged, unary_is_ranged}
use Rattle.unit_tree.specs.declared.expr.BinOp.{BinOp}
use Rattle.unit_tree.specs.declared.expr.BinOp.TheVariants as by
use Rattle.unit_tree.specs.declared.expr.UnOp.{UnOp}
use Rattle.unit_tree.specs.declared.expr.UnOp.TheVariants as of
use Rattle.unit_tree.specs.declared.expr.Expr as expr
use Rattle.unit_tree.specs.declared.expr.Expr.{Expr}
use Rattle.unit_tree.specs.declared.expr.Expr.TheVariants.{rolls-Number, rolls-Truth, rolls-Var, rolls-Time, rolls-Step, rolls-Unary, rolls-Binary, rolls-Clamp}
use Rattle.unit_tree.specs.declared.expr.Expr.TheVariants.{rolls-Choose, rolls-Absent, rolls-Present}
use Rattle.unit_tree.specs.declared.expr.Expr.TheFolds.{ind-Expr, map-Expr}
use Rattle.unit_tree.specs.declared.expr.Expr.TheViews.{roll-Expr}
use Rattle.unit_tree.specs.declared.expr.Expr.TheOpen.{Expr-F}
use Rattle.unit_tree.specs.declared.line_form.LineForm.{LineForm}
use Rattle.unit_tree.specs.declared.line_form.LineForm.TheVariants as form
use Rattle.unit_tree.specs.declared.token.Keyword.{Keyword}
use Rattle.unit_tree.specs.declared.token.Keyword.TheVariants as word
use Rattle.unit_tree.specs.declared.token.Symbol.TheVariants as sign
use Rattle.unit_tree.specs.declared.token.Token.{Token}
use Rattle.unit_tree.specs.declared.token.Token.TheVariants as token
use Rattle.unit_tree.proofs.FoldLemmas.{fold-Number, fold-Truth, fold-Var, fold-Time, fold-Step, fold-Unary, fold-Binary, fold-Clamp, fold-Choose, fold-Absent}
use Rattle.unit_tree.proofs.FoldLemmas.{fold-Present}
use Rattle.text_tokens.specs.Scanning.{keyword_of}
use Rattle.text_tokens.proofs.TableLemmas.{keyword_of_none}
use Rattle.list_laws.proofs.Lists.{each_part, each_append}

-- ---- Tokens that fit

-- A name is one, and a number has no more digits and decimals than the language allows.
abbrev pub IsFit : Token → Type 0
IsFit (token.Name name) = IsName name
IsFit (token.Number digits decimals) = (digits ≤ 2 ^ 63) × (decimals ≤ 9)
IsFit _ = ⊤

-- Each of the tokens fits.
abbrev pub AreFit : List Token → Type 0
AreFit tokens = AllByRecursion IsFit tokens

-- Each of the texts is a name.
abbrev pub AreNames : List (List ℕ) → Type 0
AreNames names = AllByRecursion IsName names

-- Two lists of tokens in a row fit where each does.
both_fit : (tokens others : List Token) → AreFit tokens → AreFit others → AreFit (tokens ++ others)
both_fit tokens others = each_append IsFit tokens others

-- ---- Expressions

-- The token of an operation fits.
operation_fits : (op : BinOp) → IsFit (operation op)
operation_fits by.Add = _
operation_fits by.Sub = _
operation_fits by.Mul = _
operation_fits by.Slash = _
operation_fits by.Div = _
operation_fits by.Mod = _
operation_fits by.Eq = _
operation_fits by.Ne = _
operation_fits by.Lt = _
operation_fits by.Le = _
operation_fits by.Gt = _
operation_fits by.Ge = _
operation_fits by.And = _
operation_fits by.Or = _
operation_fits by.Min = _
operation_fits by.Max = _

-- Tokens that fit do in parentheses.
parens_fit : (inner : List Token) → AreFit inner → AreFit (in_parens inner)
parens_fit inner fit = (_, both_fit inner (symbol sign.Close ∷ []) fit _)

-- So do two lists of tokens with a token between them.
between_fit : (left right : List Token) (between : Token) → IsFit between → AreFit left → AreFit right → AreFit (left ++ (between ∷ right))
between_fit left right between middle first second = both_fit left (between ∷ right) first (middle, second)

-- So do two lists of tokens in parentheses, with a comma between them.
call_fit : (left right : List Token) → AreFit left → AreFit right → AreFit (in_parens (left ++ (symbol sign.Comma ∷ right)))
call_fit left right first second = parens_fit (left ++ (symbol sign.Comma ∷ right)) (between_fit left right (symbol sign.Comma) _ first second)

-- A count of decimals that is allowed is small.
few_decimals : (decimals : ℕ) → nat_le decimals 9 ≡ true → (decimals ≤ 2 ^ 63) × (decimals ≤ 9)
few_decimals decimals few = (grind (arith, nat_tests), grind (arith, nat_tests))

-- A whole number fits where it is at most 2^63.
whole_fits : (digits : ℕ) → digits ≤ 2 ^ 63 → IsFit (whole digits)
whole_fits digits bounded = (bounded, omega arith)

-- The tokens of an operation on one operand fit where those of the operand do.
unary_fit : (op : UnOp) (arg : List Token) → unary_is_ranged op ≡ true → AreFit arg → AreFit (unary_tokens op arg)
unary_fit of.Neg arg ranged fit = (_, fit)
unary_fit of.Not arg ranged fit = (_, fit)
unary_fit of.Abs arg ranged fit = (_, parens_fit arg fit)
unary_fit of.ToInt arg ranged fit = (_, parens_fit arg fit)
unary_fit (of.ToFix decimals) arg ranged fit = (_, (whole_fits decimals (few_decimals decimals ranged).0, parens_fit arg fit))

-- So do those of an operation on two operands.
binary_fit : (op : BinOp) (left right : List Token) → AreFit left → AreFit right → AreFit (binary_tokens op left right)
binary_fit by.Min left right first second = (_, call_fit left right first second)
binary_fit by.Max left right first second = (_, call_fit left right first second)
binary_fit by.Add left right first second = between_fit left right (operation by.Add) _ first second
binary_fit by.Sub left right first second = between_fit left right (operation by.Sub) _ first second
binary_fit by.Mul left right first second = between_fit left right (operation by.Mul) _ first second
binary_fit by.Slash left right first second = between_fit left right (operation by.Slash) _ first second
binary_fit by.Div left right first second = between_fit left right (operation by.Div) _ first second
binary_fit by.Mod left right first second = between_fit left right (operation by.Mod) _ first second
binary_fit by.Eq left right first second = between_fit left right (operation by.Eq) _ first second
binary_fit by.Ne left right first second = between_fit left right (operation by.Ne) _ first second
binary_fit by.Lt left right first second = between_fit left right (operation by.Lt) _ first second
binary_fit by.Le left right first second = between_fit left right (operation by.Le) _ first second
binary_fit by.Gt left right first second = between_fit left right (operation by.Gt) _ first second
binary_fit by.Ge left right first second = between_fit left right (operation by.Ge) _ first second
binary_fit by.And left right first second = between_fit left right (operation by.And) _ first second
binary_fit by.Or left right first second = between_fit left right (operation by.Or) _ first second

-- Parentheses don't change this.
placed_by : (allowed : Bool) (inner : Phrase) → AreFit (phrase_tokens inner) → AreFit (phrase_tokens (cond allowed inner (phrase.Parens inner)))
placed_by true inner fit = fit
placed_by false inner fit = parens_fit (phrase_tokens inner) fit

-- The tokens of an expression fit in every place.
placed_fit : (asked : Level) (inner : Phrase) → AreFit (phrase_tokens inner) → AreFit (phrase_tokens (placed asked inner))
placed_fit asked inner = placed_by (allows asked (level_of inner)) inner

-- The magnitude of a word.
magnitude_fits : (number : ℤ) → is_word_of types.Int64 number ≡ true → unsigned_abs number ≤ 2 ^ 63
magnitude_fits (pos n) fits = grind (arith, nat_tests)
magnitude_fits (negsuc n) fits = grind (arith, nat_tests)

-- The names of the expression are names, and its numbers are in range.
record IsPlain (value : Expr) : Type 0 where
  names : AreNames (names_in value)
  ranged : is_ranged value ≡ true
  unsigned : is_unsigned value ≡ true

-- The tokens of an expression fit, if it has such names and numbers.
abbrev Claim : Expr → Type 0
Claim value = IsPlain value → AreFit (expression_tokens value)

-- An expression for which this is proved.
abbrev Proved : Type 0
Proved = (value : Expr) × Claim value

-- The expression of a pair.
abbrev bare : Proved → Expr
bare value = value.0

-- It is true for a number.
fit-Number : (number : ℤ) (decimals : ℕ) → Claim (expr.Number number decimals)
fit-Number number decimals is =
    let few : nat_le decimals 9 ≡ true = sym (fold-Number Bool node_is_ranged number decimals) ∙ is.ranged in
    let fits = and_parts (not (is_negative number)) (is_word_of types.Int64 number) (sym (fold-Number Bool node_is_unsigned number decimals) ∙ is.unsigned) in
    subst (λ p. AreFit (phrase_tokens p)) (sym (fold-Number Phrase node_phrase number decimals))
    ((magnitude_fits number fits.1, (few_decimals decimals few).1), _)

-- It is true for a name.
fit-Var : (name : List ℕ) → Claim (expr.Var name)
fit-Var name is =
    let names = subst AreNames (fold-Var (List (List ℕ)) node_names name) is.names in
    subst (λ p. AreFit (phrase_tokens p)) (sym (fold-Var Phrase node_phrase name)) (names.0, _)

-- It is true for `present`.
fit-Present : (name : List ℕ) → Claim (expr.Present name)
fit-Present name is =
    let names = subst AreNames (fold-Present (List (List ℕ)) node_names name) is.names in
    subst (λ p. AreFit (phrase_tokens p)) (sym (fold-Present Phrase node_phrase name)) (_, parens_fit (token.Name name ∷ []) (names.0, _))

-- It is true for an operation on one operand.
fit-Unary : (op : UnOp) (arg : Expr) → Claim arg → Claim (expr.Unary op arg)
fit-Unary op arg given is =
    let ranged = and_parts (unary_is_ranged op) (is_ranged arg) (sym (fold-Unary Bool node_is_ranged op arg) ∙ is.ranged) in
    let inner = placed (operand_level (unary_level op)) (canonical_phrase arg) in
    let fit =
    given (record {
      names = subst AreNames (fold-Unary (List (List ℕ)) node_names op arg) is.names;
      ranged = ranged.1;
      unsigned = sym (fold-Unary Bool node_is_unsigned op arg)
          ∙ is.unsigned;
    }) in
    subst (λ p. AreFit (phrase_tokens p)) (sym (fold-Unary Phrase node_phrase op arg))
    (unary_fit op (phrase_tokens inner) ranged.0 (placed_fit (operand_level (unary_level op)) (canonical_phrase arg) fit))

-- Both parts have such names and numbers where the whole has.
two_plain : (left right : Expr) → AreNames (names_in left ++ names_in right) → (is_ranged left && is_ranged right) ≡ true
    → (is_unsigned left && is_unsigned right) ≡ true → IsPlain left × IsPlain right
two_plain left right names ranged unsigned =
    let n = each_part IsName (names_in left) (names_in right) names in
    let r = and_parts (is_ranged left) (is_ranged right) ranged in
    let u = and_parts (is_unsigned left) (is_unsigned right) unsigned in
    (record { names = n.0; ranged = r.0; unsigned = u.0 }, record { names = n.1; ranged = r.1; unsigned = u.1 })

-- It is true for an operation on two operands.
fit-Binary : (op : BinOp) (left right : Expr) → Claim left → Claim right → Claim (expr.Binary op left right)
fit-Binary op left right on_left on_right is =
    let plain =
    two_plain left right (subst AreNames (fold-Binary (List (List ℕ)) node_names op left right) is.names)
    (sym (fold-Binary Bool node_is_ranged op left right) ∙ is.ranged) (sym (fold-Binary Bool node_is_unsigned op left right) ∙ is.unsigned) in
    let first = placed_fit (left_level (binary_level op)) (canonical_phrase left) (on_left plain.0) in
    let second = placed_fit (right_level (binary_level op)) (canonical_phrase right) (on_right plain.1) in
    subst (λ p. AreFit (phrase_tokens p)) (sym (fold-Binary Phrase node_phrase op left right))
    (binary_fit op (phrase_tokens (placed (left_level (binary_level op)) (canonical_phrase left)))
    (phrase_tokens (placed (right_level (binary_level op)) (canonical_phrase right))) first second)

-- All three parts have such names and numbers where the whole has.
three_plain : (one two three : Expr) → AreNames (names_in one ++ names_in two ++ names_in three)
    → (is_ranged one && (is_ranged two && is_ranged three)) ≡ true → (is_unsigned one && (is_unsigned two && is_unsigned three)) ≡ true
    → IsPlain one × IsPlain two × IsPlain three
three_plain one two three names ranged unsigned =
    let n = each_part IsName (names_in one) (names_in two ++ names_in three)
    (subst AreNames (append_assoc (names_in one) (names_in two) (names_in three)) names) in
    let r = and_parts (is_ranged one) (is_ranged two && is_ranged three) ranged in
    let u = and_parts (is_unsigned one) (is_unsigned two && is_unsigned three) unsigned in
    let others = two_plain two three n.1 r.1 u.1 in
    (record { names = n.0; ranged = r.0; unsigned = u.0 }, others.0, others.1)

-- It is true for `clamp`.
fit-Clamp : (value low high : Expr) → Claim value → Claim low → Claim high → Claim (expr.Clamp value low high)
fit-Clamp value low high on_value on_low on_high is =
    let plain =
    three_plain value low high (subst AreNames (fold-Clamp (List (List ℕ)) node_names value low high) is.names)
    (sym (fold-Clamp Bool node_is_ranged value low high) ∙ is.ranged) (sym (fold-Clamp Bool node_is_unsigned value low high) ∙ is.unsigned) in
    let bounds = between_fit (expression_tokens low) (expression_tokens high) (symbol sign.Comma) _ (on_low plain.1) (on_high plain.2) in
    subst (λ p. AreFit (phrase_tokens p)) (sym (fold-Clamp Phrase node_phrase value low high))
    (_, call_fit (expression_tokens value) (expression_tokens low ++ (symbol sign.Comma ∷ expression_tokens high)) (on_value plain.0) bounds)

-- It is true for a choice.
fit-Choose : (condition chosen other : Expr) → Claim condition → Claim chosen → Claim other → Claim (expr.Choose condition chosen other)
fit-Choose condition chosen other on_condition on_chosen on_other is =
    let plain =
    three_plain condition chosen other (subst AreNames (fold-Choose (List (List ℕ)) node_names condition chosen other) is.names)
    (sym (fold-Choose Bool node_is_ranged condition chosen other) ∙ is.ranged)
    (sym (fold-Choose Bool node_is_unsigned condition chosen other) ∙ is.unsigned) in
    let branches = between_fit (expression_tokens chosen) (expression_tokens other) (keyword word.Else) _ (on_chosen plain.1) (on_other plain.2) in
    subst (λ p. AreFit (phrase_tokens p)) (sym (fold-Choose Phrase node_phrase condition chosen other)) (
      _,
      between_fit (expression_tokens condition) (expression_tokens chosen ++ (keyword word.Else ∷ expression_tokens other)) (keyword word.Then) _
          (on_condition plain.0) branches,
    )

-- It is true for each node, if it is for its parts.
node : (y : Expr-F Proved) → Claim (roll-Expr (map-Expr Proved Expr bare y))
node (Expr-F.Number number decimals) = subst Claim (sym (rolls-Number number decimals)) (fit-Number number decimals)
node (Expr-F.Truth told) = subst Claim (sym (rolls-Truth told)) (λ is. subst (λ p. AreFit (phrase_tokens p)) (sym (fold-Truth Phrase node_phrase told)) _)
node (Expr-F.Var name) = subst Claim (sym (rolls-Var name)) (fit-Var name)
node Expr-F.Time = subst Claim (sym rolls-Time) (λ is. subst (λ p. AreFit (phrase_tokens p)) (sym (fold-Time Phrase node_phrase)) _)
node Expr-F.Step = subst Claim (sym rolls-Step) (λ is. subst (λ p. AreFit (phrase_tokens p)) (sym (fold-Step Phrase node_phrase)) _)
node (Expr-F.Unary op arg) = subst Claim (sym (rolls-Unary op (bare arg))) (fit-Unary op (bare arg) arg.1)
node (Expr-F.Binary op left right) = subst Claim (sym (rolls-Binary op (bare left) (bare right))) (fit-Binary op (bare left) (bare right) left.1 right.1)
node (Expr-F.Clamp value low high) =
    subst Claim (sym (rolls-Clamp (bare value) (bare low) (bare high))) (fit-Clamp (bare value) (bare low) (bare high) value.1 low.1 high.1)
node (Expr-F.Choose condition then_part else_part) =
    subst Claim (sym (rolls-Choose (bare condition) (bare then_part) (bare else_part)))
    (fit-Choose (bare condition) (bare then_part) (bare else_part) condition.1 then_part.1 else_part.1)
node Expr-F.Absent = subst Claim (sym rolls-Absent) (λ is. subst (λ p. AreFit (phrase_tokens p)) (sym (fold-Absent Phrase node_phrase)) _)
node (Expr-F.Present name) = subst Claim (sym (rolls-Present name)) (fit-Present name)

-- It is true for every expression.
expression_fits : (value : Expr) → IsPlain value → AreFit (expression_tokens value)
expression_fits = ind-Expr Claim (λ x y is. subst (λ z. Claim (roll-Expr z)) is (node y))

-- ---- The first tokens of a line

-- The tokens of a type fit: its name is not reserved.
type_fits : (ty : Ty) → AreDecimals ty → AreFit (type_tokens ty)
unfolding keyword_of
type_fits types.Int8 few = (((refl, refl, omega arith), keyword_of_none (codes "Int8") refl), _)
type_fits types.UInt8 few = (((refl, refl, omega arith), keyword_of_none (codes "UInt8") refl), _)
type_fits types.Int16 few = (((refl, refl, omega arith), keyword_of_none (codes "Int16") refl), _)
type_fits types.UInt16 few = (((refl, refl, omega arith), keyword_of_none (codes "UInt16") refl), _)
type_fits types.Int32 few = (((refl, refl, omega arith), keyword_of_none (codes "Int32") refl), _)
type_fits types.UInt32 few = (((refl, refl, omega arith), keyword_of_none (codes "UInt32") refl), _)
type_fits types.Int64 few = (((refl, refl, omega arith), keyword_of_none (codes "Int64") refl), _)
type_fits types.Bool few = (((refl, refl, omega arith), keyword_of_none (codes "Bool") refl), _)
type_fits (types.Fixed decimals) few = (((refl, refl, omega arith), keyword_of_none (codes "Fixed") refl), (whole_fits decimals (omega arith), _))

-- The tokens of a declaration fit.
declaration_fits : (declared : Keyword) (name : List ℕ) (ty : Ty) → IsName name → AreDecimals ty → AreFit (declaration declared name ty)
declaration_fits declared name ty is_name few = (_, (is_name, (_, type_fits ty few)))

-- They fit with `=` after them.
given_fits : (declared : Keyword) (name : List ℕ) (ty : Ty) → IsName name → AreDecimals ty → AreFit (declaration declared name ty ++ equals)
given_fits declared name ty is_name few = both_fit (declaration declared name ty) equals (declaration_fits declared name ty is_name few) _

-- Names with commas fit.
names_fit : (names : List (List ℕ)) → AreNames names → AreFit (names_tokens names)
names_fit [] are = _
names_fit (name ∷ []) are = (are.0, _)
names_fit (name ∷ next ∷ names) are = (are.0, (_, names_fit (next ∷ names) are.1))

-- The names in the needs fit, with their keyword.
needs_fit : (names : List (List ℕ)) → AreNames names → AreFit (needs_tokens names)
needs_fit [] are = _
needs_fit (name ∷ names) are = (_, names_fit (name ∷ names) are)

-- The tokens of a declaration with its needs fit.
needing_fits : (declared : Keyword) (name : List ℕ) (ty : Ty) (needs : List (List ℕ)) → IsName name → AreNames needs → AreDecimals ty
    → AreFit (declaration declared name ty ++ needs_tokens needs ++ equals)
needing_fits declared name ty needs is_name are few =
    let front = declaration declared name ty in
    both_fit (front ++ needs_tokens needs) equals (both_fit front (needs_tokens needs) (declaration_fits declared name ty is_name few) (needs_fit needs are)) _

-- The tokens before a literal or an expression fit.
front_fits : (some : LineForm) → AreNames (names_said some) → AreCountsInRange some → AreFit (front_tokens some)
front_fits (form.Header version) names counts = (_, (whole_fits version (omega (arith, counts.1)), _))
front_fits (form.Unit name) names counts = (_, (names.0, _))
front_fits (form.Resolution decimals) names counts = (_, (whole_fits decimals (omega arith), _))
front_fits (form.Param param) names counts = given_fits word.Param param.name param.ty names.0 counts
front_fits (form.State state) names counts = given_fits word.State state.name state.ty names.0 counts
front_fits (form.Local local) names counts = declaration_fits word.Local local.name local.ty names.0 counts
front_fits (form.Input input) names counts = given_fits word.Input input.name input.ty names.0 counts
front_fits (form.EventInput event) names counts = (_, declaration_fits word.Input event.name event.ty names.0 counts)
front_fits (form.Output output) names counts = needing_fits word.Output output.name output.ty output.needs names.0 names.1 counts
front_fits (form.EventOutput event) names counts = (_, needing_fits word.Output event.name event.ty event.needs names.0 names.1 counts)
front_fits (form.Max value) names counts = _
front_fits form.Step names counts = _
front_fits form.End names counts = _
front_fits (form.Assign target value) names counts = (names.0, _)
front_fits (form.If condition) names counts = _
front_fits form.Else names counts = _
front_fits (form.Repeat count) names counts = (_, (whole_fits count (omega (arith, counts.1)), _))
front_fits (form.Accept value) names counts = _
front_fits (form.Instance name unit) names counts = (_, (names.0, (_, (names.1.0, _))))
front_fits (form.Setting setting) names counts = (names.0, _)
front_fits (form.Connect wire) names counts = (_, (names.0, (_, (names.1.0, (_, (names.1.1.0, (_, (names.1.1.1.0, _))))))))
front_fits (form.Stop seconds) names counts = _
front_fits (form.Longest seconds) names counts = _
front_fits (form.Zero count) names counts = (_, (whole_fits count (omega arith), _))
front_fits (form.Rows count) names counts = (_, (whole_fits count (omega (arith, counts.1)), _))
front_fits (form.Sample port) names counts = (_, (names.0, (_, (names.1.0, _))))

-- ---- Tails

-- A number with its sign fits.
signed_fits : (negative : Bool) (digits decimals : ℕ) → digits ≤ 2 ^ 63 → decimals ≤ 9 → AreFit (sign_tokens negative ++ (token.Number digits decimals ∷ []))
signed_fits true digits decimals bounded few = (_, ((bounded, few), _))
signed_fits false digits decimals bounded few = ((bounded, few), _)

-- A literal fits.
literal_fits : (value : Literal) → IsLiteralInRange value → is_word_literal value ≡ true → AreFit (literal_tokens value)
literal_fits (literal.Truth told) few fits = _
literal_fits (literal.Number number decimals) few fits = signed_fits (is_negative number) (unsigned_abs number) decimals (magnitude_fits number fits) few

-- A number of seconds fits.
seconds_fit : (value : Literal) → IsLiteralInRange value → is_seconds value ≡ true → AreFit (literal_tokens value)
seconds_fit (literal.Truth told) few fits = _
seconds_fit (literal.Number number decimals) few fits =
    literal_fits (literal.Number number decimals) few (and_parts (not (is_negative number)) (is_word_of types.Int64 number) fits).1

-- The tokens of a tail fit.
tail_fits : (tail : Tail) → AreNames (names_on_expression (expression_in tail)) → IsTailInRange tail → is_writable tail ≡ true → AreFit (tail_tokens tail)
tail_fits Nothing names ranged writable = _
tail_fits (OfLiteral value) names ranged writable = literal_fits value ranged writable
tail_fits (OfSeconds seconds) names ranged writable = seconds_fit seconds ranged writable
tail_fits (OfExpression value) names ranged writable =
    let unsigned = and_parts (is_unsigned value) (nat_le (nesting (canonical_phrase value)) 64) writable in
    expression_fits value (record { names = names; ranged = ranged; unsigned = unsigned.0 })

-- The tokens of a line fit where its names are names and its numbers are in range.
pub form_fits : (some : LineForm) → AllByRecursion IsName (names_on some) → IsInRange some → IsTrue (is_writable (tail_of some)) → AreFit (form_tokens some)
form_fits some names ranged writable =
    let parts = each_part IsName (names_said some) (names_on_expression (expression_on some)) names in
    both_fit (front_tokens some) (tail_tokens (tail_of some)) (front_fits some parts.0 ranged.0) (tail_fits (tail_of some) parts.1 ranged.1 writable)
