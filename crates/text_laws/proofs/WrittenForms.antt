-- A form that a line has can be printed: its names are names, its numbers are in range, and its tail can be written.
use Rattle.std.proofs.Common.{◌≡◌, ℕ, ◌<◌, ◌≤◌, ◌^◌, Bool, true, false, pos, List, [], ◌∷◌, ◌++◌, refl, ap, sym, subst, ◌∙◌, arith}
use Rattle.std.specs.List.{AllByRecursion}
use Rattle.std.proofs.lemmas.Bool.Decides.{nat_tests}
use Rattle.fixed_words.specs.declared.types.Literal.{Literal}
use Rattle.fixed_words.specs.declared.types.Literal.TheVariants as literal
use Rattle.fixed_words.specs.declared.types.Ty.{Ty}
use Rattle.unit_tree.specs.LineForms.{Tail, Nothing, OfLiteral, OfSeconds, OfExpression, front_tokens, tail_of, declaration, names_tokens, needs_tokens, equals}
use Rattle.unit_tree.specs.LineForms.{sign_tokens, WritesLiteral, WritesSeconds, WritesTail, WritesForm, HasForm}
use Rattle.unit_tree.specs.Lines.{code_of}
use Rattle.unit_tree.specs.Names.{node_names, names_in, expression_in, expression_on}
use Rattle.unit_tree.specs.Phrases as phrase
use Rattle.unit_tree.specs.Phrases.{Phrase, tree_of, keyword, symbol, in_parens, unary_tokens, operation, call_of_two, binary_tokens, phrase_tokens, Writes}
use Rattle.unit_tree.specs.Printable.{IsInRange, IsTailInRange, is_seconds, is_writable, names_said, names_on, names_on_expression}
use Rattle.unit_tree.specs.Tokens.{IsName, IsSpelling, Spells}
use Rattle.unit_tree.specs.declared.expr.BinOp.{BinOp}
use Rattle.unit_tree.specs.declared.expr.BinOp.TheVariants as by
use Rattle.unit_tree.specs.declared.expr.Expr.{Expr}
use Rattle.unit_tree.specs.declared.expr.UnOp.{UnOp}
use Rattle.unit_tree.specs.declared.expr.UnOp.TheVariants as of
use Rattle.unit_tree.specs.declared.line_form.LineForm.{LineForm}
use Rattle.unit_tree.specs.declared.line_form.LineForm.TheVariants as form
use Rattle.unit_tree.specs.declared.token.Keyword.{Keyword}
use Rattle.unit_tree.specs.declared.token.Keyword.TheVariants as word
use Rattle.unit_tree.specs.declared.token.Symbol.TheVariants as sign
use Rattle.unit_tree.specs.declared.token.Token.{Token}
use Rattle.unit_tree.specs.declared.token.Token.TheVariants as token
use Rattle.unit_tree.proofs.FoldLemmas.{fold-Number, fold-Truth, fold-Var, fold-Time, fold-Step, fold-Unary, fold-Binary, fold-Clamp, fold-Choose, fold-Absent}
use Rattle.unit_tree.proofs.FoldLemmas.{fold-Present}
use Rattle.text_laws.proofs.FitTokens.{IsFit, AreFit, AreNames}
use Rattle.text_laws.proofs.NestingOfPhrases.{expression_is_written}
use Rattle.list_laws.proofs.Lists.{each_part, each_append}

-- ---- Tokens

-- A token that is spelled fits.
spelling_fits : (some : Token) (text : List ℕ) → IsSpelling some text → IsFit some
spelling_fits (token.Keyword spelled) text is = _
spelling_fits (token.Name name) text is = is.1
spelling_fits (token.Number digits decimals) text is = (is.bounded, is.is_fraction.2)
spelling_fits (token.Symbol spelled) text is = _

-- Tokens that are spelled fit.
pub spelled_fit : (tokens : List Token) (line : List ℕ) → Spells tokens line → AreFit tokens
spelled_fit [] line spelled = _
spelled_fit (first ∷ others) line spelled = (spelling_fits first spelled.1.text spelled.1.spelling, spelled_fit others spelled.0 spelled.2)

-- ---- Names of an expression

-- Tokens in parentheses fit.
inside_parens : (tokens : List Token) → AreFit (in_parens tokens) → AreFit tokens
inside_parens tokens fit = (each_part IsFit tokens (symbol sign.Close ∷ []) fit.1).0

-- Two lists of tokens with one between them.
around_one : (left right : List Token) (between : Token) → AreFit (left ++ (between ∷ right)) → AreFit left × AreFit right
around_one left right between fit =
    let parts = each_part IsFit left (between ∷ right) fit in
    (parts.0, parts.1.1)

-- The operand fits.
unary_part : (op : UnOp) (arg : List Token) → AreFit (unary_tokens op arg) → AreFit arg
unary_part of.Neg arg fit = fit.1
unary_part of.Not arg fit = fit.1
unary_part of.Abs arg fit = inside_parens arg fit.1
unary_part of.ToInt arg fit = inside_parens arg fit.1
unary_part (of.ToFix decimals) arg fit = inside_parens arg fit.1.1

-- Both operands of a call fit.
call_parts : (called : Token) (left right : List Token) → AreFit (call_of_two called left right) → AreFit left × AreFit right
call_parts called left right fit = around_one left right (symbol sign.Comma) (inside_parens (left ++ (symbol sign.Comma ∷ right)) fit.1)

-- Both operands of an operation fit.
binary_parts : (op : BinOp) (left right : List Token) → AreFit (binary_tokens op left right) → AreFit left × AreFit right
binary_parts by.Min left right fit = call_parts (operation by.Min) left right fit
binary_parts by.Max left right fit = call_parts (operation by.Max) left right fit
binary_parts by.Add left right fit = around_one left right (operation by.Add) fit
binary_parts by.Sub left right fit = around_one left right (operation by.Sub) fit
binary_parts by.Mul left right fit = around_one left right (operation by.Mul) fit
binary_parts by.Slash left right fit = around_one left right (operation by.Slash) fit
binary_parts by.Div left right fit = around_one left right (operation by.Div) fit
binary_parts by.Mod left right fit = around_one left right (operation by.Mod) fit
binary_parts by.Eq left right fit = around_one left right (operation by.Eq) fit
binary_parts by.Ne left right fit = around_one left right (operation by.Ne) fit
binary_parts by.Lt left right fit = around_one left right (operation by.Lt) fit
binary_parts by.Le left right fit = around_one left right (operation by.Le) fit
binary_parts by.Gt left right fit = around_one left right (operation by.Gt) fit
binary_parts by.Ge left right fit = around_one left right (operation by.Ge) fit
binary_parts by.And left right fit = around_one left right (operation by.And) fit
binary_parts by.Or left right fit = around_one left right (operation by.Or) fit

-- Names of three parts.
three_names : (one two three : List (List ℕ)) → AreNames one → AreNames two → AreNames three → AreNames (one ++ two ++ three)
three_names one two three on_one on_two on_three = each_append IsName (one ++ two) three (each_append IsName one two on_one on_two) on_three

-- The names in the tree of a phrase are names where its tokens fit.
tree_names : (written : Phrase) → AreFit (phrase_tokens written) → AreNames (names_in (tree_of written))
tree_names (phrase.Number digits decimals) fit = subst AreNames (sym (fold-Number (List (List ℕ)) node_names (pos digits) decimals)) _
tree_names (phrase.Truth told) fit = subst AreNames (sym (fold-Truth (List (List ℕ)) node_names told)) _
tree_names (phrase.Var name) fit = subst AreNames (sym (fold-Var (List (List ℕ)) node_names name)) (fit.0, _)
tree_names phrase.Time fit = subst AreNames (sym (fold-Time (List (List ℕ)) node_names)) _
tree_names phrase.Step fit = subst AreNames (sym (fold-Step (List (List ℕ)) node_names)) _
tree_names (phrase.Parens inner) fit = tree_names inner (inside_parens (phrase_tokens inner) fit)
tree_names (phrase.Unary op arg) fit =
    subst AreNames (sym (fold-Unary (List (List ℕ)) node_names op (tree_of arg))) (tree_names arg (unary_part op (phrase_tokens arg) fit))
tree_names (phrase.Binary op left right) fit =
    let both = binary_parts op (phrase_tokens left) (phrase_tokens right) fit in
    subst AreNames (sym (fold-Binary (List (List ℕ)) node_names op (tree_of left) (tree_of right)))
    (each_append IsName (names_in (tree_of left)) (names_in (tree_of right)) (tree_names left both.0) (tree_names right both.1))
tree_names (phrase.Clamp value low high) fit =
    let inside = inside_parens (phrase_tokens value ++ (symbol sign.Comma ∷ phrase_tokens low ++ (symbol sign.Comma ∷ phrase_tokens high))) fit.1 in
    let first = around_one (phrase_tokens value) (phrase_tokens low ++ (symbol sign.Comma ∷ phrase_tokens high)) (symbol sign.Comma) inside in
    let bounds = around_one (phrase_tokens low) (phrase_tokens high) (symbol sign.Comma) first.1 in
    subst AreNames (sym (fold-Clamp (List (List ℕ)) node_names (tree_of value) (tree_of low) (tree_of high)))
    (three_names (names_in (tree_of value)) (names_in (tree_of low)) (names_in (tree_of high)) (tree_names value first.0) (tree_names low bounds.0)
    (tree_names high bounds.1))
tree_names (phrase.Choose condition then_part else_part) fit =
    let first = around_one (phrase_tokens condition) (phrase_tokens then_part ++ (keyword word.Else ∷ phrase_tokens else_part)) (keyword word.Then) fit.1 in
    let branches = around_one (phrase_tokens then_part) (phrase_tokens else_part) (keyword word.Else) first.1 in
    subst AreNames (sym (fold-Choose (List (List ℕ)) node_names (tree_of condition) (tree_of then_part) (tree_of else_part)))
    (three_names (names_in (tree_of condition)) (names_in (tree_of then_part)) (names_in (tree_of else_part)) (tree_names condition first.0)
    (tree_names then_part branches.0) (tree_names else_part branches.1))
tree_names phrase.Absent fit = subst AreNames (sym (fold-Absent (List (List ℕ)) node_names)) _
tree_names (phrase.Present name) fit = subst AreNames (sym (fold-Present (List (List ℕ)) node_names name)) ((inside_parens (token.Name name ∷ []) fit.1).0, _)

-- The names in an expression that fitting tokens write are names.
expression_names : (value : Expr) (tokens : List Token) → Writes value tokens → AreFit tokens → AreNames (names_in value)
expression_names value tokens writes fit =
    subst (λ tree. AreNames (names_in tree)) writes.is_tree (tree_names writes.phrase (subst AreFit (sym writes.spelled) fit))

-- ---- The first tokens of a line

-- Names with commas are names.
names_listed : (names : List (List ℕ)) → AreFit (names_tokens names) → AreNames names
names_listed [] fit = _
names_listed (name ∷ []) fit = (fit.0, _)
names_listed (name ∷ next ∷ names) fit = (fit.0, names_listed (next ∷ names) fit.1.1)

-- The needs are names.
needed_names : (needs : List (List ℕ)) → AreFit (needs_tokens needs) → AreNames needs
needed_names [] fit = _
needed_names (name ∷ names) fit = names_listed (name ∷ names) fit.1

-- The name of a declaration, and those in its needs.
declared_names : (declared : Keyword) (name : List ℕ) (ty : Ty) (needs : List (List ℕ))
    → AreFit (declaration declared name ty ++ needs_tokens needs ++ equals) → AreNames (name ∷ needs)
declared_names declared name ty needs fit =
    let front = each_part IsFit (declaration declared name ty ++ needs_tokens needs) equals fit in
    let parts = each_part IsFit (declaration declared name ty) (needs_tokens needs) front.0 in
    (fit.1.0, needed_names needs parts.1)

-- The names before a literal or an expression are names.
front_names : (some : LineForm) → AreFit (front_tokens some) → AreNames (names_said some)
front_names (form.Unit name) fit = (fit.1.0, _)
front_names (form.Param param) fit = (fit.1.0, _)
front_names (form.State state) fit = (fit.1.0, _)
front_names (form.Local local) fit = (fit.1.0, _)
front_names (form.Input input) fit = (fit.1.0, _)
front_names (form.EventInput event) fit = (fit.1.1.0, _)
front_names (form.Output output) fit = declared_names word.Output output.name output.ty output.needs fit
front_names (form.EventOutput event) fit = declared_names word.Output event.name event.ty event.needs fit.1
front_names (form.Assign target value) fit = (fit.0, _)
front_names (form.Instance name unit) fit = (fit.1.0, (fit.1.1.1.0, _))
front_names (form.Setting setting) fit = (fit.0, _)
front_names (form.Connect wire) fit = (fit.1.0, (fit.1.1.1.0, (fit.1.1.1.1.1.0, (fit.1.1.1.1.1.1.1.0, _))))
front_names (form.Sample port) fit = (fit.1.0, (fit.1.1.1.0, _))
front_names _ fit = _

-- ---- Tails

-- A tail whose names are names, which is in range and can be written.
record IsSound (tail : Tail) : Type 0 where
  names : AreNames (names_on_expression (expression_in tail))
  in_range : IsTailInRange tail
  writable : is_writable tail ≡ true

-- A number that fits has few decimals.
signed_decimals : (negative : Bool) (digits decimals : ℕ) → AreFit (sign_tokens negative ++ (token.Number digits decimals ∷ [])) → decimals ≤ 9
signed_decimals true digits decimals fit = fit.1.0.1
signed_decimals false digits decimals fit = fit.0.1

-- A literal that fitting tokens write is sound.
literal_is_sound : (value : Literal) (tokens : List Token) → WritesLiteral value tokens → AreFit tokens → IsSound (OfLiteral value)
literal_is_sound (literal.Truth told) tokens writes fit = record { names = _; in_range = _; writable = refl }
literal_is_sound (literal.Number number decimals) tokens writes fit = record {
  names = _;
  in_range = signed_decimals writes.negative writes.digits decimals (subst AreFit writes.spelled fit);
  writable = writes.fits;
}

-- A number below 2^63 is one of seconds.
unsigned_is_seconds : (digits decimals : ℕ) → digits < 2 ^ 63 → is_seconds (literal.Number (pos digits) decimals) ≡ true
unsigned_is_seconds digits decimals small = grind (arith, nat_tests)

-- A number of seconds is sound.
seconds_are_sound : (seconds : Literal) (tokens : List Token) → WritesSeconds seconds tokens → AreFit tokens → IsSound (OfSeconds seconds)
seconds_are_sound (literal.Truth told) tokens writes fit = absurd writes
seconds_are_sound (literal.Number number decimals) tokens writes fit = record {
  names = _;
  in_range = (subst AreFit writes.3 fit).0.1;
  writable = ap (λ n. is_seconds (literal.Number n decimals)) writes.2 ∙ unsigned_is_seconds writes.0 decimals writes.1;
}

-- A tail that fitting tokens write is sound.
tail_is_sound : (tail : Tail) (tokens : List Token) → WritesTail tail tokens → AreFit tokens → IsSound tail
tail_is_sound Nothing tokens writes fit = record { names = _; in_range = _; writable = refl }
tail_is_sound (OfLiteral value) tokens writes fit = literal_is_sound value tokens writes fit
tail_is_sound (OfSeconds seconds) tokens writes fit = seconds_are_sound seconds tokens writes fit
tail_is_sound (OfExpression value) tokens writes fit =
    let is = expression_is_written value tokens writes in
    record { names = expression_names value tokens writes fit; in_range = is.ranged; writable = is.writable }

-- ---- Lines

-- A form that can be printed.
pub record IsPrintableForm (some : LineForm) : Type 0 where
  pub names : AllByRecursion IsName (names_on some)
  pub in_range : IsInRange some
  pub writable : is_writable (tail_of some) ≡ true

-- The form that fitting tokens write can be printed.
pub written_is_printable : (some : LineForm) (tokens : List Token) → WritesForm some tokens → AreFit tokens → IsPrintableForm some
written_is_printable some tokens writes fit =
    let parts = each_part IsFit (front_tokens some) writes.tail (subst AreFit writes.spelled fit) in
    let tail = tail_is_sound (tail_of some) writes.tail writes.tail_is parts.1 in
    record {
      names = each_append IsName (names_said some) (names_on_expression (expression_on some)) (front_names some parts.0) tail.names;
      in_range = (writes.counts, tail.in_range);
      writable = tail.writable;
    }

-- The form that a line has can be printed.
pub form_is_printable : (some : LineForm) (line : List ℕ) → HasForm some line → IsPrintableForm some
form_is_printable some line has = written_is_printable some has.tokens has.written (spelled_fit has.tokens (code_of line) has.spelled)
