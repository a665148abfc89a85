-- An expression that is read is one that the grammar has, written with the first of the tokens.
use Rattle.std.proofs.Common.{◌≡◌, ℕ, suc, zero, ◌<◌, ◌^◌, Bool, true, false, cond, ◌&&◌, ◌==◌, max, List, [], ◌∷◌, ◌++◌, Option, Some, None, refl, ap, sym}
use Rattle.std.proofs.Common.{subst, ◌∙◌, arith, append_assoc, pos, nat_le, nat_lt}
use Rattle.std.specs.Prelude.{IfSome, option_and_then}
use Rattle.std.proofs.lemmas.Bool.{and_parts, and_from, eqb-true}
use Rattle.std.proofs.lemmas.Slice.Eq.{bytes_eq-Decides}
use Rattle.unit_tree.specs.Phrases as phrase
use Rattle.unit_tree.specs.Phrases.{Phrase, Level, Whole, Not, Primary, level_of, unary_level, binary_level}
use Rattle.unit_tree.specs.Phrases.{binary_nesting, operand_level, left_level, right_level, allows, stands, nesting, numbers_fit, tree_of, phrase_tokens}
use Rattle.unit_tree.specs.Phrases.{unary_tokens, binary_tokens, call_of_two, operation, in_parens, keyword, symbol, whole}
use Rattle.unit_tree.specs.Tokens.{symbol_text}
use Rattle.unit_tree.specs.Values.{unary_is_ranged}
use Rattle.unit_tree.specs.declared.expr.BinOp.{BinOp}
use Rattle.unit_tree.specs.declared.expr.BinOp.TheVariants as by
use Rattle.unit_tree.specs.declared.expr.Expr.{Expr}
use Rattle.unit_tree.specs.declared.expr.Expr as expr
use Rattle.unit_tree.specs.declared.expr.UnOp.{UnOp}
use Rattle.unit_tree.specs.declared.expr.UnOp.TheVariants as of
use Rattle.unit_tree.specs.declared.token.Keyword.{Keyword}
use Rattle.unit_tree.specs.declared.token.Keyword.TheVariants as word
use Rattle.unit_tree.specs.declared.token.Symbol.{Symbol}
use Rattle.unit_tree.specs.declared.token.Symbol.TheVariants as sign
use Rattle.unit_tree.specs.declared.token.Token.{Token}
use Rattle.unit_tree.specs.declared.token.Token.TheVariants as token
use Rattle.text_tokens.specs.Scanning.{symbol_of}
use Rattle.text_tokens.proofs.TableLemmas.{symbol_of-symbol_text}
use Rattle.text_lines.specs.Expressions.{Reader, Front, same_symbol, after_symbol, after_then, after_else, name_at, decimals_at, grouped_at, call_at, fix_at}
use Rattle.text_lines.specs.Expressions.{prefix_at, pair_at, clamp_at, choice_at, present_at, keyword_operand, symbol_operand, operand_at, infix_at, with_right}
use Rattle.text_lines.specs.Expressions.{climb, within, read}
use Rattle.text_lines.proofs.InfixOperations.{is_infix, infix_tokens, infix_at_is, Takes}
use Rattle.text_lines.proofs.PhraseTokens.{group_tokens, pair_tokens, clamp_tokens, choice_tokens}
use Rattle.language_laws.proofs.PhraseLaws.{primary_stands}

-- ---- Single tokens

-- A property of what is read next holds of the whole reading.
pub then_holds : {A B : Type 0} (found : Option A) (next : A → Option B) (P : A → Type 0) (Q : B → Type 0) → IfSome found P
    → ((x : A) → P x → IfSome (next x) Q) → IfSome (option_and_then next found) Q
then_holds None next P Q is more = tt
then_holds (Some x) next P Q is more = more x is

-- A property that holds if a test passes holds of a reading that requires the test.
pub if_holds : {B : Type 0} (test : Bool) (found : Option B) (Q : B → Type 0) → (test ≡ true → IfSome found Q) → IfSome (cond test found None) Q
if_holds true found Q more = more refl
if_holds false found Q more = tt

-- Symbols with the same text are the same.
pub same_symbol_is : (one other : Symbol) → same_symbol one other ≡ true → one ≡ other
same_symbol_is one other same =
    let texts : symbol_text one ≡ symbol_text other = (bytes_eq-Decides (symbol_text one) (symbol_text other)).0 same in
    let both : ◌≡◌ {A = Option Symbol} (Some one) (Some other) = sym (symbol_of-symbol_text one) ∙ ap symbol_of texts ∙ symbol_of-symbol_text other in
    cc

-- Single tokens are read only where they are.
pub after_symbol_is : (wanted : Symbol) (tokens : List Token) → IfSome (after_symbol wanted tokens) (λ rest. symbol wanted ∷ rest ≡ tokens)
after_symbol_is wanted [] = tt
after_symbol_is wanted (token.Symbol found ∷ rest) =
    if_holds (same_symbol found wanted) (Some rest) (λ behind. symbol wanted ∷ behind ≡ token.Symbol found ∷ rest)
    (λ same. ap (λ s. token.Symbol s ∷ rest) (sym (same_symbol_is found wanted same)))
after_symbol_is wanted (_ ∷ rest) = tt

after_then_is : (tokens : List Token) → IfSome (after_then tokens) (λ rest. keyword word.Then ∷ rest ≡ tokens)
after_then_is (token.Keyword word.Then ∷ rest) = refl
after_then_is _ = tt

after_else_is : (tokens : List Token) → IfSome (after_else tokens) (λ rest. keyword word.Else ∷ rest ≡ tokens)
after_else_is (token.Keyword word.Else ∷ rest) = refl
after_else_is _ = tt

pub name_at_is : (tokens : List Token) → IfSome (name_at tokens) (λ found. token.Name found.0 ∷ found.1 ≡ tokens)
name_at_is [] = tt
name_at_is (token.Name name ∷ rest) = refl
name_at_is (_ ∷ rest) = tt

pub decimals_at_is : (tokens : List Token) → IfSome (decimals_at tokens) (λ found. (whole found.0 ∷ found.1 ≡ tokens) × (nat_le found.0 9 ≡ true))
decimals_at_is [] = tt
decimals_at_is (token.Number digits decimals ∷ rest) =
    if_holds ((decimals == 0) && nat_le digits 9) (Some (digits, rest))
    (λ found. (whole found.0 ∷ found.1 ≡ token.Number digits decimals ∷ rest) × (nat_le found.0 9 ≡ true)) (λ both.
    let parts = and_parts (decimals == 0) (nat_le digits 9) both in
    (ap (λ d. token.Number digits d ∷ rest) (sym (eqb-true decimals 0 parts.0)), parts.1))
decimals_at_is (_ ∷ rest) = tt

-- ---- Where expressions are allowed

-- An expression is allowed only where the grammar requires no stronger level than its own.
pub stands_allowed : (asked : Level) (inner : Phrase) → stands asked inner ≡ true → allows asked (level_of inner) ≡ true
stands_allowed asked (phrase.Unary op arg) so = (and_parts (allows asked (unary_level op)) _ so).0
stands_allowed asked (phrase.Binary op left right) so = (and_parts (allows asked (binary_level op)) _ so).0
stands_allowed asked (phrase.Choose condition chosen other) so = (and_parts (allows asked Whole) _ so).0
stands_allowed asked _ so = primary_stands asked

-- An expression that is allowed somewhere is allowed wherever its level is.
pub stands_where : (before asked : Level) (inner : Phrase) → stands before inner ≡ true → allows asked (level_of inner) ≡ true → stands asked inner ≡ true
stands_where before asked (phrase.Parens inner) so allowed = so
stands_where before asked (phrase.Unary op arg) so allowed =
    and_from (allows asked (unary_level op)) _ allowed (and_parts (allows before (unary_level op)) _ so).1
stands_where before asked (phrase.Binary op left right) so allowed =
    and_from (allows asked (binary_level op)) _ allowed (and_parts (allows before (binary_level op)) _ so).1
stands_where before asked (phrase.Clamp value low high) so allowed = so
stands_where before asked (phrase.Choose condition chosen other) so allowed = and_from (allows asked Whole) _ allowed (and_parts (allows before Whole) _ so).1
stands_where before asked _ so allowed = refl

-- ---- Fronts

-- What was read is an expression with fewer levels of nesting, which is allowed where the grammar requires
-- the level.
pub record IsFront (limit : ℕ) (asked : Level) (tokens : List Token) (front : Front) : Type 0 where
  pub written : Phrase
  pub is_tree : tree_of written ≡ front.0
  pub is_level : level_of written ≡ front.1
  pub spelled : phrase_tokens written ++ front.2 ≡ tokens
  pub stands_so : stands asked written ≡ true
  pub nested : nesting written < limit
  pub fits : numbers_fit written ≡ true

-- Whatever the reader gives is such an expression.
abbrev pub IsSound : ℕ → Reader → Type 0
IsSound limit reader = (asked : Level) (tokens : List Token) → IfSome (reader asked tokens) (IsFront limit asked tokens)

-- An expression in parentheses.
pub record IsGroup (limit : ℕ) (tokens : List Token) (found : Expr × List Token) : Type 0 where
  pub written : Phrase
  pub is_tree : tree_of written ≡ found.0
  pub spelled : in_parens (phrase_tokens written) ++ found.1 ≡ tokens
  pub stands_so : stands Whole written ≡ true
  pub nested : nesting written < limit
  pub fits : numbers_fit written ≡ true

-- What is read in parentheses is there.
pub grouped_is : (limit : ℕ) (inner : Reader) (tokens : List Token) → IsSound limit inner → IfSome (grouped_at inner tokens) (IsGroup limit tokens)
unfolding grouped_at
grouped_is limit inner tokens sound =
    then_holds (after_symbol sign.Open tokens) _ _ (IsGroup limit tokens) (after_symbol_is sign.Open tokens) (λ first opened.
    then_holds (inner Whole first) _ _ (IsGroup limit tokens) (sound Whole first) (λ x is.
    then_holds (after_symbol sign.Close x.2) _ _ (IsGroup limit tokens) (after_symbol_is sign.Close x.2) (λ rest closed.
    record {
      written = is.written;
      is_tree = is.is_tree;
      spelled = group_tokens (phrase_tokens is.written) rest
          ∙ ap (λ all. symbol sign.Open ∷ all) (ap (λ all. phrase_tokens is.written ++ all) closed ∙ is.spelled) ∙ opened;
      stands_so = is.stands_so;
      nested = is.nested;
      fits = is.fits;
    })))

-- An operation on the operand of a call, whose tokens begin with those before the parentheses.
call_at_is : (limit : ℕ) (inner : Reader) (asked : Level) (op : UnOp) (before tokens : List Token) → IsSound limit inner
    → ((arg : List Token) → unary_tokens op arg ≡ before ++ in_parens arg) → unary_level op ≡ Primary → unary_is_ranged op ≡ true
    → IfSome (call_at inner op tokens) (IsFront (suc limit) asked (before ++ tokens))
unfolding call_at
call_at_is limit inner asked op before tokens sound calls primary ranged =
    then_holds (grouped_at inner tokens) _ _ (IsFront (suc limit) asked (before ++ tokens)) (grouped_is limit inner tokens sound) (λ arg is.
    record {
      written = phrase.Unary op is.written;
      is_tree = ap (expr.Unary op) is.is_tree;
      is_level = primary;
      spelled = ap (λ all. all ++ arg.1) (calls (phrase_tokens is.written)) ∙ append_assoc before (in_parens (phrase_tokens is.written)) arg.1
          ∙ ap (λ all. before ++ all) is.spelled;
      stands_so = and_from (allows asked (unary_level op)) _ (rw primary (primary_stands asked)) (rw primary is.stands_so);
      nested = let deep = is.nested in omega arith;
      fits = and_from (unary_is_ranged op) _ ranged is.fits;
    })

-- A conversion to fixed point, which has its decimals before the parentheses.
fix_at_is : (limit : ℕ) (inner : Reader) (asked : Level) (tokens : List Token) → IsSound limit inner
    → IfSome (fix_at inner tokens) (IsFront (suc limit) asked (keyword word.Fix ∷ tokens))
unfolding fix_at
fix_at_is limit inner asked tokens sound =
    then_holds (decimals_at tokens) _ _ (IsFront (suc limit) asked (keyword word.Fix ∷ tokens)) (decimals_at_is tokens) (λ found is.
    subst (λ all. IfSome (call_at inner (of.ToFix found.0) found.1) (IsFront (suc limit) asked (keyword word.Fix ∷ all))) is.0
    (call_at_is limit inner asked (of.ToFix found.0) (keyword word.Fix ∷ whole found.0 ∷ []) found.1 sound (λ arg. refl) refl is.1))

-- An operation before its operand.
prefix_at_is : (limit : ℕ) (inner : Reader) (asked : Level) (op : UnOp) (first : Token) (tokens : List Token) → IsSound limit inner
    → ((arg : List Token) → unary_tokens op arg ≡ first ∷ arg) → operand_level (unary_level op) ≡ unary_level op → unary_is_ranged op ≡ true
    → IfSome (prefix_at inner asked op tokens) (IsFront (suc limit) asked (first ∷ tokens))
unfolding prefix_at
prefix_at_is limit inner asked op first tokens sound begins same ranged =
    if_holds (allows asked (unary_level op)) _ (IsFront (suc limit) asked (first ∷ tokens)) (λ allowed.
    then_holds (inner (unary_level op) tokens) _ _ (IsFront (suc limit) asked (first ∷ tokens)) (sound (unary_level op) tokens) (λ arg is.
    record {
      written = phrase.Unary op is.written;
      is_tree = ap (expr.Unary op) is.is_tree;
      is_level = refl;
      spelled = ap (λ all. all ++ arg.2) (begins (phrase_tokens is.written)) ∙ ap (λ all. first ∷ all) is.spelled;
      stands_so = and_from (allows asked (unary_level op)) _ allowed (rw same is.stands_so);
      nested = let deep = is.nested in omega arith;
      fits = and_from (unary_is_ranged op) _ ranged is.fits;
    }))

-- Calls of two operands are of the strongest level, one level of nesting deeper, and written as calls.
call_stands : (asked : Level) (op : BinOp) (left right : Phrase) → is_infix op ≡ false → stands Whole left ≡ true → stands Whole right ≡ true
    → stands asked (phrase.Binary op left right) ≡ true
call_stands asked by.Min left right called one other = and_from (allows asked Primary) _ (primary_stands asked) (and_from (stands Whole left) _ one other)
call_stands asked by.Max left right called one other = and_from (allows asked Primary) _ (primary_stands asked) (and_from (stands Whole left) _ one other)
call_stands asked by.Add left right called one other = absurd (cc)
call_stands asked _ left right called one other = absurd (cc)

pub call_level : (op : BinOp) → is_infix op ≡ false → binary_level op ≡ Primary
call_level by.Min called = refl
call_level by.Max called = refl
call_level by.Add called = absurd (cc)
call_level _ called = absurd (cc)

pub call_nesting : (op : BinOp) (deepest : ℕ) → is_infix op ≡ false → binary_nesting op deepest ≡ suc deepest
call_nesting by.Min deepest called = refl
call_nesting by.Max deepest called = refl
call_nesting by.Add deepest called = absurd (cc)
call_nesting _ deepest called = absurd (cc)

pub call_tokens : (op : BinOp) (left right : List Token) → is_infix op ≡ false → binary_tokens op left right ≡ call_of_two (operation op) left right
call_tokens by.Min left right called = refl
call_tokens by.Max left right called = refl
call_tokens by.Add left right called = absurd (cc)
call_tokens _ left right called = absurd (cc)

-- A call of two operands.
pair_at_is : (limit : ℕ) (inner : Reader) (asked : Level) (op : BinOp) (tokens : List Token) → IsSound limit inner → is_infix op ≡ false
    → IfSome (pair_at inner op tokens) (IsFront (suc limit) asked (operation op ∷ tokens))
unfolding pair_at
pair_at_is limit inner asked op tokens sound called =
    let Claim = IsFront (suc limit) asked (operation op ∷ tokens) in
    then_holds (after_symbol sign.Open tokens) _ _ Claim (after_symbol_is sign.Open tokens) (λ first opened.
    then_holds (inner Whole first) _ _ Claim (sound Whole first) (λ left one.
    then_holds (after_symbol sign.Comma left.2) _ _ Claim (after_symbol_is sign.Comma left.2) (λ second between.
    then_holds (inner Whole second) _ _ Claim (sound Whole second) (λ right other.
    then_holds (after_symbol sign.Close right.2) _ _ Claim (after_symbol_is sign.Close right.2) (λ rest closed.
    record {
      written = phrase.Binary op one.written other.written;
      is_tree = ap (λ e. expr.Binary op e (tree_of other.written)) one.is_tree ∙ ap (λ e. expr.Binary op left.0 e) other.is_tree;
      is_level = call_level op called;
      spelled =
          ap (λ all. all ++ rest) (call_tokens op (phrase_tokens one.written) (phrase_tokens other.written) called)
          ∙ ap (λ all. operation op ∷ all) (pair_tokens (phrase_tokens one.written) (phrase_tokens other.written) rest
          ∙ ap (λ all. symbol sign.Open ∷ (phrase_tokens one.written ++ (symbol sign.Comma ∷ (phrase_tokens other.written ++ all)))) closed
          ∙ ap (λ all. symbol sign.Open ∷ (phrase_tokens one.written ++ (symbol sign.Comma ∷ all))) other.spelled
          ∙ ap (λ all. symbol sign.Open ∷ (phrase_tokens one.written ++ all)) between
          ∙ ap (λ all. symbol sign.Open ∷ all) one.spelled
          ∙ opened);
      stands_so = call_stands asked op one.written other.written called one.stands_so other.stands_so;
      nested = let deep = one.nested in let deeper_still = other.nested in
          let is = call_nesting op (max (nesting one.written) (nesting other.written)) called in omega arith;
      fits = and_from (numbers_fit one.written) _ one.fits other.fits;
    })))))

-- A call of `clamp`.
clamp_at_is : (limit : ℕ) (inner : Reader) (asked : Level) (tokens : List Token) → IsSound limit inner
    → IfSome (clamp_at inner tokens) (IsFront (suc limit) asked (keyword word.Clamp ∷ tokens))
unfolding clamp_at
clamp_at_is limit inner asked tokens sound =
    let Claim = IsFront (suc limit) asked (keyword word.Clamp ∷ tokens) in
    then_holds (after_symbol sign.Open tokens) _ _ Claim (after_symbol_is sign.Open tokens) (λ first opened.
    then_holds (inner Whole first) _ _ Claim (sound Whole first) (λ value of_value.
    then_holds (after_symbol sign.Comma value.2) _ _ Claim (after_symbol_is sign.Comma value.2) (λ second between.
    then_holds (inner Whole second) _ _ Claim (sound Whole second) (λ low of_low.
    then_holds (after_symbol sign.Comma low.2) _ _ Claim (after_symbol_is sign.Comma low.2) (λ third behind.
    then_holds (inner Whole third) _ _ Claim (sound Whole third) (λ high of_high.
    then_holds (after_symbol sign.Close high.2) _ _ Claim (after_symbol_is sign.Close high.2) (λ rest closed.
    record {
      written = phrase.Clamp of_value.written of_low.written of_high.written;
      is_tree = rw (of_value.is_tree, of_low.is_tree, of_high.is_tree) refl;
      is_level = refl;
      spelled =
          ap (λ all. keyword word.Clamp ∷ all)
          (clamp_tokens (phrase_tokens of_value.written) (phrase_tokens of_low.written) (phrase_tokens of_high.written) rest
          ∙ rw (closed, of_high.spelled, behind, of_low.spelled, between, of_value.spelled) opened);
      stands_so = and_from (stands Whole of_value.written) _ of_value.stands_so (and_from (stands Whole of_low.written) _ of_low.stands_so of_high.stands_so);
      nested = let one = of_value.nested in let other = of_low.nested in let last = of_high.nested in omega arith;
      fits = and_from (numbers_fit of_value.written) _ of_value.fits (and_from (numbers_fit of_low.written) _ of_low.fits of_high.fits);
    })))))))

-- A choice, whose last part ends it.
choice_at_is : (limit : ℕ) (inner : Reader) (asked : Level) (tokens : List Token) → IsSound limit inner → allows asked Whole ≡ true
    → IfSome (choice_at inner tokens) (IsFront (suc limit) asked (keyword word.If ∷ tokens))
unfolding choice_at
choice_at_is limit inner asked tokens sound allowed =
    let Claim = IsFront (suc limit) asked (keyword word.If ∷ tokens) in
    then_holds (inner Whole tokens) _ _ Claim (sound Whole tokens) (λ condition of_condition.
    then_holds (after_then condition.2) _ _ Claim (after_then_is condition.2) (λ first between.
    then_holds (inner Whole first) _ _ Claim (sound Whole first) (λ chosen of_chosen.
    then_holds (after_else chosen.2) _ _ Claim (after_else_is chosen.2) (λ second behind.
    then_holds (inner Whole second) _ _ Claim (sound Whole second) (λ other of_other.
    record {
      written = phrase.Choose of_condition.written of_chosen.written of_other.written;
      is_tree = rw (of_condition.is_tree, of_chosen.is_tree, of_other.is_tree) refl;
      is_level = refl;
      spelled =
          let parts : phrase_tokens of_condition.written
          ++ (keyword word.Then ∷ (phrase_tokens of_chosen.written ++ (keyword word.Else ∷ (phrase_tokens of_other.written ++ other.2))))
          ≡ tokens =
          rw (of_other.spelled, behind, of_chosen.spelled, between) of_condition.spelled in
          ap (λ all. keyword word.If ∷ all)
          (choice_tokens (phrase_tokens of_condition.written) (phrase_tokens of_chosen.written) (phrase_tokens of_other.written) other.2 ∙ parts);
      stands_so =
          and_from (allows asked Whole) _ allowed
          (and_from (stands Whole of_condition.written) _ of_condition.stands_so
          (and_from (stands Whole of_chosen.written) _ of_chosen.stands_so of_other.stands_so));
      nested = let one = of_condition.nested in let another = of_chosen.nested in let last = of_other.nested in omega arith;
      fits = and_from (numbers_fit of_condition.written) _ of_condition.fits (and_from (numbers_fit of_chosen.written) _ of_chosen.fits of_other.fits);
    })))))

-- Whether an event occurs.
present_at_is : (limit : ℕ) (asked : Level) (tokens : List Token) → IfSome (present_at tokens) (IsFront (suc limit) asked (keyword word.Present ∷ tokens))
unfolding present_at
present_at_is limit asked tokens =
    let Claim = IsFront (suc limit) asked (keyword word.Present ∷ tokens) in
    then_holds (after_symbol sign.Open tokens) _ _ Claim (after_symbol_is sign.Open tokens) (λ first opened.
    then_holds (name_at first) _ _ Claim (name_at_is first) (λ name named.
    then_holds (after_symbol sign.Close name.1) _ _ Claim (after_symbol_is sign.Close name.1) (λ rest closed.
    record {
      written = phrase.Present name.0;
      is_tree = refl;
      is_level = refl;
      spelled = rw (closed, named, opened) refl;
      stands_so = refl;
      nested = omega arith;
      fits = refl;
    })))

-- An operand by its first token.
keyword_operand_is : (limit : ℕ) (inner : Reader) (asked : Level) (spelled : Keyword) (rest : List Token) → IsSound limit inner
    → IfSome (keyword_operand inner asked spelled rest) (IsFront (suc limit) asked (keyword spelled ∷ rest))
keyword_operand_is limit inner asked word.True rest sound =
    record { written = phrase.Truth true; is_tree = refl; is_level = refl; spelled = refl; stands_so = refl; nested = omega arith; fits = refl }
keyword_operand_is limit inner asked word.False rest sound =
    record { written = phrase.Truth false; is_tree = refl; is_level = refl; spelled = refl; stands_so = refl; nested = omega arith; fits = refl }
keyword_operand_is limit inner asked word.Time rest sound =
    record { written = phrase.Time; is_tree = refl; is_level = refl; spelled = refl; stands_so = refl; nested = omega arith; fits = refl }
keyword_operand_is limit inner asked word.Length rest sound =
    record { written = phrase.Step; is_tree = refl; is_level = refl; spelled = refl; stands_so = refl; nested = omega arith; fits = refl }
keyword_operand_is limit inner asked word.Absent rest sound =
    record { written = phrase.Absent; is_tree = refl; is_level = refl; spelled = refl; stands_so = refl; nested = omega arith; fits = refl }
keyword_operand_is limit inner asked word.Not rest sound = prefix_at_is limit inner asked of.Not (keyword word.Not) rest sound (λ arg. refl) refl refl
keyword_operand_is limit inner asked word.Abs rest sound = call_at_is limit inner asked of.Abs (keyword word.Abs ∷ []) rest sound (λ arg. refl) refl refl
keyword_operand_is limit inner asked word.Int rest sound = call_at_is limit inner asked of.ToInt (keyword word.Int ∷ []) rest sound (λ arg. refl) refl refl
keyword_operand_is limit inner asked word.Fix rest sound = fix_at_is limit inner asked rest sound
keyword_operand_is limit inner asked word.Min rest sound = pair_at_is limit inner asked by.Min rest sound refl
keyword_operand_is limit inner asked word.Max rest sound = pair_at_is limit inner asked by.Max rest sound refl
keyword_operand_is limit inner asked word.Clamp rest sound = clamp_at_is limit inner asked rest sound
keyword_operand_is limit inner asked word.If rest sound =
    if_holds (allows asked Whole) (choice_at inner rest) (IsFront (suc limit) asked (keyword word.If ∷ rest)) (choice_at_is limit inner asked rest sound)
keyword_operand_is limit inner asked word.Present rest sound = present_at_is limit asked rest
keyword_operand_is limit inner asked _ rest sound = tt

symbol_operand_is : (limit : ℕ) (inner : Reader) (asked : Level) (spelled : Symbol) (rest : List Token) → IsSound limit inner
    → IfSome (symbol_operand inner asked spelled rest) (IsFront (suc limit) asked (symbol spelled ∷ rest))
symbol_operand_is limit inner asked sign.Minus rest sound = prefix_at_is limit inner asked of.Neg (symbol sign.Minus) rest sound (λ arg. refl) refl refl
symbol_operand_is limit inner asked sign.Open rest sound =
    then_holds (grouped_at inner (symbol sign.Open ∷ rest)) _ _ (IsFront (suc limit) asked (symbol sign.Open ∷ rest))
    (grouped_is limit inner (symbol sign.Open ∷ rest) sound) (λ found is.
    record {
      written = phrase.Parens is.written;
      is_tree = is.is_tree;
      is_level = refl;
      spelled = is.spelled;
      stands_so = is.stands_so;
      nested = let deep = is.nested in
          omega arith;
      fits = is.fits;
    })
symbol_operand_is limit inner asked _ rest sound = tt

-- An operand is an expression that the grammar has there.
pub operand_at_is : (limit : ℕ) (inner : Reader) (asked : Level) (tokens : List Token) → IsSound limit inner
    → IfSome (operand_at inner asked tokens) (IsFront (suc limit) asked tokens)
unfolding operand_at
operand_at_is limit inner asked [] sound = tt
operand_at_is limit inner asked (token.Number digits decimals ∷ rest) sound =
    if_holds (nat_lt digits (2 ^ 63) && nat_le decimals 9) (Some (expr.Number (pos digits) decimals, Primary, rest))
    (IsFront (suc limit) asked (token.Number digits decimals ∷ rest)) (λ fit.
    record { written = phrase.Number digits decimals; is_tree = refl; is_level = refl; spelled = refl; stands_so = refl; nested = omega arith; fits = fit })
operand_at_is limit inner asked (token.Name name ∷ rest) sound =
    record { written = phrase.Var name; is_tree = refl; is_level = refl; spelled = refl; stands_so = refl; nested = omega arith; fits = refl }
operand_at_is limit inner asked (token.Symbol spelled ∷ rest) sound = symbol_operand_is limit inner asked spelled rest sound
operand_at_is limit inner asked (token.Keyword spelled ∷ rest) sound = keyword_operand_is limit inner asked spelled rest sound

-- ---- Infix operations, and expressions

-- The operands of an infix operation are nested no deeper.
pub infix_nesting : (op : BinOp) (deepest : ℕ) → is_infix op ≡ true → binary_nesting op deepest ≡ deepest
infix_nesting by.Min deepest between = absurd (cc)
infix_nesting by.Max deepest between = absurd (cc)
infix_nesting _ deepest between = refl

-- A left side with one more operation and its right side is an expression that the grammar has there.
with_right_is : (limit : ℕ) (reader : Reader) (asked : Level) (tokens : List Token) (next : Front → Option Front) (left : Front)
    (found : Option (BinOp × List Token))
    → IsSound limit reader
    → ((x : Front) → IsFront limit asked tokens x → IfSome (next x) (IsFront limit asked tokens)) → IsFront limit asked tokens left
    → IfSome found (Takes asked left.1 left.2)
    → IfSome (with_right reader next left found) (IsFront limit asked tokens)
with_right_is limit reader asked tokens next left None sound more is takes = is
with_right_is limit reader asked tokens next left (Some (op, behind)) sound more is takes =
    then_holds (reader (right_level (binary_level op)) behind) _ _ (IsFront limit asked tokens) (sound (right_level (binary_level op)) behind) (λ right other.
    more (expr.Binary op left.0 right.0, binary_level op, right.2) (record {
      written = phrase.Binary op is.written other.written;
      is_tree = ap (λ e. expr.Binary op e (tree_of other.written)) is.is_tree ∙ ap (λ e. expr.Binary op left.0 e) other.is_tree;
      is_level = refl;
      spelled =
          ap (λ all. all ++ right.2) (infix_tokens op (phrase_tokens is.written) (phrase_tokens other.written) takes.between)
          ∙ append_assoc (phrase_tokens is.written) (operation op ∷ phrase_tokens other.written) right.2
          ∙ ap (λ all. phrase_tokens is.written ++ (operation op ∷ all)) other.spelled
          ∙ ap (λ all. phrase_tokens is.written ++ all) (sym takes.spelled)
          ∙ is.spelled;
      stands_so =
          and_from (allows asked (binary_level op)) _ takes.asked_for (and_from (stands (left_level (binary_level op)) is.written) _
          (stands_where asked (left_level (binary_level op)) is.written is.stands_so
          (ap (allows (left_level (binary_level op))) is.is_level ∙ takes.left_fits)) other.stands_so);
      nested = let one = is.nested in let another = other.nested in
          let same = infix_nesting op (max (nesting is.written) (nesting other.written)) takes.between in omega arith;
      fits = and_from (numbers_fit is.written) _ is.fits other.fits;
    }))

-- The same with all the operations after it.
climb_is : (limit : ℕ) (reader : Reader) (asked : Level) (tokens turns : List Token) (left : Front) → IsSound limit reader → IsFront limit asked tokens left
    → IfSome (climb reader asked turns left) (IsFront limit asked tokens)
climb_is limit reader asked tokens [] left sound is = is
climb_is limit reader asked tokens (turn ∷ turns) left sound is =
    with_right_is limit reader asked tokens (climb reader asked turns) left (infix_at asked left.1 left.2) sound
    (λ x front. climb_is limit reader asked tokens turns x sound front) is (infix_at_is asked left.1 left.2)

-- The same for any number of levels that are left.
within_is : (limit : ℕ) (inner : Reader) (levels_left : ℕ) → IsSound limit inner → IsSound (suc limit) (within inner levels_left)
unfolding within
within_is limit inner zero sound asked tokens = tt
within_is limit inner (suc levels_left) sound asked tokens =
    then_holds (operand_at inner asked tokens) _ _ (IsFront (suc limit) asked tokens) (operand_at_is limit inner asked tokens sound) (λ left is.
    climb_is (suc limit) (within inner levels_left) asked tokens left.2 left (within_is limit inner levels_left sound) is)

-- Whatever is read is an expression that the grammar allows there, nested no deeper than allowed.
pub read_is : (budget : ℕ) → IsSound (suc budget) (read budget)
unfolding read
read_is zero asked tokens = within_is 0 (λ level behind. None) 9 (λ level behind. tt) asked tokens
read_is (suc budget) asked tokens = within_is (suc budget) (read budget) 9 (read_is budget) asked tokens
