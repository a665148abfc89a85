-- Worked expressions: how some are written, their trees, and the canonical texts of these.
use Rattle.std.specs.Prelude.{◌≡◌, ℕ, zero, suc, true, false, List, codes}
use Rattle.unit_tree.specs.Canonical.{expression_tokens, tokens_text}
use Rattle.unit_tree.specs.Phrases as phrase
use Rattle.unit_tree.specs.Phrases.{Phrase, is_expression, nesting, phrase_tokens, tree_of}
use Rattle.unit_tree.specs.declared.expr.BinOp.TheVariants as by
use Rattle.unit_tree.specs.declared.expr.Expr.{Expr}
use Rattle.unit_tree.specs.declared.expr.UnOp.TheVariants as of

-- A number without decimals, and names of one letter.
abbrev pub n : ℕ → Phrase
n digits = phrase.Number digits 0

abbrev pub a : Phrase
a = phrase.Var (codes "a")

abbrev pub b : Phrase
b = phrase.Var (codes "b")

abbrev pub c : Phrase
c = phrase.Var (codes "c")

-- The text of a phrase, with one space where two words meet.
abbrev pub written : Phrase → List ℕ
written some = tokens_text (phrase_tokens some)

-- The canonical text of an expression.
abbrev pub canonical : Expr → List ℕ
canonical value = tokens_text (expression_tokens value)

-- The phrase has this text, the grammar has it, and its tree has this canonical text.
pub record Worked (some : Phrase) (text shortest : List ℕ) : Type 0 where
  pub text_is : written some ≡ text
  pub grammatical : is_expression some ≡ true
  pub shortest_is : canonical (tree_of some) ≡ shortest

-- The phrase has this text, and the grammar does not have it.
pub record Unwritable (some : Phrase) (text : List ℕ) : Type 0 where
  pub text_is : written some ≡ text
  pub ungrammatical : is_expression some ≡ false

-- A phrase in so many parentheses.
abbrev pub wrapped : ℕ → Phrase → Phrase
wrapped zero inner = inner
wrapped (suc count) inner = phrase.Parens (wrapped count inner)

pub record PhrasesAreWorked : Type 0 where
  -- Products come before sums, and both are grouped from the left.
  pub product_first : Worked (phrase.Binary by.Add a (phrase.Binary by.Mul b c)) (codes "a+b*c") (codes "a+b*c")
  pub sum_in_parens : Worked (phrase.Binary by.Mul (phrase.Parens (phrase.Binary by.Add a b)) c) (codes "(a+b)*c") (codes "(a+b)*c")
  pub needless_parens : Worked (phrase.Binary by.Sub (phrase.Parens (phrase.Binary by.Sub a b)) (phrase.Parens c)) (codes "(a-b)-(c)") (codes "a-b-c")
  pub right_operand : Worked (phrase.Binary by.Sub a (phrase.Parens (phrase.Binary by.Sub b c))) (codes "a-(b-c)") (codes "a-(b-c)")
  pub words_between : Worked (phrase.Binary by.Mod (phrase.Binary by.Div a b) c) (codes "a div b mod c") (codes "a div b mod c")
  pub no_sum_in_product : Unwritable (phrase.Binary by.Mul (phrase.Binary by.Add a b) c) (codes "a+b*c")
  -- `and` comes before `or`, and `not` before both.
  pub and_first : Worked (phrase.Binary by.Or a (phrase.Binary by.And (phrase.Unary of.Not b) c)) (codes "a or not b and c") (codes "a or not b and c")
  pub or_in_parens : Worked (phrase.Unary of.Not (phrase.Parens (phrase.Binary by.Or a b))) (codes "not(a or b)") (codes "not(a or b)")
  pub not_of_comparison : Worked (phrase.Unary of.Not (phrase.Parens (phrase.Binary by.Le a b))) (codes "not(a<=b)") (codes "not a<=b")
  -- Comparisons do not chain.
  pub no_chain : Unwritable (phrase.Binary by.Eq (phrase.Binary by.Eq a b) c) (codes "a==b==c")
  pub comparisons : Worked (phrase.Choose (phrase.Binary by.Gt a b) (phrase.Binary by.Ge b c) (phrase.Binary by.Lt c a)) (codes "if a>b then b>=c else c<a")
      (codes "if a>b then b>=c else c<a")
  -- A prefix `-` comes before products. The `-` of a literal is no part of an expression.
  pub minus_first : Worked (phrase.Binary by.Mul (phrase.Unary of.Neg a) b) (codes "-a*b") (codes "-a*b")
  pub minus_of_minus : Worked (phrase.Binary by.Sub a (phrase.Unary of.Neg (phrase.Unary of.Neg b))) (codes "a---b") (codes "a---b")
  pub minus_of_not : Unwritable (phrase.Unary of.Neg (phrase.Unary of.Not a)) (codes "-not a")
  -- `if` binds the least.
  pub choice_in_sum : Worked (phrase.Binary by.Add (n 1) (phrase.Parens (phrase.Choose a b c))) (codes "1+(if a then b else c)")
      (codes "1+(if a then b else c)")
  pub no_choice_in_sum : Unwritable (phrase.Binary by.Add (n 1) (phrase.Choose a b c)) (codes "1+if a then b else c")
  -- Arguments are whole expressions.
  pub calls : Worked (phrase.Clamp (phrase.Parens a) (phrase.Unary of.Abs (phrase.Unary of.Neg b)) (phrase.Binary by.Max c (phrase.Choose a b c)))
      (codes "clamp((a),abs(-b),max(c,if a then b else c))") (codes "clamp(a,abs(-b),max(c,if a then b else c))")
  pub least : Worked (phrase.Binary by.Min (phrase.Binary by.Sub a b) (n 0)) (codes "min(a-b,0)") (codes "min(a-b,0)")
  pub scaled : Worked (phrase.Unary (of.ToFix 2) (phrase.Unary of.ToInt a)) (codes "fix 2(int(a))") (codes "fix 2(int(a))")
  pub scaled_too_far : Unwritable (phrase.Unary (of.ToFix 10) a) (codes "fix 10(a)")
  -- `t`, `h` and truth values.
  pub clocks : Worked (phrase.Choose (phrase.Truth true) phrase.Time phrase.Step) (codes "if true then t else h") (codes "if true then t else h")
  -- Numbers keep their decimals.
  pub decimals : Worked (phrase.Binary by.Add (phrase.Number 5 2) (phrase.Number 150 2)) (codes "0.05+1.50") (codes "0.05+1.50")
  pub greatest : Worked (n 9223372036854775807) (codes "9223372036854775807") (codes "9223372036854775807")
  pub too_great : Unwritable (n 9223372036854775808) (codes "9223372036854775808")
  pub zero_decimals : Worked (phrase.Number 0 9) (codes "0.000000000") (codes "0.000000000")
  pub no_ten_decimals : Unwritable (phrase.Number 0 10) (codes "0.0000000000")
  -- Parentheses that the tree needs, and those that it does not.
  pub not_not : Worked (phrase.Unary of.Not (phrase.Parens (phrase.Unary of.Not a))) (codes "not(not a)") (codes "not not a")
  pub not_on_the_right : Worked (phrase.Binary by.Ne a (phrase.Parens (phrase.Unary of.Not b))) (codes "a!=(not b)") (codes "a!=(not b)")
  pub minus_on_the_right : Worked (phrase.Binary by.Mul a (phrase.Parens (phrase.Unary of.Neg b))) (codes "a*(-b)") (codes "a*-b")
  pub minus_of_product : Worked (phrase.Unary of.Neg (phrase.Parens (phrase.Binary by.Slash a b))) (codes "-(a/b)") (codes "-(a/b)")
  pub product_from_the_left : Worked (phrase.Binary by.Mul (phrase.Parens (phrase.Binary by.Slash a b)) c) (codes "(a/b)*c") (codes "a/b*c")
  pub if_between_words : Worked (phrase.Choose (phrase.Parens a) (phrase.Parens b) (phrase.Parens c)) (codes "if(a)then(b)else(c)") (codes "if a then b else c")
  pub or_on_the_right : Worked (phrase.Binary by.Or a (phrase.Parens (phrase.Binary by.Or b c))) (codes "a or(b or c)") (codes "a or(b or c)")
  -- Parts are nested at most 64 levels deep.
  pub level_64 : is_expression (wrapped 64 a) ≡ true
  pub level_65 : is_expression (wrapped 65 a) ≡ false
  pub level_64_of_name : is_expression (wrapped 64 (phrase.Present (codes "a"))) ≡ true
  pub nested_sum : nesting (phrase.Binary by.Add (phrase.Parens a) b) ≡ 1
  pub nested_call : nesting (phrase.Binary by.Min (phrase.Binary by.Max a b) c) ≡ 2
  pub nested_clamp : nesting (phrase.Clamp a (phrase.Clamp b c a) (phrase.Unary of.Abs c)) ≡ 2
  pub nested_if : nesting (phrase.Choose a (phrase.Choose b (phrase.Unary of.Not c) a) b) ≡ 3
  pub nested_scaling : nesting (phrase.Unary (of.ToFix 1) (phrase.Unary of.ToInt (phrase.Unary of.Neg a))) ≡ 3
