-- What tokens write is what is read from them.
use Rattle.std.proofs.Common.{◌≡◌, List, [], ◌∷◌, Option, Some, None, Result, Ok, Err, refl, ap, sym, ◌∙◌, arith, nat_le, inl, inr}
use Rattle.std.specs.Prelude.{IfSome, ◌⊎◌}
use Rattle.std.proofs.lemmas.Bool.{and_parts, and_from}
use Rattle.std.proofs.lemmas.Bool.Decides.{nat_tests}
use Rattle.std.proofs.lemmas.List.{append-nil}
use Rattle.unit_tree.specs.Phrases.{Whole, nesting, stands, phrase_tokens, Writes}
use Rattle.unit_tree.specs.declared.expr.Expr.{Expr}
use Rattle.unit_tree.specs.declared.token.Token.{Token}
use Rattle.text_tokens.specs.Scanning.{Gives, ReadsAs}
use Rattle.text_tokens.specs.declared.fault.Unread.{Unread}
use Rattle.text_tokens.specs.declared.fault.Unread.TheVariants as unread
use Rattle.text_lines.specs.Expressions.{Front, read, whole_tree, read_expression, ExpressionIs, WritesOneTree}
use Rattle.text_lines.proofs.ReadExpressions.{IsFront, read_is}
use Rattle.text_lines.proofs.RoundTrip.{read_again}

-- What the tokens write is read from them.
pub read_written : (tree : Expr) (tokens : List Token) → Writes tree tokens → read_expression tokens ≡ Some tree
unfolding read_expression
read_written tree tokens is =
    let whole = and_parts (stands Whole is.phrase) _ is.is_grammatical in
    let numbers = and_parts (nat_le (nesting is.phrase) 64) _ whole.1 in
    ap (λ all. whole_tree (read 64 Whole all)) (sym is.spelled)
    ∙ ap (λ all. whole_tree (read 64 Whole all)) (sym (append-nil (phrase_tokens is.phrase)))
    ∙ ap whole_tree (read_again is.phrase 64 Whole [] whole.0 (grind (arith, nat_tests)) numbers.1 tt)
    ∙ ap Some is.is_tree

-- What was read is written by the tokens, if no token is left.
written_by : (tree : Expr) (tokens : List Token) (found : Option Front) → IfSome found (IsFront 65 Whole tokens) → whole_tree found ≡ Some tree
    → Writes tree tokens
written_by tree tokens None is same = absurd (cc)
written_by tree tokens (Some (read, level, [])) is same =
    let one : read ≡ tree = cc in
    record {
      phrase = is.written;
      is_tree = is.is_tree ∙ one;
      spelled = sym (append-nil (phrase_tokens is.written)) ∙ is.spelled;
      is_grammatical = let deep = is.nested in
          and_from (stands Whole is.written) _ is.stands_so (and_from (nat_le (nesting is.written) 64) _ (grind (arith, nat_tests)) is.fits);
    }
written_by tree tokens (Some (read, level, first ∷ rest)) is same = absurd (cc)

-- What is read from the tokens is what they write.
pub written_read : (tree : Expr) (tokens : List Token) → read_expression tokens ≡ Some tree → Writes tree tokens
unfolding read_expression
written_read tree tokens same = written_by tree tokens (read 64 Whole tokens) (read_is 64 Whole tokens) same

-- The result of the definition of reading states what the tokens write.
pub expression_is : (tokens : List Token) (found : Option Expr) → read_expression tokens ≡ found → ExpressionIs tokens found
expression_is tokens (Some tree) same = written_read tree tokens same
expression_is tokens None same = λ tree written. let is = read_written tree tokens written in absurd (cc)

-- The result of reading states what the tokens write.
pub reads_as : (tokens : List Token) (result : Result Expr Unread) → Gives result (read_expression tokens) → ReadsAs result (ExpressionIs tokens)
reads_as tokens (Ok tree) gives = expression_is tokens (Some tree) gives
reads_as tokens (Err unread.NoForm) gives = expression_is tokens None gives
reads_as tokens (Err unread.NoMemory) gives = tt

-- It is decided whether tokens write an expression.
decided_by : (tokens : List Token) (found : Option Expr) → ExpressionIs tokens found
    → ((tree : Expr) × Writes tree tokens) ⊎ ((tree : Expr) → Writes tree tokens → ⊥)
decided_by tokens (Some tree) is = inl (tree, is)
decided_by tokens None is = inr is

pub expression_decided : (tokens : List Token) → ((tree : Expr) × Writes tree tokens) ⊎ ((tree : Expr) → Writes tree tokens → ⊥)
expression_decided tokens = decided_by tokens (read_expression tokens) (expression_is tokens (read_expression tokens) refl)

-- Two expressions that they write are both the one that is read.
pub writes_one : WritesOneTree
writes_one tokens one other first second =
    let same : ◌≡◌ {A = Option Expr} (Some one) (Some other) = sym (read_written one tokens first) ∙ read_written other tokens second in
    cc
