-- A canonical line is never longer than a line that it came from.
use Rattle.std.proofs.Common.{◌≡◌, ◌≤◌, ℕ, zero, suc, Bool, true, false, ℤ, pos, unsigned_abs, List, [], ◌∷◌, ◌++◌, length, refl, sym, ap, subst, ◌∙◌, arith}
use Rattle.std.proofs.Common.{◌==◌}
use Rattle.std.specs.List.{position_or_len}
use Rattle.std.proofs.lemmas.List.{append-nil, length-take}
use Rattle.fixed_words.specs.Literals.{with_sign}
use Rattle.fixed_words.specs.declared.types.Literal.{Literal}
use Rattle.fixed_words.specs.declared.types.Literal.TheVariants as literal
use Rattle.text_laws.specs.Laws.{CanonicalLinesAreShortest}
use Rattle.text_laws.proofs.ShortestPhrases.{TakeNoMore, as_much, take_after, expression_takes_no_more}
use Rattle.text_laws.proofs.TokenWidths.{width, width_bound, line_is_no_shorter, tokens_within}
use Rattle.unit_tree.specs.Canonical.{literal_tokens, tail_tokens, form_tokens}
use Rattle.unit_tree.specs.LineForms.{Tail, Nothing, OfLiteral, OfSeconds, OfExpression, front_tokens, tail_of, sign_tokens, WritesNumber, WritesLiteral}
use Rattle.unit_tree.specs.LineForms.{WritesSeconds, WritesTail, WritesForm}
use Rattle.unit_tree.specs.Lines.{code_of}
use Rattle.unit_tree.specs.Phrases.{keyword, truth_word}
use Rattle.unit_tree.specs.declared.line_form.LineForm.{LineForm}
use Rattle.unit_tree.specs.declared.token.Token.{Token}
use Rattle.unit_tree.specs.declared.token.Token.TheVariants as token
use Rattle.list_laws.proofs.Truths.{not_negative}

-- ---- Tails

-- A number from 0 up has no sign.
pub unsigned_tokens : (digits decimals : ℕ) → literal_tokens (literal.Number (pos digits) decimals) ≡ token.Number digits decimals ∷ []
unsigned_tokens digits decimals =
    let magnitude : unsigned_abs (pos digits) ≡ digits = omega arith in
    rw (not_negative digits, magnitude) refl

-- A sign before 0 is left out, and is there before every negative number.
signed_number : (negative : Bool) (digits decimals : ℕ)
    → TakeNoMore (literal_tokens (literal.Number (with_sign negative digits) decimals)) (sign_tokens negative ++ (token.Number digits decimals ∷ []))
signed_number false digits decimals =
    as_much (literal_tokens (literal.Number (pos digits) decimals)) (token.Number digits decimals ∷ []) (unsigned_tokens digits decimals)
signed_number true zero decimals = record { within = λ behind rest. omega (arith, width_bound behind false (token.Number 0 decimals ∷ rest)) }
signed_number true (suc digits) decimals =
    as_much (literal_tokens (literal.Number (with_sign true (suc digits)) decimals)) (sign_tokens true ++ (token.Number (suc digits) decimals ∷ [])) refl

-- A number of a line, which may have a sign.
number_takes_no_more : (number : ℤ) (decimals : ℕ) (tokens : List Token) → WritesNumber number decimals tokens
    → TakeNoMore (literal_tokens (literal.Number number decimals)) tokens
number_takes_no_more number decimals tokens written =
    subst (λ n. TakeNoMore (literal_tokens (literal.Number n decimals)) tokens) written.value
    (subst (TakeNoMore (literal_tokens (literal.Number (with_sign written.negative written.digits) decimals))) (sym written.spelled)
    (signed_number written.negative written.digits decimals))

-- A literal.
literal_takes_no_more : (value : Literal) (tokens : List Token) → WritesLiteral value tokens → TakeNoMore (literal_tokens value) tokens
literal_takes_no_more (literal.Truth told) tokens written = as_much (keyword (truth_word told) ∷ []) tokens (sym written)
literal_takes_no_more (literal.Number number decimals) tokens written = number_takes_no_more number decimals tokens written

-- A number of seconds, which has no sign.
seconds_take_no_more : (seconds : Literal) (tokens : List Token) → WritesSeconds seconds tokens → TakeNoMore (literal_tokens seconds) tokens
seconds_take_no_more (literal.Truth told) tokens written = absurd written
seconds_take_no_more (literal.Number number decimals) tokens written =
    as_much (literal_tokens (literal.Number number decimals)) tokens
    (ap (λ n. literal_tokens (literal.Number n decimals)) written.2 ∙ unsigned_tokens written.0 decimals ∙ sym written.3)

-- The end of a form.
tail_takes_no_more : (tail : Tail) (tokens : List Token) → WritesTail tail tokens → TakeNoMore (tail_tokens tail) tokens
tail_takes_no_more Nothing tokens written = as_much [] tokens (sym written)
tail_takes_no_more (OfLiteral value) tokens written = literal_takes_no_more value tokens written
tail_takes_no_more (OfSeconds seconds) tokens written = seconds_take_no_more seconds tokens written
tail_takes_no_more (OfExpression value) tokens written = expression_takes_no_more value tokens written

-- ---- Lines

-- The canonical tokens of a form take no more bytes than tokens that write it.
form_takes_no_more : (some : LineForm) (tokens : List Token) → WritesForm some tokens → TakeNoMore (form_tokens some) tokens
form_takes_no_more some tokens written =
    subst (TakeNoMore (form_tokens some)) (sym written.spelled)
    (take_after (front_tokens some) (tail_takes_no_more (tail_of some) written.tail written.tail_is))

-- The code of a line is a part of it.
code_within : (line : List ℕ) → length (code_of line) ≤ length line
code_within line = omega (arith, length-take (position_or_len (λ byte. byte == 35) line) line)

-- The canonical line, its tokens, the written tokens, the code and the line, each no longer than the next.
pub shortest : CanonicalLinesAreShortest
shortest some line has =
    omega (
      arith,
      tokens_within (form_tokens some),
      width_of_tokens (form_takes_no_more some has.tokens has.written),
      line_is_no_shorter has.tokens (code_of line) has.spelled,
      code_within line,
    )
  where
    width_of_tokens : TakeNoMore (form_tokens some) has.tokens → width false (form_tokens some) ≤ width false has.tokens
    width_of_tokens less = rw (sym (append-nil (form_tokens some)), sym (append-nil has.tokens)) (less.within false [])
