-- Canonical tokens write their form.
use Rattle.std.proofs.Common.{◌≡◌, ℕ, ◌<◌, ◌^◌, true, not, ℤ, pos, negsuc, nat_le, IsTrue, refl, arith}
use Rattle.std.specs.Int.{is_negative}
use Rattle.std.specs.Prelude.{unsigned_abs}
use Rattle.std.proofs.lemmas.Bool.{and_parts, and_from}
use Rattle.std.proofs.lemmas.Bool.Decides.{nat_tests}
use Rattle.fixed_words.specs.Literals.{with_sign}
use Rattle.fixed_words.specs.Types.{is_word_of}
use Rattle.fixed_words.specs.declared.types.Literal.{Literal}
use Rattle.fixed_words.specs.declared.types.Literal.TheVariants as literal
use Rattle.fixed_words.specs.declared.types.Ty.TheVariants.{Int64}
use Rattle.unit_tree.specs.Canonical.{canonical_phrase, expression_tokens, literal_tokens, tail_tokens, form_tokens}
use Rattle.unit_tree.specs.LineForms.{Tail, Nothing, OfLiteral, OfSeconds, OfExpression, tail_of, WritesNumber, WritesLiteral, WritesSeconds, WritesTail}
use Rattle.unit_tree.specs.LineForms.{WritesForm}
use Rattle.unit_tree.specs.Phrases.{Whole, stands, nesting, numbers_fit, Writes}
use Rattle.unit_tree.specs.Printable.{IsInRange, IsTailInRange, is_unsigned, is_word_literal, is_seconds, is_writable}
use Rattle.unit_tree.specs.declared.expr.Expr.{Expr}
use Rattle.unit_tree.specs.declared.line_form.LineForm.{LineForm}
use Rattle.language_laws.proofs.PhraseLaws.{right}
use Rattle.text_laws.proofs.NestingOfPhrases.{canonical_numbers_fit}
use Rattle.text_laws.proofs.ShortestLines.{unsigned_tokens}

-- A number is its magnitude with its sign.
signed_again : (number : ℤ) → with_sign (is_negative number) (unsigned_abs number) ≡ number
signed_again (pos n) = grind (arith, nat_tests)
signed_again (negsuc n) = grind (arith, nat_tests)

-- The tokens of a number that is a word write it.
number_is_written : (number : ℤ) (decimals : ℕ) → is_word_of Int64 number ≡ true
    → WritesNumber number decimals (literal_tokens (literal.Number number decimals))
number_is_written number decimals fits =
    record { negative = is_negative number; digits = unsigned_abs number; spelled = refl; value = signed_again number; fits = fits }

-- Those of a literal write it.
literal_is_written : (value : Literal) → is_word_literal value ≡ true → WritesLiteral value (literal_tokens value)
literal_is_written (literal.Truth told) fits = refl
literal_is_written (literal.Number number decimals) fits = number_is_written number decimals fits

-- Those of a number of seconds write it.
seconds_are_written : (seconds : Literal) → is_seconds seconds ≡ true → WritesSeconds seconds (literal_tokens seconds)
seconds_are_written (literal.Truth told) is = absurd (cc)
seconds_are_written (literal.Number (pos digits) decimals) is =
    let both = and_parts (not (is_negative (pos digits))) (is_word_of Int64 (pos digits)) is in
    let small : digits < 2 ^ 63 = grind (arith, nat_tests) in
    (digits, small, refl, unsigned_tokens digits decimals)
seconds_are_written (literal.Number (negsuc n) decimals) is = absurd (cc)

-- Those of an expression write it.
expression_is_again : (value : Expr) → IsTailInRange (OfExpression value) → is_writable (OfExpression value) ≡ true → Writes value (expression_tokens value)
expression_is_again value ranged writable =
    let both = and_parts (is_unsigned value) (nat_le (nesting (canonical_phrase value)) 64) writable in
    let is = right value both.0 in
    record {
      phrase = canonical_phrase value;
      is_tree = is.is_tree;
      spelled = refl;
      is_grammatical =
          and_from (stands Whole (canonical_phrase value)) _ is.stands_so
          (and_from (nat_le (nesting (canonical_phrase value)) 64) (numbers_fit (canonical_phrase value)) both.1 (canonical_numbers_fit value both.0 ranged));
    }

-- Those of a tail write it.
tail_is_written : (tail : Tail) → IsTailInRange tail → is_writable tail ≡ true → WritesTail tail (tail_tokens tail)
tail_is_written Nothing ranged writable = refl
tail_is_written (OfLiteral value) ranged writable = literal_is_written value writable
tail_is_written (OfSeconds seconds) ranged writable = seconds_are_written seconds writable
tail_is_written (OfExpression value) ranged writable = expression_is_again value ranged writable

-- The canonical tokens of a form write it, if the form is in range and its tail can be written.
pub canonical_is_written : (some : LineForm) → IsInRange some → IsTrue (is_writable (tail_of some)) → WritesForm some (form_tokens some)
canonical_is_written some ranged writable = record {
  tail = tail_tokens (tail_of some);
  spelled = refl;
  tail_is = tail_is_written (tail_of some) ranged.1 writable;
  counts = ranged.0;
}
