use Rattle.std.proofs.Common.{◌≡◌, Some}
use Rattle.fixed_words.specs.declared.types.Literal.TheVariants.{Truth, Number}
use Rattle.fixed_words.specs.Literals.{IsLiteralText}
use Rattle.fixed_words.proofs.Spellings.{not_both}
use Rattle.fixed_words.proofs.literals.read_literal.Goals as goal

pub returns-in-Some-clause-only : goal.returns-in-Some-clause-only
returns-in-Some-clause-only c = λ literal.
    elim literal as (λ l. IsLiteralText c.args.text.now l → Some (Truth c.in-Some.told) ≡ Some l) [
      | Truth other ↦ λ is. let same = c.in-Some.ensures.only other is in cc
      | Number word decimals ↦ λ is. absurd (not_both c.in-Some.told word decimals c.args.text.now c.in-Some.ensures.some is)
    ]
