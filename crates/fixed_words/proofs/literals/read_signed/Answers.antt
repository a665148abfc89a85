use Rattle.std.proofs.Common.{◌≡◌, ap, sym, ◌∙◌, unwrap_or, Some, w64, SFits, rules}
use Rattle.std.proofs.lemmas.Int.{to_z-of_z}
use Rattle.fixed_words.specs.declared.types.Literal.TheVariants.{Number}
use Rattle.fixed_words.specs.Literals.{with_sign}
use Rattle.fixed_words.proofs.Spellings.{signed_parts, made_word}
use Rattle.fixed_words.proofs.literals.read_signed.Goals as goal

pub returns-in_err-digits-clause-only : goal.returns-in_err-digits-clause-only
returns-in_err-digits-clause-only c = λ word decimals is.
    let parts =
    signed_parts word decimals c.args.text.now c.split_sign-negative.result.1.now c.split_sign-negative.result.0 c.split_sign-negative.ensures.spelled
    c.split_sign-negative.ensures.no_sign is in
    let found = sym c.in_err-digits.was ∙ c.read_number.ensures.only is.digits decimals parts.0 in
    cc

pub returns-in_err-word-clause-only : goal.returns-in_err-word-clause-only
returns-in_err-word-clause-only c = λ word decimals is.
    let parts =
    signed_parts word decimals c.args.text.now c.split_sign-negative.result.1.now c.split_sign-negative.result.0 c.split_sign-negative.ensures.spelled
    c.split_sign-negative.ensures.no_sign is in
    let found = sym c.in_ok-digits.was ∙ c.read_number.ensures.only is.digits decimals parts.0 in
    let digits_are : c.in_ok-digits.field-0.digits ≡ is.digits = ap (λ o. (unwrap_or o c.in_ok-digits.field-0).digits) found in
    let made = sym c.in_err-word.was
    ∙ made_word c.signed_word.result (with_sign c.split_sign-negative.result.0 c.in_ok-digits.field-0.digits) word c.signed_word.ensures
    (ap (with_sign c.split_sign-negative.result.0) digits_are ∙ parts.1) is.fits in
    cc

pub returns-clause-only : goal.returns-clause-only
returns-clause-only c = λ word decimals is.
    let parts =
    signed_parts word decimals c.args.text.now c.split_sign-negative.result.1.now c.split_sign-negative.result.0 c.split_sign-negative.ensures.spelled
    c.split_sign-negative.ensures.no_sign is in
    let found = sym c.in_ok-digits.was ∙ c.read_number.ensures.only is.digits decimals parts.0 in
    let digits_are : c.in_ok-digits.field-0.digits ≡ is.digits = ap (λ o. (unwrap_or o c.in_ok-digits.field-0).digits) found in
    let decimals_are : c.in_ok-digits.field-0.decimals ≡ decimals = ap (λ o. (unwrap_or o c.in_ok-digits.field-0).decimals) found in
    let made = sym c.in_ok-word.was
    ∙ made_word c.signed_word.result (with_sign c.split_sign-negative.result.0 c.in_ok-digits.field-0.digits) word c.signed_word.ensures
    (ap (with_sign c.split_sign-negative.result.0) digits_are ∙ parts.1) is.fits in
    let word_is : c.in_ok-word.word ≡ word = ap (λ o. unwrap_or o c.in_ok-word.word) made in
    let fits : SFits w64 c.in_ok-word.word = search rules in
    let kept = to_z-of_z w64 c.in_ok-word.word fits ∙ word_is in
    ap (λ z. Some (Number z c.in_ok-digits.field-0.decimals)) kept ∙ ap (λ n. Some (Number word n)) decimals_are
