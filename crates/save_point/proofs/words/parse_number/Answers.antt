use Rattle.std.proofs.Common.{◌≡◌, ◌∙◌, None, Some, rules}
use Rattle.save_point.proofs.NumberTexts.{number_parsed, number_utf8}
use Rattle.text_laws.proofs.WordTexts.{no_text, text_read}
use Rattle.save_point.proofs.words.parse_number.Goals as goal

pub returns-in_err-ok : goal.returns-in_err-ok
returns-in_err-ok c = λ number within is.
    let none : c.ok.result ≡ None = search rules in
    absurd (no_text _ c.args.bytes.now c.from_utf8.result c.ok.result c.from_utf8.ensures.cases c.ok.ensures.value none
    (number_utf8 c.args.bytes.now number within is))

pub returns : goal.returns
returns c = λ number within is.
    let some : c.ok.result ≡ Some c.in_ok-ok.field-0 = search rules in
    c.ok-2.ensures.value
    ∙ number_parsed c.args.bytes.now c.in_ok-ok.field-0.now c.parse.result number
    (text_read _ c.args.bytes.now c.from_utf8.result c.ok.result c.in_ok-ok.field-0 c.from_utf8.ensures.cases c.ok.ensures.value some)
    c.parse.ensures.value.0 within is
