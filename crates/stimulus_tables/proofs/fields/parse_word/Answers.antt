use Rattle.std.proofs.Common.{◌≡◌, ◌∙◌, None, Some, rules}
use Rattle.text_laws.proofs.WordTexts.{no_text, text_read, word_parsed, word_utf8}
use Rattle.stimulus_tables.proofs.fields.parse_word.Goals as goal

pub returns-in_err-ok : goal.returns-in_err-ok
returns-in_err-ok c = λ word fits is.
    let none : c.ok.result ≡ None = search rules in
    absurd (no_text _ c.args.bytes.now c.from_utf8.result c.ok.result c.from_utf8.ensures.cases c.ok.ensures.value none
    (word_utf8 c.args.bytes.now word fits is))

pub returns : goal.returns
returns c = λ word fits is.
    let some : c.ok.result ≡ Some c.in_ok-ok.field-0 = search rules in
    c.ok-2.ensures.value
    ∙ word_parsed c.args.bytes.now c.in_ok-ok.field-0.now c.parse.result word
    (text_read _ c.args.bytes.now c.from_utf8.result c.ok.result c.in_ok-ok.field-0 c.from_utf8.ensures.cases c.ok.ensures.value some)
    c.parse.ensures.value.0 fits is
