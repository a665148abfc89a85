use Rattle.std.proofs.Common.{◌≡◌, ◌∙◌, None, Some, ap, rules, subst, sym, w64, SFits}
use Rattle.std.proofs.lemmas.Int.{to_z-of_z}
use Rattle.std.specs.Fmt.{signed_decimal}
use Rattle.stimulus_tables.specs.TableFields.{IsWordText}
use Rattle.stimulus_tables.proofs.WordTexts.{word_other, word_read, word_unread}
use Rattle.stimulus_tables.proofs.fields.word_in.Goals as goal

pub returns-in_err-word : goal.returns-in_err-word
returns-in_err-word c =
    let none : c.parse_word.result ≡ None = search rules in
    let is : c.from_residual.result ≡ None = search rules in
    word_unread c.args.bytes.now c.parse_word.result c.from_residual.result c.parse_word.ensures none is

pub returns-then-eq : goal.returns-then-eq
returns-then-eq c =
    let fits : SFits w64 c.in_ok-word.word = search rules in
    let same = to_z-of_z w64 c.in_ok-word.word fits in
    subst (IsWordText c.args.bytes.now) (sym same)
    (word_read c.args.bytes.now c.as_bytes.result.now c.in_ok-word.word c.eq.result fits
    (c.as_bytes.ensures.value ∙ c.format.ensures.text ∙ ap signed_decimal same) c.eq.ensures c.if-eq.true)

pub returns-else-eq : goal.returns-else-eq
returns-else-eq c =
    let fits : SFits w64 c.in_ok-word.word = search rules in
    let some : c.parse_word.result ≡ Some c.in_ok-word.word = search rules in
    word_other c.args.bytes.now c.as_bytes.result.now c.in_ok-word.word c.parse_word.result c.eq.result c.parse_word.ensures some
    (c.as_bytes.ensures.value ∙ c.format.ensures.text ∙ ap signed_decimal (to_z-of_z w64 c.in_ok-word.word fits)) c.eq.ensures c.if-eq.false
