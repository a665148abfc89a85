use Rattle.std.proofs.Common.{◌≡◌, ◌∙◌, ◌<◌, ◌^◌, sym, subst, ap, rules, unsigned_abs, w64, FitsSigned}
use Rattle.std.proofs.lemmas.Int.{to_z-of_z}
use Rattle.std.specs.Fmt.{signed_decimal}
use Rattle.csv.specs.declared.writer.QuoteStyle.TheVariants as style
use Rattle.fixed_words.specs.Texts.{text_of}
use Rattle.trace_csv.specs.Writers.{IsBare}
use Rattle.trace_csv.proofs.BareTexts.{word_bare, integer_text}
use Rattle.trace_csv.proofs.row.put_word.Goals as goal

pub returns-in_ok-word_text-in-Bool : goal.returns-in_ok-word_text-in-Bool
returns-in_ok-word_text-in-Bool c =
    λ before fields has.
    let small : unsigned_abs c.args.word < 2 ^ 64 = search rules in
    let fits : FitsSigned w64 c.args.word = search rules in
    let added : c.word_text.new.out.items ≡ text_of c.args.ty c.args.word =
    rw (c.clear.ensures.items, to_z-of_z w64 _ fits) at c.in_ok-word_text-in-Bool.ensures.ok in
    let field : c.as_slice.result.now ≡ text_of c.args.ty c.args.word = c.as_slice.ensures.value ∙ added in
    rw field at (c.put_field.ensures style.Necessary before fields has (subst (IsBare style.Necessary) (sym field) (word_bare c.args.ty c.args.word small)))

pub returns-in_default : goal.returns-in_default
returns-in_default c =
    λ before fields has.
    let small : unsigned_abs c.args.word < 2 ^ 64 = search rules in
    let fits : FitsSigned w64 c.args.word = search rules in
    let field : c.as_bytes.result.now ≡ text_of c.args.ty c.args.word =
    c.as_bytes.ensures.value
    ∙ c.format.ensures.text
    ∙ ap signed_decimal (to_z-of_z w64 _ fits)
    ∙ sym (integer_text c.args.ty c.args.word c.in_default.not-Bool c.in_default.not-Fixed) in
    rw field at
    (c.put_field-in_default.ensures style.Necessary before fields has (subst (IsBare style.Necessary) (sym field) (word_bare c.args.ty c.args.word small)))
