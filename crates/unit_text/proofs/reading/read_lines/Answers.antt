use Rattle.std.proofs.Common.{◌≡◌, ◌+◌, ◌++◌, Ok, Err, length, arith, sym, subst}
use Rattle.std.proofs.lemmas.Bool.Decides.{nat_tests}
use Rattle.unit_text.specs.Drafts.{bare_draft}
use Rattle.unit_text.specs.Numbering.{marks_of}
use Rattle.unit_text.specs.Reading.{LineGives, WholeGives, AnswersAt}
use Rattle.unit_text.proofs.KnownForms.{known}
use Rattle.unit_text.proofs.ReadingLaws.{Reached, reached_first, reached_next, header_error, line_error, whole_answer}
use Rattle.unit_text.proofs.reading.read_lines.Goals as goal
use Rattle.list_laws.proofs.Options.{and_kept}

pub returns-in_err-version : goal.returns-in_err-version
returns-in_err-version c =
    header_error known c.args.text.now c.in_err-version.field-0.0 c.from_residual.result c.requires.short c.requires.written c.in_err-version.ensures
    c.from_residual.ensures.1

pub loop-rest-init : goal.loop-rest-init
loop-rest-init c =
    subst (λ draft. Reached c.args.text.now c.in_ok-version.rest.now c.in_ok-version.header c.in_ok-version.header draft c.new-marks.result.items)
    (sym c.new-draft.ensures)
    (subst (Reached c.args.text.now c.in_ok-version.rest.now c.in_ok-version.header c.in_ok-version.header (bare_draft c.in_ok-version.version))
    (sym c.new-marks.ensures.items)
    (reached_first known c.args.text.now c.in_ok-version.version c.in_ok-version.header c.in_ok-version.rest.now c.in_ok-version.ensures))

pub returns-in_err-next : goal.returns-in_err-next
returns-in_err-next c =
    line_error known c.args.text.now c.loop-rest.rest.now c.cut_line.result.0.now c.cut_line.result.1.now c.in_ok-version.header c.loop-rest.number
    c.loop-rest.draft c.loop-rest.marks.items c.in_err-next.field-0.0 c.from_residual-in_err-next.result c.requires.short c.requires.written
    c.loop-rest.invariant c.cut_line.ensures.cut
    (subst (λ line. AnswersAt (c.loop-rest.number + 1) (LineGives c.loop-rest.draft line)
    (Err c.in_err-next.field-0.0)) c.without_return.ensures c.in_err-next.ensures) c.from_residual-in_err-next.ensures.1

pub loop-rest-preserved : goal.loop-rest-preserved
loop-rest-preserved c =
    let noted : (c.in_ok-draft.draft ≡ c.in_ok-next.next)
    × (c.note.new.marks.items ≡ c.loop-rest.marks.items ++ marks_of c.in_ok-next.group (c.loop-rest.number + 1)) =
    and_kept c.note.result c.in_ok-next.next c.in_ok-draft.draft c.note.ensures c.in_ok-draft.ensures in
    subst (λ draft. Reached c.args.text.now c.cut_line.result.1.now c.in_ok-version.header (c.loop-rest.number + 1) draft c.note.new.marks.items) (sym noted.0)
    (subst (Reached c.args.text.now c.cut_line.result.1.now c.in_ok-version.header (c.loop-rest.number + 1) c.in_ok-next.next) (sym noted.1)
    (reached_next known c.args.text.now c.loop-rest.rest.now c.cut_line.result.0.now c.cut_line.result.1.now c.in_ok-version.header c.loop-rest.number
    c.loop-rest.draft c.in_ok-next.next c.loop-rest.marks.items c.in_ok-next.group c.loop-rest.invariant c.cut_line.ensures.cut c.cut_line.ensures.shorter
    (subst (λ line. LineGives c.loop-rest.draft line (Ok (c.in_ok-next.next, c.in_ok-next.group))) c.without_return.ensures c.in_ok-next.ensures)))

pub returns : goal.returns
returns c =
    let none : length c.loop-rest.rest.now ≡ 0 = grind (arith, nat_tests, c.loop-rest-test.ensures) in
    whole_answer c.args.text.now c.loop-rest.rest.now c.in_ok-version.header c.loop-rest.number c.loop-rest.draft c.loop-rest.marks.items c.whole_text.result
    c.requires.short c.requires.written c.loop-rest.invariant none
    (subst (λ marks. WholeGives c.loop-rest.draft c.in_ok-version.header marks c.loop-rest.number c.whole_text.result) c.as_slice.ensures.value
    c.whole_text.ensures)
