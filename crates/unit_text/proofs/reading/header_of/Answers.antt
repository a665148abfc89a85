use Rattle.std.proofs.Common.{◌≡◌, ◌+◌, length, arith, inr, sym, subst}
use Rattle.std.proofs.lemmas.Bool.Decides.{nat_tests}
use Rattle.unit_text.specs.Reading.{FirstAt}
use Rattle.text_lines.specs.LineClass.{TellsOf}
use Rattle.text_lines.specs.declared.lines.LineClass.TheVariants as told
use Rattle.unit_text.proofs.ReadingLaws.{blank_end, first_at, head_answer}
use Rattle.unit_text.proofs.reading.header_of.Goals as goal

pub returns : goal.returns
returns c =
    let none : length c.loop-rest.rest.now ≡ 0 = grind (arith, nat_tests, c.loop-rest-test.ensures) in
    inr (blank_end c.args.text.now c.loop-rest.rest.now c.loop-rest.number c.loop-rest.invariant none)

pub returns-in-Err : goal.returns-in-Err
returns-in-Err c =
    let first : FirstAt c.args.text.now c.without_return-line.result.now (c.loop-rest.number + 1) c.cut_line.result.1.now =
    subst (λ line. FirstAt c.args.text.now line (c.loop-rest.number + 1) c.cut_line.result.1.now) (sym c.without_return-line.ensures)
    (first_at c.args.text.now c.loop-rest.rest.now c.cut_line.result.0.now c.cut_line.result.1.now c.loop-rest.number c.loop-rest.invariant
    c.cut_line.ensures.cut c.cut_line.ensures.shorter)
    in
    let tells : TellsOf c.without_return-line.result.now told.Written = c.in-Written.ensures in
    head_answer c.args.text.now c.without_return-line.result.now c.cut_line.result.1.now (c.loop-rest.number + 1) c.in-Err.fault first
    (record { clean = tells.0; written = tells.1 }) c.in-Err.ensures
