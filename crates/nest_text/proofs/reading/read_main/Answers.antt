use Rattle.std.proofs.Common.{◌≤◌, ◌+◌, length, subst, Err, arith}
use Rattle.unit_text.specs.Reading.{AnswersText}
use Rattle.nest_text.proofs.RefusedLines.{line_refused, lines_fit}
use Rattle.nest_text.proofs.reading.read_main.Goals as goal

pub overflow_add-result : goal.overflow_add-result
overflow_add-result c =
    let at = line_refused c.args.text.now c.in-Err-Line.line c.in-Err-Line.rule (subst (λ why. AnswersText c.args.text.now (Err why)) c.in-Err-Line.field-0-is c.in-Err-Line.ensures.answer) in
    let last = at.last in
    let fits = lines_fit c.args.text.now in
    let short : c.args.main_line + length c.args.text.now ≤ 1048576 = c.requires in
    omega (arith, last, fits, short)
