use Rattle.std.proofs.Common.{◌-◌, ◌<◌, length, subst, Err, arith}
use Rattle.unit_text.specs.Reading.{AnswersText}
use Rattle.std.proofs.lemmas.Option.{slice_get-get_or}
use Rattle.nest_text.proofs.RefusedLines.{line_refused}
use Rattle.nest_text.proofs.groups.read_inside.Goals as goal

pub overflow_sub-result : goal.overflow_sub-result
overflow_sub-result c = (line_refused c.args.text.now c.in-Err-Line.line c.in-Err-Line.rule (subst (λ why. AnswersText c.args.text.now (Err why)) c.in-Err-Line.field-0-is c.in-Err-Line.ensures.answer)).first

pub bounds-numbers-line : goal.bounds-numbers-line
bounds-numbers-line c =
    let at = line_refused c.args.text.now c.in-Err-Line.line c.in-Err-Line.rule (subst (λ why. AnswersText c.args.text.now (Err why)) c.in-Err-Line.field-0-is c.in-Err-Line.ensures.answer) in
    let first = at.first in
    let some = c.requires.some in
    let long = c.requires.long in
    let within = at.within (omega (arith, some, long)) in
    omega (arith, first, within, long)

pub returns-in-Err-Line : goal.returns-in-Err-Line
returns-in-Err-Line c =
    let at = line_refused c.args.text.now c.in-Err-Line.line c.in-Err-Line.rule (subst (λ why. AnswersText c.args.text.now (Err why)) c.in-Err-Line.field-0-is c.in-Err-Line.ensures.answer) in
    let first = at.first in
    let some = c.requires.some in
    let long = c.requires.long in
    let within = at.within (omega (arith, some, long)) in
    let bound : c.in-Err-Line.line - 1 < length c.args.numbers.now = omega (arith, first, within, long) in
    (c.in-Err-Line.line, (subst (λ why. AnswersText c.args.text.now (Err why)) c.in-Err-Line.field-0-is c.in-Err-Line.ensures.answer), slice_get-get_or c.args.numbers.now (c.in-Err-Line.line - 1) 0 bound)
