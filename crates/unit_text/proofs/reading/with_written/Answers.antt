use Rattle.std.proofs.Common.{Err, ap, sym, subst, ◌∙◌}
use Rattle.unit_text.specs.Reading.{LineGives, AnswersAt, fault_at}
use Rattle.unit_text.proofs.LineAnswers.{formless_answer}
use Rattle.unit_text.proofs.reading.with_written.Goals as goal

pub returns-in-Err : goal.returns-in-Err
returns-in-Err c =
    subst (AnswersAt c.args.number (LineGives c.args.draft c.args.line.now)) (ap Err (sym (c.at_line.ensures ∙ ap (fault_at c.in-Err.unread c.args.number) c.number.ensures)))
    (formless_answer c.args.draft c.args.line.now c.args.number c.in-Err.unread c.requires c.in-Err.ensures)
