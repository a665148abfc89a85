use Rattle.std.proofs.Common.{Err, subst}
use Rattle.nest_text.specs.Reading.{GroupAnswers, InsideAnswers}
use Rattle.nest_text.proofs.NestAnswers.{group_failed_inside, handed_on}
use Rattle.nest_text.proofs.groups.read_group.Goals as goal

pub returns-in_err-instances : goal.returns-in_err-instances
returns-in_err-instances c = λ lines name ready.
    let why = c.in_err-instances.field-0.0 in
    handed_on c.from_residual.result why (GroupAnswers lines) c.from_residual.ensures.1
    (group_failed_inside lines c.args.body why ready
    (subst (λ text. InsideAnswers text c.args.body.numbers (Err why)) c.as_slice.ensures.value
    (subst (λ numbers. InsideAnswers c.as_slice.result.now numbers (Err why)) c.as_slice-2.ensures c.in_err-instances.ensures)))
