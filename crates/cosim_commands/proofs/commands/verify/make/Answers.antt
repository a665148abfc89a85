use Rattle.cosim_call.specs.Coming.{Makes}
use Rattle.cosim_call.specs.declared.coming.Stopped.TheVariants as stopped
use Rattle.command_line.specs.declared.commands.Command.TheVariants.{Verify}
use Rattle.cosim_answers.specs.Answer.{Answers}
use Rattle.cosim_answers.proofs.MakingLaws.{handed_on}
use Rattle.cosim_answers.proofs.TableLaws.{front_refused, never_parted, verdict_made}
use Rattle.cosim_commands.proofs.commands.verify.make.Goals as goal

pub returns-in_err-parts : goal.returns-in_err-parts
returns-in_err-parts c =
    handed_on (Makes (Answers Verify c.args.input.now)) c.from_residual.result c.in_err-parts.field-0.0 c.from_residual.ensures.1
    (never_parted c.args.input.now c.in_err-parts.field-0.0 c.requires.within c.in_err-parts.ensures)

pub returns-in_err-plan : goal.returns-in_err-plan
returns-in_err-plan c =
    let parts = c.in_ok-parts.parts in
    handed_on (Makes (Answers Verify c.args.input.now)) c.from_residual-in_err-plan.result c.in_err-plan.field-0.0
    c.from_residual-in_err-plan.ensures.1
    (front_refused c.args.input.now parts.model.now parts.table.now c.requires.within c.in_ok-parts.ensures c.in_err-plan.field-0.0
    c.in_err-plan.ensures.refused)

pub returns-in_err-verdict : goal.returns-in_err-verdict
returns-in_err-verdict c =
    handed_on (Makes (Answers Verify c.args.input.now)) c.from_residual-in_err-verdict.result stopped.NoMemory
    c.from_residual-in_err-verdict.ensures.1 tt

pub returns-in_err-line_of : goal.returns-in_err-line_of
returns-in_err-line_of c =
    handed_on (Makes (Answers Verify c.args.input.now)) c.from_residual-in_err-line_of.result stopped.NoMemory
    c.from_residual-in_err-line_of.ensures.1 tt

pub returns : goal.returns
returns c =
    let parts = c.in_ok-parts.parts in
    verdict_made c.args.input.now parts.model.now parts.table.now c.requires.within c.in_ok-parts.ensures c.in_ok-plan.plan.value.system
    c.in_ok-plan.ensures.planned c.in_ok-verdict.verdict c.in_ok-verdict.ensures c.in_ok-line_of.field-0 c.in_ok-line_of.ensures
