use Rattle.std.proofs.Common.{inr, refl, ap, ◌∙◌}
use Rattle.cosim_call.specs.Coming.{Makes}
use Rattle.cosim_call.specs.declared.coming.Stopped.TheVariants as stopped
use Rattle.cosim_answers.specs.Accepted.{printed_text}
use Rattle.cosim_answers.specs.Answer.{Answers}
use Rattle.command_line.specs.declared.commands.Command.TheVariants.{Print}
use Rattle.cosim_answers.proofs.MakingLaws.{handed_on, made, not_accepted}
use Rattle.cosim_commands.proofs.commands.print.make.Goals as goal

pub returns-in_err-read : goal.returns-in_err-read
returns-in_err-read c =
    handed_on (Makes (Answers Print c.args.text.now)) c.from_residual.result c.in_err-read.field-0.0 c.from_residual.ensures.1
    (not_accepted Print c.args.text.now c.in_err-read.field-0.0 (λ line rule refused. refused) c.in_err-read.ensures)

pub returns-in_err-canonical : goal.returns-in_err-canonical
returns-in_err-canonical c =
    handed_on (Makes (Answers Print c.args.text.now)) c.from_residual-in_err-canonical.result stopped.NoMemory c.from_residual-in_err-canonical.ensures.1 tt

pub returns : goal.returns
returns c =
    made (Answers Print c.args.text.now) (printed_text c.in_ok-read.read.checked) c.in_ok-canonical.field-0
    (c.in_ok-canonical.ensures ∙ ap printed_text c.source.ensures)
    (inr (record { system = c.in_ok-read.read.checked; lines = c.in_ok-read.read.lines; accepted = c.in_ok-read.ensures.0; is = refl }))
