use Rattle.std.proofs.Common.{inr, refl, ap, ◌∙◌}
use Rattle.cosim_call.specs.Coming.{Makes}
use Rattle.cosim_call.specs.declared.coming.Stopped.TheVariants as stopped
use Rattle.cosim_answers.specs.Accepted.{printed_text}
use Rattle.cosim_answers.specs.Answer.{Answers}
use Rattle.command_line.specs.Generations.{system_asked}
use Rattle.command_line.specs.declared.commands.Command.TheVariants.{Gen}
use Rattle.cosim_answers.proofs.MakingLaws.{handed_on, made}
use Rattle.cosim_commands.proofs.commands.generate.make.Goals as goal

pub returns-in_err-system : goal.returns-in_err-system
returns-in_err-system c = λ text.
    handed_on (Makes (Answers (Gen c.args.asked.now) text)) c.from_residual.result stopped.NoMemory c.from_residual.ensures.1 tt

pub returns-in_err-canonical : goal.returns-in_err-canonical
returns-in_err-canonical c = λ text.
    handed_on (Makes (Answers (Gen c.args.asked.now) text)) c.from_residual-in_err-canonical.result stopped.NoMemory
    c.from_residual-in_err-canonical.ensures.1 tt

pub returns : goal.returns
returns c = λ text.
    made (Answers (Gen c.args.asked.now) text) (printed_text (system_asked c.args.asked.now)) c.in_ok-canonical.field-0
    (c.in_ok-canonical.ensures ∙ ap printed_text c.in_ok-system.ensures) (inr refl)
