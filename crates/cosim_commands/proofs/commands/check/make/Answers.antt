use Rattle.std.proofs.Common.{inr, refl}
use Rattle.cosim_call.specs.Coming.{Makes}
use Rattle.cosim_call.specs.declared.coming.Stopped.TheVariants as stopped
use Rattle.cosim_answers.specs.Answer.{Answers, accepted_text}
use Rattle.command_line.specs.declared.commands.Command.TheVariants.{Check}
use Rattle.cosim_answers.proofs.MakingLaws.{handed_on, made, not_accepted}
use Rattle.cosim_commands.proofs.commands.check.make.Goals as goal

pub returns-in_err-accept : goal.returns-in_err-accept
returns-in_err-accept c =
    handed_on (Makes (Answers Check c.args.text.now)) c.from_residual.result c.in_err-accept.field-0.0 c.from_residual.ensures.1
    (not_accepted Check c.args.text.now c.in_err-accept.field-0.0 (λ line rule refused. refused) c.in_err-accept.ensures)

pub returns-in_err-from_slice : goal.returns-in_err-from_slice
returns-in_err-from_slice c =
    handed_on (Makes (Answers Check c.args.text.now)) c.from_residual-in_err-from_slice.result stopped.NoMemory c.from_residual-in_err-from_slice.ensures.1 tt

pub returns : goal.returns
returns c =
    made (Answers Check c.args.text.now) accepted_text c.in_ok-from_slice.field-0 c.in_ok-from_slice.ensures.items
    (inr (record {
      system = c.in_ok-accept.field-0.checked;
      lines = c.in_ok-accept.field-0.lines;
      accepted = c.in_ok-accept.ensures.0;
      is = refl;
    }))
