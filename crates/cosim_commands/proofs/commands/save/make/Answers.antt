use Rattle.std.proofs.Common.{sym, inl}
use Rattle.cosim_call.specs.Coming.{Makes}
use Rattle.command_line.specs.declared.commands.Command.TheVariants.{Save}
use Rattle.cosim_answers.specs.Answer.{Answers}
use Rattle.cosim_answers.proofs.MakingLaws.{handed_on, not_accepted}
use Rattle.cosim_answers.proofs.ResumeLaws.{saved_made}
use Rattle.cosim_commands.proofs.commands.save.make.Goals as goal

pub returns-in_err-plan : goal.returns-in_err-plan
returns-in_err-plan c =
    handed_on (Makes (Answers (Save c.args.asked) c.args.text.now)) c.from_residual.result c.in_err-plan.field-0.0 c.from_residual.ensures.1
    (not_accepted (Save c.args.asked) c.args.text.now c.in_err-plan.field-0.0 (λ line rule refused. inl refused) c.in_err-plan.ensures.refused)

pub returns : goal.returns
returns c =
    saved_made c.get.result c.args.text.now c.in_ok-plan.plan.value c.in_ok-plan.ensures.planned c.in_ok-plan.ensures.whole c.args.asked
    (sym c.get.ensures.value) c.saved_text.result c.saved_text.ensures
