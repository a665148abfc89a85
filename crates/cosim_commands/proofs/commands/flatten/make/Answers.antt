use Rattle.std.proofs.Common.{subst}
use Rattle.nest_runs.proofs.TextLaws.{lines_long}
use Rattle.text_accept.specs.Accepting.{IsAcceptedAs}
use Rattle.cosim_call.specs.Coming.{Makes}
use Rattle.command_line.specs.declared.commands.Command.TheVariants.{Flatten}
use Rattle.cosim_answers.specs.Answer.{Answers}
use Rattle.cosim_answers.specs.Serving.{IsUnaccepted}
use Rattle.cosim_answers.proofs.FlatLaws.{flat_made, flat_refused, groups_refused, nest_refused}
use Rattle.cosim_answers.proofs.MakingLaws.{handed_on}
use Rattle.cosim_commands.proofs.commands.flatten.make.Goals as goal

pub flat_text-requires : goal.flat_text-requires
flat_text-requires c = lines_long c.args.text.now c.in_ok-nest.nest c.in_ok-nest.ensures

pub returns-in_err-nest : goal.returns-in_err-nest
returns-in_err-nest c =
    handed_on (Makes (Answers Flatten c.args.text.now)) c.from_residual.result c.in_err-nest.field-0.0 c.from_residual.ensures.1
    (nest_refused c.args.text.now c.in_err-nest.field-0.0 c.in_err-nest.ensures)

pub returns-in_err-flat : goal.returns-in_err-flat
returns-in_err-flat c =
    handed_on (Makes (Answers Flatten c.args.text.now)) c.from_residual-in_err-flat.result c.in_err-flat.field-0.0
    c.from_residual-in_err-flat.ensures.1
    (groups_refused c.args.text.now c.in_ok-nest.nest c.in_err-flat.field-0.0 c.in_ok-nest.ensures c.in_err-flat.ensures)

pub returns-in_err-accept : goal.returns-in_err-accept
returns-in_err-accept c =
    handed_on (Makes (Answers Flatten c.args.text.now)) c.from_residual-in_err-accept.result c.in_err-accept.field-0.0
    c.from_residual-in_err-accept.ensures.1
    (flat_refused c.args.text.now c.in_ok-nest.nest c.in_ok-nest.ensures c.in_ok-flat.flat c.in_ok-flat.ensures c.in_err-accept.field-0.0
    (subst (λ bytes. IsUnaccepted bytes c.in_err-accept.field-0.0) c.deref.ensures.value c.in_err-accept.ensures))

pub returns : goal.returns
returns c =
    flat_made c.args.text.now c.in_ok-nest.nest c.in_ok-nest.ensures c.in_ok-flat.flat c.in_ok-flat.ensures c.in_ok-accept.field-0.checked
    c.in_ok-accept.field-0.lines
    (subst (λ bytes. IsAcceptedAs bytes c.in_ok-accept.field-0.checked c.in_ok-accept.field-0.lines) c.deref.ensures.value c.in_ok-accept.ensures.0)
