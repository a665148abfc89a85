use Rattle.cosim_call.specs.Coming.{Makes}
use Rattle.cosim_call.specs.declared.coming.Stopped.TheVariants as stopped
use Rattle.command_line.specs.declared.commands.Command.TheVariants.{Stimulus}
use Rattle.cosim_answers.specs.Answer.{Answers}
use Rattle.cosim_answers.proofs.MakingLaws.{handed_on}
use Rattle.cosim_answers.proofs.TableLaws.{table_made, table_not_made}
use Rattle.cosim_commands.proofs.commands.stimulus.make.Goals as goal

pub returns-in_err-system : goal.returns-in_err-system
returns-in_err-system c =
    handed_on (Makes (Answers Stimulus c.args.table.now)) c.from_residual.result c.in_err-system.field-0.0 c.from_residual.ensures.1
    (table_not_made c.args.table.now c.in_err-system.field-0.0 c.requires.within c.in_err-system.ensures)

pub returns-in_err-canonical : goal.returns-in_err-canonical
returns-in_err-canonical c =
    handed_on (Makes (Answers Stimulus c.args.table.now)) c.from_residual-in_err-canonical.result stopped.NoMemory
    c.from_residual-in_err-canonical.ensures.1 tt

pub returns : goal.returns
returns c =
    table_made c.args.table.now c.in_ok-system.system c.in_ok-canonical.field-0 c.requires.within c.in_ok-system.ensures c.in_ok-canonical.ensures
