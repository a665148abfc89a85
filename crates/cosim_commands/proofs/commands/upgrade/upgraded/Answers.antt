use Rattle.std.proofs.Common.{refl, subst}
use Rattle.unit_upgrade.specs.Upgrades.{IsRightFault}
use Rattle.cosim_answers.specs.Accepted.{printed_text}
use Rattle.cosim_commands.proofs.commands.upgrade.upgraded.Goals as goal

pub returns-in-Ok : goal.returns-in-Ok
unfolding printed_text
returns-in-Ok c = (c.in-Ok.ensures.made, c.in-Ok.ensures.fits)

pub returns-in-Err-TooLong : goal.returns-in-Err-TooLong
unfolding printed_text
returns-in-Err-TooLong c =
    (refl, c.number.ensures, subst (IsRightFault c.args.system.now) c.in-Err-TooLong.field-0-is c.in-Err-TooLong.ensures.fault)
