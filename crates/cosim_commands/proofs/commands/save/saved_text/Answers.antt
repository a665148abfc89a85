use Rattle.std.proofs.Common.{Err, refl, ap}
use Rattle.save_point.specs.declared.fault.SaveFault.{SaveFault}
use Rattle.cosim_commands.proofs.commands.save.saved_text.Goals as goal

pub returns-in-Err-NoRow : goal.returns-in-Err-NoRow
returns-in-Err-NoRow c = (refl, c.number.ensures, c.in-Err-NoRow.ensures.no_row (ap (λ (e : SaveFault). Err e) c.in-Err-NoRow.field-0-is))
