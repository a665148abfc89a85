use Rattle.command_line.proofs.OptionOrders.{no_order}
use Rattle.command_line.proofs.OptionParts.{others_have_no_form, parts_have_no_order}
use Rattle.command_line.proofs.options.options_have_no_order.Goals as goal

pub returns-clause-parts : goal.returns-clause-parts
returns-clause-parts c = parts_have_no_order

pub returns-clause-options : goal.returns-clause-options
returns-clause-options c = no_order

pub returns-clause-others : goal.returns-clause-others
returns-clause-others c = others_have_no_form
