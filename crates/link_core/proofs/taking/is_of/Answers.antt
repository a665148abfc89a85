use Rattle.std.proofs.Common.{◌∙◌, ap, sym}
use Rattle.link_laws.specs.Making.{is_own}
use Rattle.link_core.proofs.taking.is_of.Goals as goal

pub returns-in-Word : goal.returns-in-Word
returns-in-Word c = c.owns_output.ensures c.in-Word.row c.in-Word.seen ∙ ap (is_own c.args.plan.now.run c.args.owners.now c.args.node) (sym c.in-Word.is)
