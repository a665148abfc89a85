use Rattle.language_laws.proofs.OrderLaws.{on_cycle as cycle, behind_cycle as behind}
use Rattle.language_laws.proofs.laws.cycles_have_no_order.Goals as goal

pub returns : goal.returns
returns c = record { on_cycle = cycle; behind_cycle = behind }
