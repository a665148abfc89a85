use Rattle.std.proofs.Common.{sym, subst}
use Rattle.unit_tree.specs.Printable.{IsRanged}
use Rattle.unit_check.specs.Rules.{IsFaultOf}
use Rattle.cosim_answers.proofs.BenchLaws.{never_refused}
use Rattle.cosim_answers.proofs.TraceLaws.{whole_asked}
use Rattle.cosim_commands.proofs.commands.bench.judged.Goals as goal

pub check-requires : goal.check-requires
check-requires c = record { ranged = subst IsRanged (sym c.in_ok-system.ensures) (whole_asked c.args.asked.now c.instances.ensures.given).ranged }

pub unreachable-requires : goal.unreachable-requires
unreachable-requires c =
    never_refused c.args.asked.now c.in_ok-system.field-0 c.in-Err-Line.field-0-0 c.in-Err-Line.field-0-1 c.instances.ensures.given c.in_ok-system.ensures
    (subst (IsFaultOf c.in_ok-system.field-0) c.in-Err-Line.field-0-is c.in-Err-Line.ensures.refused)
