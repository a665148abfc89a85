use Rattle.std.proofs.Common.{subst}
use Rattle.trace_plan.specs.Faults.{IsRightPlanFault}
use Rattle.cosim_answers.proofs.BenchLaws.{never_loops}
use Rattle.cosim_commands.proofs.commands.bench.plan_of.Goals as goal

pub unreachable-requires : goal.unreachable-requires
unreachable-requires c =
    never_loops c.args.asked.now c.in_ok-judged.field-0 c.in-Err-Loop.field-0-0 c.in-Err-Loop.field-0-1 c.instances.ensures.given c.in_ok-judged.ensures
    (subst (IsRightPlanFault c.in_ok-judged.field-0) c.in-Err-Loop.field-0-is c.in-Err-Loop.ensures.fault)
