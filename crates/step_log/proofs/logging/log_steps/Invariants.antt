use Rattle.std.proofs.Common.{◌-◌}
use Rattle.step_log.proofs.LogKept.{Logged}
use Rattle.unit_tree.specs.Successor.{first_position}
use Rattle.step_log.proofs.logging.log_steps.Given as goal

abbrev pub invariant-rows : goal.invariant-rows
invariant-rows g l =
    Logged l.fn.plan.value (first_position l.fn.plan.value.run) l.run (g.O.Sink.held l.fn.out) (g.O.Sink.held l.out) (g.O.Sink.faults l.fn.out) (g.O.Sink.faults l.out)

abbrev pub decreases-rows : goal.decreases-rows
decreases-rows g l = 100000 - l.run.stand.at.number
