use Rattle.std.proofs.Common.{◌-◌, length}
use Rattle.step_log.proofs.SummaryKept.{Counted}
use Rattle.unit_tree.specs.Successor.{first_position}
use Rattle.step_log.proofs.summarizing.summarize_steps.Given as goal

abbrev pub invariant-rows : goal.invariant-rows
invariant-rows g l =
    Counted l.fn.plan.value (first_position l.fn.plan.value.run) (length l.fn.plan.value.system.instances) l.run l.counts

abbrev pub decreases-rows : goal.decreases-rows
decreases-rows g l = 100000 - l.run.stand.at.number
