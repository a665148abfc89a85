use Rattle.std.proofs.Common.{◌≡◌, ◌-◌, drop, min}
use Rattle.trace_core.specs.Seats.{all_told}
use Rattle.trace_core.proofs.LoopLaws.{Asking}
use Rattle.trace_core.proofs.steps.ask_limits.Given as goal

abbrev pub invariant-loop-instance : goal.invariant-loop-instance
invariant-loop-instance l = record {
  kept : l.units ≡ l.fn.units;
  so_far : Asking l.t l.plan.run.members (all_told l.t l.plan.run.members l.fn.units.states l.fn.units.inputs)
      (drop l.instance-index l.instance-items) (min (l.plan.run.stop - l.t) l.plan.run.longest) l.least;
}
