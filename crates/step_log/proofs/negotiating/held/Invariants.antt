use Rattle.std.proofs.Common.{◌≡◌, ◌≤◌, take}
use Rattle.std.specs.List.{count_by}
use Rattle.event_runs.specs.Readings.{pace_of}
use Rattle.unit_tree.specs.Negotiation.{is_held}
use Rattle.step_log.proofs.negotiating.held.Given as goal

abbrev pub invariant-loop-instance : goal.invariant-loop-instance
invariant-loop-instance l = (l.count ≡ count_by (λ factor. is_held factor l.t l.h) (take l.instance (pace_of l.plan.run).factors)) × (l.count ≤ l.instance)
