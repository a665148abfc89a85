use Rattle.std.proofs.Common.{◌≡◌, drop, map}
use Rattle.std.specs.Prelude.{max}
use Rattle.std.specs.List.{fold}
use Rattle.unit_tree.specs.Names.{unit_of_instance}
use Rattle.unit_tree.specs.WellFormed.{unit_resolution, resolution_of}
use Rattle.trace_plan.proofs.numbers.resolution.Given as goal

abbrev pub invariant-loop-instance : goal.invariant-loop-instance
invariant-loop-instance l =
    fold max l.most (map (λ instance. unit_resolution (unit_of_instance l.system instance)) (drop l.instance-index l.instance-items)) ≡ resolution_of l.system
