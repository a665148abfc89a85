use Rattle.std.proofs.Common.{◌≡◌, drop, map}
use Rattle.std.specs.Prelude.{max}
use Rattle.std.specs.List.{fold}
use Rattle.unit_tree.specs.Names.{unit_of_instance}
use Rattle.unit_tree.specs.WellFormed.{resolution_of, unit_resolution}
use Rattle.unit_check.proofs.run_lines.resolution.Given as goal

abbrev pub invariant-loop-instance : goal.invariant-loop-instance
invariant-loop-instance l =
    resolution_of l.names
    ≡ fold max l.greatest (map (λ instance. unit_resolution (unit_of_instance l.names instance)) (drop l.instance-index l.names.instances))
