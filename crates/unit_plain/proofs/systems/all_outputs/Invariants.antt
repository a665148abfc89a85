use Rattle.std.proofs.Common.{◌≡◌, ◌++◌, map, drop}
use Rattle.std.specs.List.{flat_map}
use Rattle.unit_tree.specs.Names.{unit_of_instance}
use Rattle.unit_tree.specs.Orders.{outputs_in, outputs_of, port_of}
use Rattle.unit_plain.proofs.systems.all_outputs.Given as goal

abbrev pub invariant-loop-instance : goal.invariant-loop-instance
invariant-loop-instance l =
    outputs_of l.system
    ≡ l.ports
    ++ flat_map (λ instance. map (λ output. port_of instance output.name) (outputs_in (unit_of_instance l.system instance)))
    (drop l.instance-index l.system.instances)
