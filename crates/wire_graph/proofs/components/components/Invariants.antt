use Rattle.std.proofs.Common.{◌≡◌, ◌++◌, drop, map}
use Rattle.std.specs.List.{filter_map}
use Rattle.unit_tree.specs.Names.{unit_of_instance}
use Rattle.wire_graph.specs.Wiring.{named_of, named_with, components_in}
use Rattle.wire_graph.proofs.components.components.Given as goal

abbrev pub invariant-loop-instance : goal.invariant-loop-instance
invariant-loop-instance l =
    map named_of l.components.items
    ++ filter_map (λ instance. named_with instance.name (unit_of_instance l.system instance)) (drop l.instance-index l.system.instances)
    ≡ components_in l.system
