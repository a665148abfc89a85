use Rattle.std.proofs.Common.{◌≡◌, ◌++◌, drop, map}
use Rattle.std.specs.List.{flat_map}
use Rattle.trace_plan.specs.Shown.{ports_of}
use Rattle.unit_tree.specs.Orders.{outputs_of}
use Rattle.wire_graph.specs.Wiring.{port_with}
use Rattle.trace_plan.proofs.columns.all_outputs.Given as goal

abbrev pub invariant-loop-instance : goal.invariant-loop-instance
invariant-loop-instance l = map port_with l.ports.items ++ flat_map (ports_of l.system) (drop l.instance-index l.instance-items) ≡ outputs_of l.system
