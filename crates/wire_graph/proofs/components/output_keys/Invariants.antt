use Rattle.std.proofs.Common.{◌≡◌, ◌++◌, drop, map}
use Rattle.wire_graph.specs.Wiring.{port_with, outputs_named, named_of}
use Rattle.wire_graph.proofs.components.output_keys.Given as goal

abbrev pub invariant-loop-component : goal.invariant-loop-component
invariant-loop-component l =
    map port_with l.ports.items ++ outputs_named (map named_of (drop l.component-index l.components)) ≡ outputs_named (map named_of l.components)
