use Rattle.std.proofs.Common.{◌≡◌, ◌++◌, drop, map}
use Rattle.wire_graph.specs.Wiring.{port_with, port_named, output_ports_of, named_of}
use Rattle.wire_graph.proofs.components.add_outputs.Given as goal

abbrev pub invariant-loop-output : goal.invariant-loop-output
invariant-loop-output l =
    map port_with l.ports.items ++ map (λ output. port_named l.component.name.now output.name) (drop l.output-index l.component.unit.now.outputs)
    ≡ map port_with l.initial.ports.items ++ output_ports_of (named_of l.component)
