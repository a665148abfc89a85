use Rattle.std.proofs.Common.{◌≡◌, ◌++◌, drop, map}
use Rattle.trace_plan.specs.Shown.{outputs_called}
use Rattle.wire_graph.specs.Wiring.{port_with}
use Rattle.trace_plan.proofs.columns.put_outputs.Given as goal

abbrev pub invariant-loop-output : goal.invariant-loop-output
invariant-loop-output l =
    map port_with l.ports.items ++ outputs_called l.instance (drop l.output-index l.outputs)
    ≡ map port_with l.initial.ports.items ++ outputs_called l.instance l.outputs
