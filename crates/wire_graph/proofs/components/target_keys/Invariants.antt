use Rattle.std.proofs.Common.{◌≡◌, ◌++◌, drop, map}
use Rattle.wire_graph.specs.Wiring.{port_with, targets_of}
use Rattle.wire_graph.proofs.components.target_keys.Given as goal

abbrev pub invariant-loop-wire : goal.invariant-loop-wire
invariant-loop-wire l = map port_with l.ports.items ++ targets_of (drop l.wire-index l.wires) ≡ targets_of l.wires
