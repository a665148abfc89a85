use Rattle.std.proofs.Common.{◌≡◌, ◌++◌, drop, map}
use Rattle.wire_graph.specs.Wiring.{port_with}
use Rattle.trace_plan.proofs.columns.sampled.Given as goal

abbrev pub invariant-loop-sample : goal.invariant-loop-sample
invariant-loop-sample l = map port_with l.ports.items ++ drop l.sample-index l.samples ≡ l.samples
