use Rattle.std.proofs.Common.{◌≡◌, ◌++◌, drop, map}
use Rattle.wire_graph.specs.Origins.{HaveDecimals, wired_input, input_of}
use Rattle.wire_graph.proofs.origins.wired_inputs.Given as goal

abbrev pub invariant-loop-input : goal.invariant-loop-input
invariant-loop-input l =
    HaveDecimals (drop l.input-index l.component.unit.now.inputs)
    × (map wired_input l.inputs.items ++ map (input_of l.system l.component.name.now) (drop l.input-index l.component.unit.now.inputs)
    ≡ map (input_of l.system l.component.name.now) l.component.unit.now.inputs)
