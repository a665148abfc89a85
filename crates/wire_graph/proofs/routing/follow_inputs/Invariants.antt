use Rattle.std.proofs.Common.{◌≡◌, ◌++◌, ℕ, drop, map}
use Rattle.std.specs.List.{enumerate_from, filter_map}
use Rattle.unit_tree.specs.Compositions.{InputSource}
use Rattle.unit_tree.specs.Routes.{starts_at}
use Rattle.unit_tree.specs.declared.order.InputAt.{InputAt}
use Rattle.unit_tree.specs.declared.unit.Input.{Input}
use Rattle.wire_graph.specs.Origins.{wired_input}
use Rattle.wire_graph.specs.Routing.{wired_in, routed_by}
use Rattle.wire_graph.proofs.routing.follow_inputs.Given as goal

abbrev pub invariant-loop-input_number : goal.invariant-loop-input_number
invariant-loop-input_number l =
    let wired : ℕ × (Input × InputSource) → InputAt × InputSource = λ counted. (record { instance = l.instance; input = counted.0 }, counted.1.1) in
    let rest = map wired (enumerate_from l.input_number (map wired_input (drop l.input_number l.inputs))) in
    (routed_by l.routes rest ≡ routed_by l.initial.routes (wired_in (l.instance, map wired_input l.inputs)))
    × (l.starts.items ++ filter_map starts_at rest ≡ l.initial.starts.items ++ filter_map starts_at (wired_in (l.instance, map wired_input l.inputs)))
