use Rattle.std.proofs.Common.{◌≡◌, ◌++◌, ℕ, drop, map}
use Rattle.std.specs.List.{enumerate_from}
use Rattle.unit_tree.specs.Routes.{Numbered}
use Rattle.unit_tree.specs.declared.unit.Output.{Output}
use Rattle.wire_graph.specs.Origins.{member_behind}
use Rattle.wire_graph.specs.Routing.{needs_in, bare, numbered_in}
use Rattle.wire_graph.proofs.routing.add_routes.Given as goal

abbrev pub invariant-loop-output_number : goal.invariant-loop-output_number
invariant-loop-output_number l =
    let numbered : ℕ × Output
    → Numbered = λ counted. record { instance = l.instance; output = counted.0; needs = needs_in (member_behind l.member).1 counted.1 } in
    l.routes.items ++ map bare (map numbered (enumerate_from l.output_number (drop l.output_number l.member.unit.now.outputs)))
    ≡ l.initial.routes.items ++ map bare (numbered_in (l.instance, member_behind l.member))
