use Rattle.std.proofs.Common.{◌≡◌, ◌++◌, drop, map}
use Rattle.wire_graph.specs.Origins.{wired_input}
use Rattle.wire_graph.specs.Routing.{needs_in}
use Rattle.wire_graph.proofs.routing.needed_places.Given as goal

abbrev pub invariant-loop-wired : goal.invariant-loop-wired
invariant-loop-wired l =
    l.needs ++ needs_in (map wired_input (drop l.wired-index l.member.inputs.items)) l.output ≡ needs_in (map wired_input l.member.inputs.items) l.output
