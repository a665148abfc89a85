use Rattle.std.proofs.Common.{◌≡◌, ◌++◌, drop, map}
use Rattle.std.specs.List.{enumerate_from, flat_map}
use Rattle.wire_graph.specs.Origins.{member_behind}
use Rattle.wire_graph.specs.Routing.{bare, numbered_in}
use Rattle.wire_graph.proofs.routing.bare_routes.Given as goal

abbrev pub invariant-loop-instance : goal.invariant-loop-instance
invariant-loop-instance l =
    l.routes.items ++ map bare (flat_map numbered_in (enumerate_from l.instance (map member_behind (drop l.instance l.members))))
    ≡ map bare (flat_map numbered_in (enumerate_from 0 (map member_behind l.members)))
