use Rattle.std.proofs.Common.{◌≡◌, ◌++◌, drop, map}
use Rattle.std.specs.List.{enumerate_from, flat_map, filter_map}
use Rattle.unit_tree.specs.Routes.{starts_at}
use Rattle.wire_graph.specs.Origins.{member_behind}
use Rattle.wire_graph.specs.Routing.{routed_by, wired_among}
use Rattle.wire_graph.proofs.routing.follow_all.Given as goal

abbrev pub invariant-loop-instance : goal.invariant-loop-instance
invariant-loop-instance l =
    let rest = flat_map wired_among (enumerate_from l.instance (map member_behind (drop l.instance l.members))) in
    let all = flat_map wired_among (enumerate_from 0 (map member_behind l.members)) in
    (routed_by l.routes rest ≡ routed_by l.initial.routes all)
    × (l.starts.items ++ filter_map starts_at rest ≡ l.initial.starts.items ++ filter_map starts_at all)
