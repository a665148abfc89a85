use Rattle.std.proofs.Common.{◌≡◌, ◌++◌, drop, map}
use Rattle.std.specs.List.{AllByRecursion}
use Rattle.wire_graph.specs.declared.components.Component.{Component}
use Rattle.wire_graph.specs.Wiring.{named_of}
use Rattle.wire_graph.specs.Origins.{HaveDecimals, member_behind, member_of}
use Rattle.wire_graph.proofs.origins.members.Given as goal

abbrev pub invariant-loop-component : goal.invariant-loop-component
invariant-loop-component l =
    AllByRecursion (λ (component : Component). HaveDecimals component.unit.now.inputs) (drop l.component-index l.components)
    × (map member_behind l.members.items ++ map (member_of l.system) (map named_of (drop l.component-index l.components))
    ≡ map (member_of l.system) (map named_of l.components))
