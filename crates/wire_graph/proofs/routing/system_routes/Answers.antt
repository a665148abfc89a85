use Rattle.std.proofs.Common.{List, ◌∙◌, ap, map}
use Rattle.unit_tree.specs.Compositions.{composition_of}
use Rattle.wire_graph.specs.Origins.{member_behind, member_of}
use Rattle.wire_graph.specs.Routing.{routes_from}
use Rattle.wire_graph.specs.Wiring.{named_of, outputs_named, components_in}
use Rattle.wire_graph.specs.declared.components.Component.{Component}
use Rattle.wire_graph.proofs.ComponentLaws.{outputs_are, components_decimals, wired_members}
use Rattle.wire_graph.proofs.RoutingLaws.{routes_are}
use Rattle.wire_graph.proofs.routing.system_routes.Goals as goal

pub tables-requires : goal.tables-requires
tables-requires c =
    ap (λ (all : List Component). outputs_named (map named_of all)) c.deref.ensures.value
    ∙ ap outputs_named c.in_ok-components.ensures
    ∙ outputs_are c.args.system.now c.requires.events

pub members-requires-clause-decimals : goal.members-requires-clause-decimals
members-requires-clause-decimals c =
    components_decimals c.args.system.now c.requires.decimals c.deref-2.result.now (ap (map named_of) c.deref-2.ensures.value ∙ c.in_ok-components.ensures)

pub returns : goal.returns
returns c =
    let system = c.args.system.now in
    c.in_ok-routes.ensures
    ∙ ap routes_from
    (ap (map member_behind) c.deref-3.ensures.value ∙ c.in_ok-members.ensures
    ∙ ap (map (member_of system)) (ap (map named_of) c.deref-2.ensures.value ∙ c.in_ok-components.ensures))
    ∙ routes_are (composition_of system) (map (member_of system) (components_in system)) (wired_members system)
