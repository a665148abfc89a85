use Rattle.std.proofs.Common.{◌≡◌, ℕ, List, Some, None, ◌∙◌, ap, sym, subst, arith}
use Rattle.std.specs.Prelude.{not}
use Rattle.std.specs.List.{AllByRecursion, position_from}
use Rattle.unit_tree.specs.Compositions.{HasNoEvents, composition_of, run_of}
use Rattle.unit_tree.specs.Routes.{IsOrderOf, routes_of}
use Rattle.unit_tree.specs.declared.system.System.{System}
use Rattle.unit_tree.specs.declared.unit.Unit.{Unit}
use Rattle.run_laws.proofs.EventLaws.{plain_form_without_events}
use Rattle.wire_graph.specs.Origins.{HaveDecimals}
use Rattle.wire_graph.proofs.DecimalLaws.{plain_decimals}
use Rattle.wire_graph.proofs.OrderingLaws.{right_order, right_fault, first_left_at}
use Rattle.wire_graph.proofs.ordering.order.Goals as goal

pub system_routes-requires-clause-events : goal.system_routes-requires-clause-events
system_routes-requires-clause-events c = subst HasNoEvents (sym c.system.ensures.plain) (plain_form_without_events c.args.checked.now c.system.ensures.ranged)

pub system_routes-requires-clause-decimals : goal.system_routes-requires-clause-decimals
system_routes-requires-clause-decimals c =
    subst (λ (system : System). AllByRecursion (λ (unit : Unit). HaveDecimals unit.inputs) system.units) (sym c.system.ensures.plain)
    (plain_decimals c.args.checked.now c.system.ensures.ranged)

pub new-requires : goal.new-requires
new-requires c =
    let routes_are = c.in_ok-routes.ensures ∙ ap (λ (system : System). routes_of (composition_of system)) c.system.ensures.plain in
    let none : position_from not 0 c.in_ok-places.field-0.placed.items ≡ None = ap (position_from not 0) (sym c.deref.ensures.value)
    ∙ sym c.first_left.ensures ∙ c.in-None.is in
    let run = run_of c.args.checked.now in
    subst (λ (places : List ℕ). IsOrderOf run (record { places = places; routes = c.in_ok-routes.routes })) (sym c.from_vec.ensures)
    (right_order run c.in_ok-routes.routes c.in_ok-places.field-0.places.items c.in_ok-places.field-0.placed.items routes_are c.in_ok-places.ensures.kept none)

pub loop_at-requires : goal.loop_at-requires
loop_at-requires c =
    let left : position_from not 0 c.in_ok-places.field-0.placed.items ≡ Some c.in-Some.place = ap (position_from not 0) (sym c.deref.ensures.value)
    ∙ sym c.first_left.ensures ∙ c.in-Some.is in
    let at = first_left_at c.in_ok-places.field-0.placed.items c.in-Some.place left in
    let kept = c.in_ok-places.ensures.kept in
    omega (arith, at.within, kept.one_each)

pub returns-in-Some-clause-fault : goal.returns-in-Some-clause-fault
returns-in-Some-clause-fault c =
    let routes_are = c.in_ok-routes.ensures ∙ ap (λ (system : System). routes_of (composition_of system)) c.system.ensures.plain in
    let left : position_from not 0 c.in_ok-places.field-0.placed.items ≡ Some c.in-Some.place = ap (position_from not 0) (sym c.deref.ensures.value)
    ∙ sym c.first_left.ensures ∙ c.in-Some.is in
    right_fault c.args.checked.now c.in_ok-routes.routes c.in_ok-places.field-0.places.items c.in_ok-places.field-0.placed.items c.in-Some.place
    c.loop_at.result c.system.ensures.ranged c.system.ensures.well_formed routes_are c.in_ok-places.ensures.kept c.in_ok-places.ensures.closed left
    c.loop_at.ensures
