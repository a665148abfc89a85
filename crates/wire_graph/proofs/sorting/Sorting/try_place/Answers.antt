use Rattle.std.proofs.Common.{◌≡◌, true, false, get_or, set, sym, ◌∙◌, subst}
use Rattle.std.specs.List.{list_all}
use Rattle.wire_graph.specs.Sorting.{IsSorting}
use Rattle.unit_tree.specs.Ports.{IsAmong}
use Rattle.unit_tree.specs.Routes.{needs_on}
use Rattle.wire_graph.proofs.SortingLaws.{put, grows_by, ready_is, not_ready}
use Rattle.wire_graph.specs.Sorting.{Grows}
use Rattle.wire_graph.proofs.sorting.Sorting.try_place.Goals as goal
use Rattle.run_laws.proofs.EquationLaws.{among_last}

pub returns-clause-kept : goal.returns-clause-kept
returns-clause-kept c =
    let new : get_or c.args.self.now.placed.items c.args.place false ≡ false = cc in
    let ready : list_all (λ need. get_or c.args.self.now.placed.items need false) (needs_on c.args.routes.now c.args.place) ≡ true =
    ready_is c.args.routes.now c.args.place c.in-Some.route.now c.args.self.now.placed.items _ _ _ c.in-Some.ensures.value c.deref-2.ensures.value
    c.as_slice.ensures c.is_ready.ensures
    ∙ c.if-not-is_ready.false in
    subst (λ all. IsSorting c.args.routes.now all (set c.args.self.now.placed.items c.args.place true)) (sym c.in_ok-push.ensures.items)
    (put c.args.routes.now c.args.self.now.places.items c.args.self.now.placed.items c.args.place c.requires c.in-Some.ensures.within new ready)

pub returns-clause-grown : goal.returns-clause-grown
returns-clause-grown c = subst (Grows c.args.self.now.places.items) (sym c.in_ok-push.ensures.items) (grows_by c.args.self.now.places.items c.args.place)

pub returns-clause-tried : goal.returns-clause-tried
returns-clause-tried c =
    λ within needs. subst (λ all. IsAmong all c.args.place) (sym c.in_ok-push.ensures.items) (among_last c.args.self.now.places.items c.args.place)

pub returns-then-not-is_ready-clause-tried : goal.returns-then-not-is_ready-clause-tried
returns-then-not-is_ready-clause-tried c =
    not_ready c.args.routes.now c.args.self.now.places.items c.args.self.now.placed.items c.args.place c.requires
    (ready_is c.args.routes.now c.args.place c.in-Some.route.now c.args.self.now.placed.items _ _ _ c.in-Some.ensures.value c.deref-2.ensures.value
    c.as_slice.ensures c.is_ready.ensures
    ∙ c.if-not-is_ready.true)
