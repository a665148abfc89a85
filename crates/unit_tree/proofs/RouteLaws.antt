-- An order of a composition's places is one of its routes.
use Rattle.std.proofs.Common.{◌≡◌, ℕ, ◌+◌, List, [], ◌∷◌, ◌++◌, map, length, refl, ap, sym, subst, ◌∙◌, arith}
use Rattle.std.proofs.lemmas.List.{length-map, map-append}
use Rattle.std.proofs.lemmas.Option.{slice_get-map}
use Rattle.std.specs.Prelude.{slice_get, unwrap_or}
use Rattle.std.specs.List.{AllByRecursion, enumerate_from, flat_map}
use Rattle.unit_tree.specs.Compositions.{Member, Composition}
use Rattle.unit_tree.specs.Ports.{IsAmong, IsOrderedAfter, places_needed, needs_of_places, needs_at}
use Rattle.unit_tree.specs.Routes.{Ordered, Numbered, IsRoutedAfter, IsOrdered, IsOrderOf, outputs_in, route_at, routes_of, needs_on}
use Rattle.unit_tree.specs.declared.order.Route.{Route}
use Rattle.unit_tree.specs.declared.order.Routes.{Routes}
use Rattle.unit_tree.specs.declared.unit.Output.{Output}

pub routed_needs : (run : Composition) (from : ℕ) (all : List Numbered)
    → map (λ (route : Route). route.needs) (map (route_at run) (enumerate_from from all)) ≡ map (λ (numbered : Numbered). numbered.needs) all
routed_needs run from [] = refl
routed_needs run from (first ∷ all) = ap (λ rest. first.needs ∷ rest) (routed_needs run (from + 1) all)

pub counted_needs : (instance from : ℕ) (member : Member) (outputs : List Output)
    → map (λ (numbered : Numbered). numbered.needs)
    (map (λ (counted : ℕ × Output). record { instance = instance; output = counted.0; needs = places_needed member counted.1 }) (enumerate_from from outputs))
    ≡ map (places_needed member) outputs
counted_needs instance from member [] = refl
counted_needs instance from member (output ∷ outputs) = ap (λ rest. places_needed member output ∷ rest) (counted_needs instance (from + 1) member outputs)

pub numbered_needs : (from : ℕ) (members : List Member)
    → map (λ (numbered : Numbered). numbered.needs) (flat_map outputs_in (enumerate_from from members))
    ≡ flat_map (λ member. map (places_needed member) member.component.unit.outputs) members
numbered_needs from [] = refl
numbered_needs from (member ∷ members) =
    map-append (λ (numbered : Numbered). numbered.needs) (outputs_in (from, member)) (flat_map outputs_in (enumerate_from (from + 1) members))
    ∙ ap (λ front. front ++ map (λ (numbered : Numbered). numbered.needs) (flat_map outputs_in (enumerate_from (from + 1) members)))
    (counted_needs from 0 member member.component.unit.outputs)
    ∙ ap (λ rest. map (places_needed member) member.component.unit.outputs ++ rest) (numbered_needs (from + 1) members)

pub needs_are : (run : Composition) → map (λ (route : Route). route.needs) (routes_of run).outputs ≡ needs_of_places run
needs_are run = routed_needs run 0 (flat_map outputs_in (enumerate_from 0 run.members)) ∙ numbered_needs 0 run.members

pub count_is : (run : Composition) → length (routes_of run).outputs ≡ length (needs_of_places run)
count_is run = sym (length-map (routes_of run).outputs (λ (route : Route). route.needs)) ∙ ap length (needs_are run)

pub needs_is : (run : Composition) (place : ℕ) → needs_on (routes_of run) place ≡ needs_at run place
needs_is run place =
    ap (λ found. unwrap_or found []) (sym (slice_get-map (λ (route : Route). route.needs) (routes_of run).outputs place))
    ∙ ap (λ all. unwrap_or (slice_get all place) []) (needs_are run)

pub routed_along : (run : Composition) (before order : List ℕ) → IsOrderedAfter run before order → IsRoutedAfter (routes_of run) before order
routed_along run before [] ordered = tt
routed_along run before (place ∷ later) ordered = (
  omega (arith, ordered.0, count_is run),
  ordered.1,
  subst (AllByRecursion (IsAmong before)) (sym (needs_is run place)) ordered.2,
  routed_along run (before ++ (place ∷ [])) later ordered.3,
)

pub own_routes : (run : Composition) (places : List ℕ) → IsOrderOf run (record { places = places; routes = routes_of run })
    → IsOrdered (record { places = places; routes = routes_of run })
own_routes run places is = record {
  routed = routed_along run [] places is.places.ordered;
  all = λ place within. is.places.all place (omega (arith, within, count_is run));
}

pub is_ordered : (run : Composition) (order : Ordered) → IsOrderOf run order → IsOrdered order
is_ordered run order is =
    subst (λ (routes : Routes). IsOrdered (record { places = order.places; routes = routes })) (sym is.routes)
    (own_routes run order.places (record { places = is.places; routes = refl }))
