-- Routes: the ports of a composition by numbers, so that code which goes along an order looks up no name.
use Rattle.std.specs.Prelude.{◌≡◌, ℕ, ◌<◌, ◌==◌, List, [], ◌∷◌, ◌++◌, map, length, if◌then◌else◌, slice_get, Option, Some, None, ⊤}
use Rattle.std.specs.List.{AllByRecursion, enumerate_from, flat_map, filter_map}
use Rattle.std.specs.Option.{option_map, unwrap_or}
use Rattle.unit_tree.specs.Compositions.{InputSource, Start, AtPlace, Member, Composition}
use Rattle.unit_tree.specs.Ports.{IsAmong, IsPlaceOrder, places_needed}
use Rattle.unit_tree.specs.declared.order.InputAt.{InputAt}
use Rattle.unit_tree.specs.declared.order.Route.{Route}
use Rattle.unit_tree.specs.declared.order.Routes.{Routes}
use Rattle.unit_tree.specs.declared.order.StartWord.{StartWord}

-- ---- The routes of a composition

-- Each input of a composition, with its source.
abbrev pub inputs_in : ℕ × Member → List (InputAt × InputSource)
inputs_in (instance, member) =
    map (λ counted. (record { instance = instance; input = counted.0 }, counted.1)) (enumerate_from 0 member.sources)

abbrev pub inputs_of : Composition → List (InputAt × InputSource)
inputs_of run = flat_map inputs_in (enumerate_from 0 run.members)

abbrev pub fed_from : ℕ → InputAt × InputSource → Option InputAt
fed_from place (at, Start word) = None
fed_from place (at, AtPlace other) = if other == place then Some at else None

-- The inputs that are connected to the output at a place.
abbrev pub feeds_of : Composition → ℕ → List InputAt
feeds_of run place = filter_map (fed_from place) (inputs_of run)

abbrev pub starts_at : InputAt × InputSource → Option StartWord
starts_at (at, Start word) = Some (record { at = at; word = word })
starts_at (at, AtPlace place) = None

-- Each output of a composition: its instance, its number there, and the places that it depends on directly.
pub record Numbered : Type 0 where
  pub instance : ℕ
  pub output : ℕ
  pub needs : List ℕ

abbrev pub outputs_in : ℕ × Member → List Numbered
outputs_in (instance, member) =
    map (λ counted. record { instance = instance; output = counted.0; needs = places_needed member counted.1 }) (enumerate_from 0 member.component.unit.outputs)

abbrev pub route_at : Composition → ℕ × Numbered → Route
route_at run (place, numbered) =
    record { instance = numbered.instance; output = numbered.output; feeds = feeds_of run place; needs = numbered.needs }

abbrev pub routes_of : Composition → Routes
routes_of run = record {
  outputs = map (route_at run) (enumerate_from 0 (flat_map outputs_in (enumerate_from 0 run.members)));
  starts = filter_map starts_at (inputs_of run);
}

-- ---- Orders

-- Places in an order, and the routes of all ports.
pub record Ordered : Type 0 where
  pub places : List ℕ
  pub routes : Routes

abbrev pub needs_on : Routes → ℕ → List ℕ
needs_on routes place = unwrap_or (option_map (λ route. route.needs) (slice_get routes.outputs place)) []

-- A list of places is ordered after some that came before: each is the place of a route, occurs once, and comes
-- after all places that its output depends on.
abbrev pub IsRoutedAfter : Routes → List ℕ → List ℕ → Type 0
IsRoutedAfter routes before [] = ⊤
IsRoutedAfter routes before (place ∷ later) =
    (place < length routes.outputs)
    × (IsAmong before place → ⊥)
    × AllByRecursion (IsAmong before) (needs_on routes place)
    × IsRoutedAfter routes (before ++ (place ∷ [])) later

-- The places are those of all routes, each once and after all places that its output depends on.
pub record IsOrdered (order : Ordered) : Type 0 where
  pub routed : IsRoutedAfter order.routes [] order.places
  pub all : (place : ℕ) → place < length order.routes.outputs → IsAmong order.places place

-- The places are an order of the composition, and the routes are those of the composition.
pub record IsOrderOf (run : Composition) (order : Ordered) : Type 0 where
  pub places : IsPlaceOrder run order.places
  pub routes : order.routes ≡ routes_of run
