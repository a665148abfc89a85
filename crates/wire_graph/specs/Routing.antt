-- Routes, made from components and the sources of their inputs.
use Rattle.std.specs.Prelude.{ℕ, zero, suc, List, [], ◌∷◌, ◌++◌, map}
use Rattle.std.specs.List.{enumerate_from, flat_map, filter_map}
use Rattle.unit_tree.specs.Compositions.{InputSource, Start, AtPlace}
use Rattle.unit_tree.specs.Ports.{place_needed}
use Rattle.unit_tree.specs.Routes.{Numbered, starts_at}
use Rattle.unit_tree.specs.declared.order.InputAt.{InputAt}
use Rattle.unit_tree.specs.declared.order.Route.{Route}
use Rattle.unit_tree.specs.declared.order.Routes.{Routes}
use Rattle.unit_tree.specs.declared.unit.Input.{Input}
use Rattle.unit_tree.specs.declared.unit.Output.{Output}
use Rattle.unit_tree.specs.declared.unit.Unit.{Unit}

-- The places that an output depends on directly, by the inputs of its component.
abbrev pub needs_in : List (Input × InputSource) → Output → List ℕ
needs_in inputs output = filter_map (place_needed output) inputs

-- The outputs of the component with a number.
abbrev pub numbered_in : ℕ × (Unit × List (Input × InputSource)) → List Numbered
numbered_in (instance, member) =
    map (λ counted. record { instance = instance; output = counted.0; needs = needs_in member.1 counted.1 }) (enumerate_from 0 member.0.outputs)

-- A route without connected inputs.
abbrev pub bare : Numbered → Route
bare numbered = record { instance = numbered.instance; output = numbered.output; feeds = []; needs = numbered.needs }

-- The inputs of the component with a number, with their sources.
abbrev pub wired_in : ℕ × List (Input × InputSource) → List (InputAt × InputSource)
wired_in (instance, inputs) = map (λ counted. (record { instance = instance; input = counted.0 }, counted.1.1)) (enumerate_from 0 inputs)

-- With one more input that is connected to the output at a place.
abbrev pub fed : List Route → ℕ → InputAt → List Route
fed [] place at = []
fed (route ∷ routes) zero at = record route { feeds = route.feeds ++ (at ∷ []) } ∷ routes
fed (route ∷ routes) (suc place) at = route ∷ fed routes place at

-- With all inputs that are connected to outputs, added one by one.
abbrev pub routed_by : List Route → List (InputAt × InputSource) → List Route
routed_by routes [] = routes
routed_by routes ((at, Start word) ∷ inputs) = routed_by routes inputs
routed_by routes ((at, AtPlace place) ∷ inputs) = routed_by (fed routes place at) inputs

-- All inputs of a component, with its number.
abbrev pub wired_among : ℕ × (Unit × List (Input × InputSource)) → List (InputAt × InputSource)
wired_among (instance, member) = wired_in (instance, member.1)

-- The routes of components, each with the sources of its inputs.
abbrev pub routes_from : List (Unit × List (Input × InputSource)) → Routes
routes_from members = record {
  outputs = routed_by (map bare (flat_map numbered_in (enumerate_from 0 members))) (flat_map wired_among (enumerate_from 0 members));
  starts = filter_map starts_at (flat_map wired_among (enumerate_from 0 members));
}
