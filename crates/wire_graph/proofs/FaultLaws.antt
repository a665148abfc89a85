-- The place that is left names the first output without an order.
use Rattle.std.proofs.Common.{◌≡◌, ℕ, zero, suc, ◌+◌, List, [], ◌∷◌, ◌++◌, map, length, Some, refl, ap, sym, ◌∙◌, arith, append_assoc, length-append}
use Rattle.std.proofs.lemmas.Option.{same_Some}
use Rattle.std.specs.Prelude.{slice_get}
use Rattle.std.specs.List.{AllZip, enumerate_from, flat_map}
use Rattle.unit_tree.specs.Compositions.{Composition, HasNoEvents, composition_of}
use Rattle.unit_tree.specs.Orders.{outputs_of}
use Rattle.unit_tree.specs.Routes.{Numbered, outputs_in, route_at, routes_of}
use Rattle.unit_tree.specs.declared.order.Route.{Route}
use Rattle.unit_tree.specs.declared.system.PortName.{PortName}
use Rattle.unit_tree.specs.declared.system.System.{System}
use Rattle.unit_tree.specs.declared.unit.Output.{Output}
use Rattle.wire_graph.specs.Faults.{IsNumbered}
use Rattle.wire_graph.specs.Origins.{member_of}
use Rattle.wire_graph.specs.Routing.{needs_in, numbered_in}
use Rattle.wire_graph.specs.Wiring.{Named, components_in, port_named, output_ports_of, outputs_named}
use Rattle.wire_graph.proofs.ComponentLaws.{outputs_are, wired_members}
use Rattle.wire_graph.proofs.RoutingLaws.{numbered_same}
use Rattle.list_laws.proofs.Pairs.{zip_append, zip_at}
use Rattle.list_laws.proofs.Members.{at_seam}

-- An output by its numbers, and its port.
record Names (components : List Named) (numbered : Numbered) (port : PortName) : Type 0 where
  component : Named
  declared : Output
  is_instance : slice_get components numbered.instance ≡ Some component
  is_output : slice_get component.1.outputs numbered.output ≡ Some declared
  is : port_named component.0 declared.name ≡ port

-- The element after others.
get_behind : {A : Type 0} (front : List A) (x : A) (behind : List A) (k : ℕ) → k ≡ length front → slice_get (front ++ (x ∷ behind)) k ≡ Some x
get_behind front x behind k is = ap (slice_get (front ++ (x ∷ behind))) is ∙ at_seam front x behind

module _ (system : System) (all : List Named) where
  outputs_named_by : (instance : ℕ) (component : Named) (front outputs : List Output) (from : ℕ) → slice_get all instance ≡ Some component
      → component.1.outputs ≡ front ++ outputs → from ≡ length front
      → AllZip (Names all)
      (map (λ (counted : ℕ × Output). record { instance = instance; output = counted.0; needs = needs_in (member_of system component).1 counted.1 })
      (enumerate_from from outputs))
      (map (λ (output : Output). port_named component.0 output.name) outputs)
  outputs_named_by instance component front [] from is_instance cut from_is = tt
  outputs_named_by instance component front (output ∷ outputs) from is_instance cut from_is = (
    record {
      component = component;
      declared = output;
      is_instance = is_instance;
      is_output = ap (λ some. slice_get some from) cut ∙ get_behind front output outputs from from_is;
      is = refl;
    },
    outputs_named_by instance component (front ++ (output ∷ [])) outputs (from + 1) is_instance (cut ∙ sym (append_assoc front (output ∷ []) outputs))
        (omega (arith, from_is, length-append front (output ∷ []))),
  )

  all_named_by : (front components : List Named) (from : ℕ) → all ≡ front ++ components → from ≡ length front
      → AllZip (Names all) (flat_map numbered_in (enumerate_from from (map (member_of system) components))) (outputs_named components)
  all_named_by front [] from cut from_is = tt
  all_named_by front (component ∷ components) from cut from_is =
      zip_append (Names all) (numbered_in (from, member_of system component))
      (flat_map numbered_in (enumerate_from (from + 1) (map (member_of system) components))) (output_ports_of component) (outputs_named components)
      (outputs_named_by from component [] component.1.outputs 0
      (ap (λ some. slice_get some from) cut ∙ get_behind front component components from from_is) refl refl)
      (all_named_by (front ++ (component ∷ [])) components (from + 1) (cut ∙ sym (append_assoc front (component ∷ []) components))
      (omega (arith, from_is, length-append front (component ∷ []))))

-- The numbers of a route.
record Routed (numbered : List Numbered) (route : Route) (k : ℕ) : Type 0 where
  one : Numbered
  at : slice_get numbered k ≡ Some one
  instance : one.instance ≡ route.instance
  output : one.output ≡ route.output

routed : (run : Composition) (numbered : List Numbered) (from k : ℕ) (route : Route)
    → slice_get (map (route_at run) (enumerate_from from numbered)) k ≡ Some route → Routed numbered route k
routed run [] from k route is = absurd (cc)
routed run (one ∷ numbered) from zero route is =
    let same : route_at run (from, one) ≡ route = cc in
    record { one = one; at = refl; instance = ap (λ (r : Route). r.instance) same; output = ap (λ (r : Route). r.output) same }
routed run (one ∷ numbered) from (suc k) route is =
    let later = routed run numbered (from + 1) k route is in
    record { one = later.one; at = later.at; instance = later.instance; output = later.output }

pub port_numbered : (system : System) → HasNoEvents system → (k : ℕ) (route : Route) (port : PortName)
    → slice_get (routes_of (composition_of system)).outputs k ≡ Some route → slice_get (outputs_of system) k ≡ Some port
    → IsNumbered system route.instance route.output port
port_numbered system plain k route port route_is port_is =
    let run = composition_of system in
    let one = routed run (flat_map outputs_in (enumerate_from 0 run.members)) 0 k route route_is in
    let named = all_named_by system (components_in system) [] (components_in system) 0 refl refl in
    let at : slice_get (flat_map numbered_in (enumerate_from 0 (map (member_of system) (components_in system)))) k ≡ Some one.one =
    ap (λ numbered. slice_get numbered k) (numbered_same 0 run.members (map (member_of system) (components_in system)) (wired_members system)) ∙ one.at in
    let beside = zip_at (Names (components_in system)) _ (outputs_named (components_in system)) k one.one named at in
    let same : beside.other ≡ port = same_Some beside.other port (sym beside.is ∙ ap (λ ports. slice_get ports k) (outputs_are system plain) ∙ port_is) in
    record {
      component = beside.related.component;
      declared = beside.related.declared;
      is_instance = ap (slice_get (components_in system)) (sym one.instance) ∙ beside.related.is_instance;
      is_output = ap (slice_get beside.related.component.1.outputs) (sym one.output) ∙ beside.related.is_output;
      is = beside.related.is ∙ same;
    }
