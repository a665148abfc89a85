-- Outputs by their places: the route of each belongs to the outlet at its place.
use Rattle.std.proofs.Common.{◌≡◌, ◌∙◌, ℕ, zero, suc, ◌+◌, ℤ, List, [], ◌∷◌, ◌++◌, map, length, Some, refl, ap, sym, subst, arith}
use Rattle.std.proofs.lemmas.List.{length-map, map-append}
use Rattle.std.proofs.lemmas.Option.{slice_get-map}
use Rattle.std.specs.Prelude.{slice_get, zip}
use Rattle.std.specs.List.{AllZip, enumerate_from, flat_map}
use Rattle.std.specs.Option.{option_map}
use Rattle.port_solve.specs.Sound.{types_of_places}
use Rattle.unit_tree.specs.Components.{get_of}
use Rattle.unit_tree.specs.Compositions.{Member, Composition}
use Rattle.unit_tree.specs.Given.{given_by}
use Rattle.unit_tree.specs.Ports.{Standing, Outlet, outlets_of, outlets, places_needed}
use Rattle.unit_tree.specs.Routes.{Numbered, outputs_in, feeds_of, route_at, routes_of}
use Rattle.unit_tree.specs.declared.order.Route.{Route}
use Rattle.unit_tree.specs.declared.unit.Output.{Output}
use Rattle.run_laws.proofs.AssignmentLaws.{needs_of}
use Rattle.list_laws.proofs.Pairs.{zip_append, zip_at}

-- ---- Outputs with their numbers, next to outlets

abbrev numbered_as : ℕ → Member → ℕ × Output → Numbered
numbered_as instance member counted = record { instance = instance; output = counted.0; needs = places_needed member counted.1 }

abbrev outlet_as : ℕ → Standing → ℕ × Output → Outlet
outlet_as instance standing counted = record { standing = standing; instance = instance; output = counted.1; number = counted.0 }

-- ---- Routes by their places

module _ (run : Composition) where
  record NumberedAt (from : ℕ) (all : List Numbered) (k : ℕ) (route : Route) : Type 0 where
    numbered : Numbered
    is : slice_get all k ≡ Some numbered
    routed : route ≡ route_at run (from + k, numbered)

  numbered_at : (from : ℕ) (all : List Numbered) (k : ℕ) (route : Route) → slice_get (map (route_at run) (enumerate_from from all)) k ≡ Some route
      → NumberedAt from all k route
  numbered_at from [] k route is = absurd (cc)
  numbered_at from (first ∷ all) zero route is =
      let same : route_at run (from, first) ≡ route = cc in
      record { numbered = first; is = refl; routed = sym same ∙ ap (λ n. route_at run (n, first)) (omega arith) }
  numbered_at from (first ∷ all) (suc k) route is =
      let later = numbered_at (from + 1) all k route is in
      record { numbered = later.numbered; is = later.is; routed = later.routed ∙ ap (λ n. route_at run (n, later.numbered)) (omega arith) }

  -- The inputs that the route at a place feeds are those that are connected to it.
  pub feeds_there : (place : ℕ) (route : Route) → slice_get (routes_of run).outputs place ≡ Some route → route.feeds ≡ feeds_of run place
  feeds_there place route is =
      let at = numbered_at 0 (flat_map outputs_in (enumerate_from 0 run.members)) place route is in
      ap (λ (r : Route). r.feeds) at.routed ∙ ap (feeds_of run) (omega arith)

module _ (run : Composition) (states : List (List ℤ)) where
  pub record Matches (numbered : Numbered) (outlet : Outlet) : Type 0 where
    pub instance : outlet.instance ≡ numbered.instance
    pub number : outlet.number ≡ numbered.output
    pub needs : numbered.needs ≡ needs_of outlet
    pub member : slice_get run.members numbered.instance ≡ Some outlet.standing.0
    pub state : slice_get states numbered.instance ≡ Some outlet.standing.1
    pub output : slice_get outlet.standing.0.component.unit.outputs numbered.output ≡ Some outlet.output

  one_side : (instance : ℕ) (member : Member) (state : List ℤ) → slice_get run.members instance ≡ Some member → slice_get states instance ≡ Some state
      → (from : ℕ) (outputs : List Output)
      → ((k n : ℕ) (output : Output) → n ≡ from + k → slice_get outputs k ≡ Some output → slice_get member.component.unit.outputs n ≡ Some output)
      → AllZip Matches (map (numbered_as instance member) (enumerate_from from outputs))
      (map (outlet_as instance (member, state)) (enumerate_from from outputs))
  one_side instance member state member_is state_is from [] at = tt
  one_side instance member state member_is state_is from (output ∷ outputs) at = (
    record { instance = refl; number = refl; needs = refl; member = member_is; state = state_is; output = at 0 from output (omega arith) refl },
    one_side instance member state member_is state_is (from + 1) outputs (λ k n other is there. at (suc k) n other (omega (arith, is)) there),
  )

  sides_from : (from : ℕ) (members : List Member) (some_states : List (List ℤ)) → length some_states ≡ length members
      → ((k n : ℕ) (member : Member) → n ≡ from + k → slice_get members k ≡ Some member → slice_get run.members n ≡ Some member)
      → ((k n : ℕ) (state : List ℤ) → n ≡ from + k → slice_get some_states k ≡ Some state → slice_get states n ≡ Some state)
      → AllZip Matches (flat_map outputs_in (enumerate_from from members)) (flat_map outlets_of (enumerate_from from (zip members some_states)))
  sides_from from [] some_states same at_member at_state = tt
  sides_from from (member ∷ members) [] same at_member at_state = absurd (omega (arith, same))
  sides_from from (member ∷ members) (state ∷ some_states) same at_member at_state =
      zip_append Matches (outputs_in (from, member)) (flat_map outputs_in (enumerate_from (from + 1) members)) (outlets_of (from, (member, state)))
      (flat_map outlets_of (enumerate_from (from + 1) (zip members some_states)))
      (one_side from member state (at_member 0 from member (omega arith) refl) (at_state 0 from state (omega arith) refl) 0 member.component.unit.outputs
      (λ k n output is there. subst (λ m. slice_get member.component.unit.outputs m ≡ Some output) (omega (arith, is)) there))
      (sides_from (from + 1) members some_states (omega (arith, same)) (λ k n other is there. at_member (suc k) n other (omega (arith, is)) there)
      (λ k n other is there. at_state (suc k) n other (omega (arith, is)) there))

  sides : length states ≡ length run.members → AllZip Matches (flat_map outputs_in (enumerate_from 0 run.members)) (outlets run states)
  sides same =
      sides_from 0 run.members states same (λ k n member is there. subst (λ m. slice_get run.members m ≡ Some member) (omega (arith, is)) there)
      (λ k n state is there. subst (λ m. slice_get states m ≡ Some state) (omega (arith, is)) there)

  -- ---- The outlet of a route

  -- The output at a place, with its route.
  pub record OutletAt (place : ℕ) (route : Route) : Type 0 where
    pub outlet : Outlet
    pub is : slice_get (outlets run states) place ≡ Some outlet
    pub feeds : route.feeds ≡ feeds_of run place
    pub needs : route.needs ≡ needs_of outlet
    pub instance : outlet.instance ≡ route.instance
    pub number : outlet.number ≡ route.output
    pub member : slice_get run.members route.instance ≡ Some outlet.standing.0
    pub state : slice_get states route.instance ≡ Some outlet.standing.1
    pub output : slice_get outlet.standing.0.component.unit.outputs route.output ≡ Some outlet.output

  pub outlet_of : (place : ℕ) (route : Route) → length states ≡ length run.members → slice_get (routes_of run).outputs place ≡ Some route → OutletAt place route
  outlet_of place route same is =
      let at = numbered_at run 0 (flat_map outputs_in (enumerate_from 0 run.members)) place route is in
      let beside = zip_at Matches (flat_map outputs_in (enumerate_from 0 run.members)) (outlets run states) place at.numbered (sides same) at.is in
      let matched = beside.related in
      let routed : route ≡ route_at run (place, at.numbered) = at.routed ∙ ap (λ n. route_at run (n, at.numbered)) (omega arith) in
      let instance_is : at.numbered.instance ≡ route.instance = sym (ap (λ (r : Route). r.instance) routed) in
      let output_is : at.numbered.output ≡ route.output = sym (ap (λ (r : Route). r.output) routed) in
      record {
        outlet = beside.other;
        is = beside.is;
        feeds = ap (λ (r : Route). r.feeds) routed;
        needs = ap (λ (r : Route). r.needs) routed ∙ matched.needs;
        instance = matched.instance ∙ instance_is;
        number = matched.number ∙ output_is;
        member = ap (slice_get run.members) (sym instance_is) ∙ matched.member;
        state = ap (slice_get states) (sym instance_is) ∙ matched.state;
        output = ap (slice_get beside.other.standing.0.component.unit.outputs) (sym output_is) ∙ matched.output;
      }

  -- Its outcome from its component.
  pub given_is : (place : ℕ) (route : Route) (at : OutletAt place route) (inputs : List (List ℤ)) (words : List ℤ)
      → slice_get inputs route.instance ≡ Some words
      → given_by run states inputs route.instance route.output ≡ Some (get_of at.outlet.standing.0.component at.outlet.standing.1 words at.outlet.output)
  given_is place route at inputs words words_are = rw (at.member, at.state, words_are, at.output) refl

-- ---- Types by places

counted_types : (instance : ℕ) (standing : Standing) (from : ℕ) (outputs : List Output)
    → map (λ (outlet : Outlet). outlet.output.ty) (map (outlet_as instance standing) (enumerate_from from outputs))
    ≡ map (λ (output : Output). output.ty) outputs
counted_types instance standing from [] = refl
counted_types instance standing from (output ∷ outputs) = ap (λ rest. output.ty ∷ rest) (counted_types instance standing (from + 1) outputs)

types_from : (from : ℕ) (members : List Member) (states : List (List ℤ)) → length states ≡ length members
    → map (λ (outlet : Outlet). outlet.output.ty) (flat_map outlets_of (enumerate_from from (zip members states)))
    ≡ flat_map (λ member. map (λ (output : Output). output.ty) member.component.unit.outputs) members
types_from from [] states same = refl
types_from from (member ∷ members) [] same = absurd (omega (arith, same))
types_from from (member ∷ members) (state ∷ states) same =
    map-append (λ (outlet : Outlet). outlet.output.ty) (outlets_of (from, (member, state)))
    (flat_map outlets_of (enumerate_from (from + 1) (zip members states)))
    ∙ ap (λ front. front ++ map (λ (outlet : Outlet). outlet.output.ty) (flat_map outlets_of (enumerate_from (from + 1) (zip members states))))
    (counted_types from (member, state) 0 member.component.unit.outputs)
    ∙ ap (λ rest. map (λ (output : Output). output.ty) member.component.unit.outputs ++ rest) (types_from (from + 1) members states (omega (arith, same)))

-- The type at a place is that of the output there.
pub type_is : (run : Composition) (states : List (List ℤ)) (place : ℕ) (outlet : Outlet) → length states ≡ length run.members
    → slice_get (outlets run states) place ≡ Some outlet → slice_get (types_of_places run) place ≡ Some outlet.output.ty
type_is run states place outlet same is =
    ap (λ types. slice_get types place) (sym (types_from 0 run.members states same))
    ∙ slice_get-map (λ (o : Outlet). o.output.ty) (outlets run states) place
    ∙ ap (option_map (λ (o : Outlet). o.output.ty)) is

pub types_count : (run : Composition) (states : List (List ℤ)) → length states ≡ length run.members → length (types_of_places run) ≡ length (outlets run states)
types_count run states same = sym (ap length (types_from 0 run.members states same)) ∙ length-map (outlets run states) (λ (o : Outlet). o.output.ty)
