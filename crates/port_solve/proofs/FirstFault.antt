-- The first fault by place is the port fault.
use Rattle.std.proofs.Common.{◌≡◌, ◌∙◌, ℕ, zero, suc, ◌<◌, ◌≤◌, Bool, true, false, cond, ℤ, List, [], ◌∷◌, ◌++◌, map, length, Option, Some, None}
use Rattle.std.proofs.Common.{refl, ap, sym, arith}
use Rattle.std.proofs.lemmas.Option.{slice_get-map, slice_get_within, none-some}
use Rattle.std.specs.Prelude.{slice_get, nat_lt}
use Rattle.std.specs.List.{AllByRecursion}
use Rattle.std.specs.Option.{option_map, option_and_then}
use Rattle.std.specs.Result.{result_err}
use Rattle.fixed_words.specs.declared.types.Fault.{Fault}
use Rattle.port_solve.specs.Steps.{fault_there, noted, IsFirst}
use Rattle.port_solve.specs.declared.outputs.Faulted.{Faulted}
use Rattle.unit_tree.specs.Compositions.{Composition}
use Rattle.unit_tree.specs.Ports.{Ports, Outlet, IsAmong, IsPlaceOrder, given_at, fault_at, port_fault, first_some, outlets, needs_of_places}
use Rattle.unit_tree.specs.declared.ending.Ending.{Ending}
use Rattle.unit_tree.specs.declared.ending.Ending.TheVariants.{UnitFault}
use Rattle.unit_tree.specs.declared.ending.Place.TheVariants as place
use Rattle.run_laws.proofs.AssignmentLaws.{outlets_count}
use Rattle.run_laws.proofs.EquationLaws.{each_place, among_last, among_front}
use Rattle.port_solve.proofs.Fronts.{mapped}
use Rattle.list_laws.proofs.Truths.{lt_not_told, lt_told}
use Rattle.list_laws.proofs.Lists.{each_more}

-- ---- One more output

module _ (run : Composition) (states : List (List ℤ)) (right : Ports) where
  abbrev NoFault : ℕ → Type 0
  NoFault place = fault_there run states right place ≡ None

  weaker : (places : List ℕ) (bound : ℕ) → AllByRecursion NoFault places → AllByRecursion (λ place. place < bound → NoFault place) places
  weaker [] bound all = tt
  weaker (place ∷ places) bound all = ((λ lower. all.0), weaker places bound all.1)

  nearer : (places : List ℕ) (bound near : ℕ) → near ≤ bound → AllByRecursion (λ place. place < bound → NoFault place) places
      → AllByRecursion (λ place. place < near → NoFault place) places
  nearer [] bound near at_most all = tt
  nearer (place ∷ places) bound near at_most all = ((λ lower. all.0 (omega (arith, lower, at_most))), nearer places bound near at_most all.1)

  noted_by : (told : Bool) (front : List ℕ) (place : ℕ) (first : Faulted) (fault : Fault) → nat_lt first.place place ≡ told
      → fault_there run states right place ≡ Some fault → IsFirst run states right front (Some first)
      → IsFirst run states right (front ++ (place ∷ [])) (cond told (Some first) (Some (record { place = place; fault = fault })))
  noted_by true front place first fault lower is was = (
    among_front front (place ∷ []) first.place was.0,
    was.1,
    each_more (λ q. q < first.place → NoFault q) front place was.2 (λ above. absurd (omega (arith, above, lt_told first.place place lower))),
  )
  noted_by false front place first fault lower is was = (
    among_last front place,
    is,
    each_more (λ q. q < place → NoFault q) front place (nearer front first.place place (lt_not_told first.place place lower) was.2)
        (λ above. absurd (omega (arith, above))),
  )

  pub first_noted : (front : List ℕ) (place : ℕ) (first : Option Faulted) (fault : Option Fault) → fault_there run states right place ≡ fault
      → IsFirst run states right front first → IsFirst run states right (front ++ (place ∷ [])) (noted first place fault)
  first_noted front place None None is was = each_more NoFault front place was is
  first_noted front place (Some first) None is was = (
    among_front front (place ∷ []) first.place was.0,
    was.1,
    each_more (λ q. q < first.place → NoFault q) front place was.2 (λ lower. is),
  )
  first_noted front place None (Some fault) is was = (
    among_last front place,
    is,
    each_more (λ q. q < place → NoFault q) front place (weaker front place was) (λ above. absurd (omega (arith, above))),
  )
  first_noted front place (Some first) (Some fault) is was = noted_by (nat_lt first.place place) front place first fault refl is was

  -- ---- All outputs

  fault_of : (at : ℕ) (outlet : Outlet) (fault : Option Fault) → slice_get (outlets run states) at ≡ Some outlet → fault_there run states right at ≡ fault
      → fault_at right outlet ≡ option_map (UnitFault outlet.instance (place.Output outlet.number)) fault
  fault_of at outlet fault there is =
      ap (option_map (UnitFault outlet.instance (place.Output outlet.number)))
      (sym (ap (λ found. option_and_then result_err (option_and_then (given_at right) found)) there) ∙ is)

none_first : (all : List (Option Ending)) → ((k : ℕ) (told : Option Ending) → slice_get all k ≡ Some told → told ≡ None) → first_some all ≡ None
none_first [] each = refl
none_first (None ∷ all) each = none_first all (λ k told is. each (suc k) told is)
none_first (Some ending ∷ all) each = each 0 (Some ending) refl

first_at : (all : List (Option Ending)) (k : ℕ) (ending : Ending) → slice_get all k ≡ Some (Some ending)
    → ((j : ℕ) (told : Option Ending) → j < k → slice_get all j ≡ Some told → told ≡ None) → first_some all ≡ Some ending
first_at [] k ending is each = absurd (cc)
first_at (Some first ∷ all) zero ending is each = cc
first_at (None ∷ all) zero ending is each = absurd (cc)
first_at (None ∷ all) (suc k) ending is each = first_at all k ending is (λ j told lower there. each (suc j) told (omega (arith, lower)) there)
first_at (Some first ∷ all) (suc k) ending is each = absurd (none-some first (sym (each 0 (Some first) (omega arith) refl)))

module _ (run : Composition) (states : List (List ℤ)) (right : Ports) (order : List ℕ) (is_order : IsPlaceOrder run order)
    (same : length states ≡ length run.members) where
  abbrev faults : List (Option Ending)
  faults = map (fault_at right) (outlets run states)

  -- There is no fault at the place.
  none_told : (k : ℕ) (told : Option Ending) → slice_get faults k ≡ Some told → (IsAmong order k → fault_there run states right k ≡ None) → told ≡ None
  none_told k told is none =
      let from = mapped (fault_at right) (slice_get (outlets run states) k) told (sym (slice_get-map (fault_at right) (outlets run states) k) ∙ is) in
      let within : k < length (needs_of_places run) = omega (arith, slice_get_within (outlets run states) k from.one from.is, outlets_count run states same) in
      sym from.made ∙ fault_of run states right k from.one None from.is (none (is_order.all k within))

  pub no_port_fault : IsFirst run states right order None → port_fault run states right ≡ None
  no_port_fault none = none_first faults (λ k told is. none_told k told is (λ among. each_place (NoFault run states right) order k none among))

  pub is_port_fault : (first : Faulted) (outlet : Outlet) → slice_get (outlets run states) first.place ≡ Some outlet
      → IsFirst run states right order (Some first) → port_fault run states right ≡ Some (UnitFault outlet.instance (place.Output outlet.number) first.fault)
  is_port_fault first outlet there is =
      first_at faults first.place (UnitFault outlet.instance (place.Output outlet.number) first.fault)
      (slice_get-map (fault_at right) (outlets run states) first.place ∙ ap (option_map (fault_at right)) there
      ∙ ap Some (fault_of run states right first.place outlet (Some first.fault) there is.1))
      (λ j told lower told_is. none_told j told told_is (λ among. each_place (λ q. q < first.place → NoFault run states right q) order j is.2 among lower))
