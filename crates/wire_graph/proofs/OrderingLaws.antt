-- Sorted places are an order of the system, or give its first output without one.
use Rattle.std.proofs.Common.{◌≡◌, ℕ, zero, suc, ◌+◌, ◌<◌, ◌==◌, Bool, true, false, cond, List, [], ◌∷◌, length, get_or, Some, None, inl, inr, ◌⊎◌, refl, ap}
use Rattle.std.proofs.Common.{sym, subst, ◌∙◌, arith}
use Rattle.std.specs.Prelude.{not, slice_get}
use Rattle.std.specs.List.{AllByRecursion, position_from}
use Rattle.std.proofs.lemmas.Option.{same_Some}
use Rattle.unit_tree.specs.Compositions.{Composition, composition_of, run_of}
use Rattle.unit_tree.specs.Orders.{outputs_of}
use Rattle.unit_tree.specs.Plain.{plain_form}
use Rattle.unit_tree.specs.Ports.{IsAmong, needs_of_places}
use Rattle.unit_tree.specs.Printable.{IsRanged}
use Rattle.unit_tree.specs.Routes.{IsRoutedAfter, IsOrderOf, routes_of}
use Rattle.unit_tree.specs.WellFormed.{IsWellFormed}
use Rattle.unit_tree.specs.declared.order.Routes.{Routes}
use Rattle.unit_tree.specs.declared.system.System.{System}
use Rattle.run_laws.proofs.EventLaws.{plain_form_1, plain_form_without_events}
use Rattle.language_laws.proofs.NameLaws.{NamesDiffer, Wired, names_differ, is_wired}
use Rattle.run_laws.proofs.PlainCycles.{plain_is_wired}
use Rattle.run_laws.proofs.PlainOrders.{plain_of, plain_names_differ}
use Rattle.wire_graph.specs.Faults.{IsNumbered, IsAtPlace, IsRightFault}
use Rattle.wire_graph.specs.Sorting.{IsSorting, IsClosed}
use Rattle.wire_graph.specs.declared.fault.OrderFault.{OrderFault}
use Rattle.wire_graph.specs.declared.fault.OrderFault.TheVariants.{Loop, NoMemory}
use Rattle.wire_graph.proofs.ClosedPlaces.{AreClosed, first_left}
use Rattle.wire_graph.proofs.FaultLaws.{port_numbered}
use Rattle.wire_graph.proofs.RoutePlaces.{ordered_along}
use Rattle.run_laws.proofs.PlaceOrders.{port_at, at_is, count_is}
use Rattle.unit_tree.proofs.RouteLaws.{count_is as route_count, needs_is as route_needs}
use Rattle.list_laws.proofs.Truths.{one_or_two, true_is_false}

-- ---- What is left

pub none_left : (from : ℕ) (placed : List Bool) → position_from not from placed ≡ None → (k : ℕ) → k < length placed → get_or placed k false ≡ true
none_left from [] is k within = absurd (omega (arith, within))
none_left from (true ∷ placed) is zero within = refl
none_left from (true ∷ placed) is (suc k) within = none_left (from + 1) placed is k (omega (arith, within))
none_left from (false ∷ placed) is k within = absurd (cc)

-- The first that is left.
pub record IsFirstLeft (placed : List Bool) (k : ℕ) : Type 0 where
  pub within : k < length placed
  pub left : get_or placed k false ≡ false
  pub others : (j : ℕ) → j < k → get_or placed j false ≡ true

left_at : (placed : List Bool) (from found k : ℕ) → position_from not from placed ≡ Some found → found ≡ from + k → IsFirstLeft placed k
left_at [] from found k is at = absurd (cc)
left_at (false ∷ placed) from found zero is at = record { within = omega arith; left = refl; others = λ j none. absurd (omega (arith, none)) }
left_at (false ∷ placed) from found (suc k) is at = absurd (omega (arith, at, same_Some from found is))
left_at (true ∷ placed) from found zero is at = absurd (before (from + 1) placed found is (omega (arith, at)))
  where
    before : (later : ℕ) (rest : List Bool) (some : ℕ) → position_from not later rest ≡ Some some → some < later → ⊥
    before later [] some is below = cc
    before later (false ∷ rest) some is below = omega (arith, below, same_Some later some is)
    before later (true ∷ rest) some is below = before (later + 1) rest some is (omega (arith, below))
left_at (true ∷ placed) from found (suc k) is at =
    let later = left_at placed (from + 1) found k is (omega (arith, at)) in
    record { within = omega (arith, later.within); left = later.left; others = λ j below. by j below later.others }
  where
    by : (j : ℕ) → j < suc k → ((i : ℕ) → i < k → get_or placed i false ≡ true) → get_or (true ∷ placed) j false ≡ true
    by zero below others = refl
    by (suc j) below others = others j (omega (arith, below))

pub first_left_at : (placed : List Bool) (k : ℕ) → position_from not 0 placed ≡ Some k → IsFirstLeft placed k
first_left_at placed k is = left_at placed 0 k k is (omega arith)

-- ---- An order

module _ (run : Composition) (routes : Routes) (places : List ℕ) (placed : List Bool) (routes_are : routes ≡ routes_of run)
    (kept : IsSorting routes places placed) where
  count : length placed ≡ length (needs_of_places run)
  count = kept.one_each ∙ ap (λ (all : Routes). length all.outputs) routes_are ∙ route_count run

  pub right_order : position_from not 0 placed ≡ None → IsOrderOf run (record { places = places; routes = routes })
  right_order none = record {
    places = record {
      ordered = ordered_along run [] places (subst (λ (all : Routes). IsRoutedAfter all [] places) routes_are kept.routed);
      all = λ place within. kept.marked place (none_left 0 placed none place (omega (arith, within, count)));
    };
    routes = routes_are;
  }

  are_closed : IsClosed routes places → AreClosed run places
  are_closed closed = λ place within needs.
      subst (λ (all : Routes). IsClosed all places) routes_are closed place
      (omega (arith, within, route_count run))
      (subst (AllByRecursion (IsAmong places)) (sym (route_needs run place)) needs)

-- ---- The plain form

plain_facts : (system : System) → IsRanged system → IsWellFormed system → NamesDiffer (plain_form system) × Wired (plain_form system)
plain_facts system ranged kept = by_version (one_or_two system.version ranged.version.0 ranged.version.1)
  where
    by_version : (system.version ≡ 1) ⊎ (system.version ≡ 2) → NamesDiffer (plain_form system) × Wired (plain_form system)
    by_version (inl is) = subst (λ one. NamesDiffer one × Wired one) (sym (plain_form_1 system is)) (names_differ system kept, is_wired system kept)
    by_version (inr is) =
        subst (λ version. NamesDiffer (cond (version == 2) (plain_of system) system) × Wired (cond (version == 2) (plain_of system) system)) (sym is)
        (plain_names_differ system ranged kept, plain_is_wired system ranged kept)

-- ---- The fault

pub right_fault : (system : System) (routes : Routes) (places : List ℕ) (placed : List Bool) (place : ℕ) (fault : OrderFault) → IsRanged system
    → IsWellFormed system → routes ≡ routes_of (run_of system) → IsSorting routes places placed → IsClosed routes places
    → position_from not 0 placed ≡ Some place → IsAtPlace routes place fault → IsRightFault system fault
right_fault system routes places placed place NoMemory ranged kept routes_are sorted closed is_left at = tt
right_fault system routes places placed place (Loop instance output) ranged kept routes_are sorted closed is_left at =
    let plain = plain_form_without_events system ranged in
    let facts = plain_facts system ranged kept in
    let run = composition_of (plain_form system) in
    let left = first_left_at placed place is_left in
    let within : place < length (needs_of_places run) = omega (arith, left.within, count run routes places placed routes_are sorted) in
    let is_output : place < length (outputs_of (plain_form system)) = omega (arith, within, count_is (plain_form system) plain facts.0) in
    let port = port_at (plain_form system) plain facts.0 facts.1 place in
    let numbered =
    port_numbered (plain_form system) plain place at.0 port (ap (λ (all : Routes). slice_get all.outputs place) (sym routes_are) ∙ at.1)
    (at_is (plain_form system) plain facts.0 facts.1 place is_output) in (
      port,
      subst (λ number. IsNumbered (plain_form system) instance number port) at.3
          (subst (λ number. IsNumbered (plain_form system) number at.0.output port) at.2 numbered),
      first_left (plain_form system) plain facts.0 facts.1 places place
          (ordered_along run [] places (subst (λ (all : Routes). IsRoutedAfter all [] places) routes_are sorted.routed))
          (are_closed run routes places placed routes_are sorted closed)
          within
          (λ stands. true_is_false (get_or placed place false) (sorted.among place stands) left.left)
          (λ other below. sorted.marked other (left.others other below)),
    )
