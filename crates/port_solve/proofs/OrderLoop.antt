-- The loop along an order: what holds of a prefix holds of the prefix with the next output.
use Rattle.std.proofs.Common.{◌≡◌, ◌∙◌, ℕ, ◌+◌, ◌<◌, ◌≤◌, Bool, ℤ, List, length, take, get_or, set, Option, Some, ap, sym, subst, arith}
use Rattle.std.proofs.lemmas.List.{take_more, take_all}
use Rattle.std.specs.Prelude.{slice_get, IsSome}
use Rattle.fixed_words.specs.declared.types.Fault.{Fault}
use Rattle.port_solve.specs.Solved.{HaveStates, HaveInputs, HaveTheirWords, ports_told, with_words}
use Rattle.port_solve.specs.Sound.{IsSound}
use Rattle.port_solve.specs.Steps.{set_from, word_asked, fault_asked, FitsFeeds, fault_there, noted, IsFirst}
use Rattle.port_solve.specs.declared.outputs.Faulted.{Faulted}
use Rattle.unit_tree.specs.Compositions.{Composition}
use Rattle.unit_tree.specs.Given.{given_by}
use Rattle.unit_tree.specs.Ports.{Ports, IsAssignment, IsPlaceOrder, needs_of_places}
use Rattle.unit_tree.specs.Routes.{routes_of}
use Rattle.run_laws.specs.RunLaws.{HasOneAssignment}
use Rattle.unit_tree.specs.declared.order.Route.{Route}
use Rattle.run_laws.proofs.AssignmentLaws.{one_assignment}
use Rattle.unit_tree.proofs.RouteLaws.{count_is}
use Rattle.port_solve.proofs.SolvedPorts.{IsNext, next_place, told_right, told_count, their_words}
use Rattle.port_solve.proofs.FirstFault.{first_noted}
use Rattle.port_solve.proofs.Fronts.{IsFront, one_state, is_given, fits_feeds, fault_is, next_front}

module _ (run : Composition) (states : List (List ℤ)) (sound : IsSound run) (have : HaveStates run states) (places : List ℕ)
    (is_order : IsPlaceOrder run places) (routes : List Route) (are_routes : routes ≡ (routes_of run).outputs) where
  pub route_count : length routes ≡ length (needs_of_places run)
  route_count = ap length are_routes ∙ count_is run

  abbrev same : length states ≡ length run.members
  same = one_state run states sound have

  abbrev one : HasOneAssignment run states
  one = one_assignment run places states is_order same

  -- For each port assignment; there is only one.
  abbrev pub Front : ℕ → Ports → List (List ℤ) → Type 0
  Front k told inputs = (right : Ports) → IsAssignment run states right → IsFront run right (take k places) told inputs

  abbrev pub First : ℕ → Option Faulted → Type 0
  First k first = (right : Ports) → IsAssignment run states right → IsFirst run states right (take k places) first

  module _ (k : ℕ) (within : k < length places) where
    abbrev place : ℕ
    place = get_or places k 0

    abbrev next : IsNext run (take k places) place
    next = next_place run places k is_order within

    pub in_range : place < length routes
    in_range = omega (arith, next.within, route_count)

    module _ (known : List Bool) (words : List ℤ) (inputs : List (List ℤ)) (front : Front k (ports_told known words) inputs)
        (known_count : length known ≡ length routes) (words_count : length words ≡ length routes) (route : Route)
        (route_is : slice_get routes place ≡ Some route) where
      abbrev is_route : slice_get (routes_of run).outputs place ≡ Some route
      is_route = sym (ap (λ all. slice_get all place) are_routes) ∙ route_is

      abbrev same_length : length known ≡ length words
      same_length = known_count ∙ sym words_count

      pub asks : IsSome (given_by run states inputs route.instance route.output)
      asks = is_given run states sound have one.ports (take k places) known words inputs
          (front one.ports one.is_assignment) same_length place route is_route next.behind

      pub fits : FitsFeeds run route.feeds (word_asked run states inputs known route)
      fits = fits_feeds run states sound have one.ports (take k places) known words inputs
          (front one.ports one.is_assignment) same_length place route is_route next.behind

      pub front_next : (told : Ports) (later : List (List ℤ)) → told ≡ set (ports_told known words) place (word_asked run states inputs known route)
          → later ≡ with_words inputs (set_from (word_asked run states inputs known route) route.feeds) → Front (k + 1) told later
      front_next told later told_is later_is right is_right =
          let in_told : place < length (ports_told known words) = omega (arith, in_range, told_count known words same_length, words_count) in
          subst (λ some. IsFront run right some told later) (sym (take_more places k 0 within))
          (next_front run states sound have right (take k places) known words inputs
          (front right is_right) same_length place route is_route next.behind is_right next.apart in_told told later told_is later_is)

      pub first_next : (first : Option Faulted) (fault : Option Fault) → First k first → fault ≡ fault_asked run states inputs known route
          → First (k + 1) (noted first place fault)
      first_next first fault is_first fault_is_asked right is_right =
          let there : fault_there run states right place ≡ fault =
          sym (fault_is_asked
          ∙ fault_is run states sound have right (take k places) known words inputs (front right is_right) same_length place route is_route next.behind) in
          subst (λ some. IsFirst run states right some (noted first place fault)) (sym (take_more places k 0 within))
          (first_noted run states right (take k places) place first fault there (is_first right is_right))

  -- ---- At the end

  module _ (k : ℕ) (past : length places ≤ k) (known : List Bool) (words : List ℤ) (inputs : List (List ℤ)) (front : Front k (ports_told known words) inputs)
      (known_count : length known ≡ length routes) (words_count : length words ≡ length routes) where
    abbrev whole : take k places ≡ places
    whole = take_all k places past

    abbrev last : IsFront run one.ports places (ports_told known words) inputs
    last = subst (λ some. IsFront run one.ports some (ports_told known words) inputs) whole (front one.ports one.is_assignment)

    abbrev count : length (ports_told known words) ≡ length (needs_of_places run)
    count = told_count known words (known_count ∙ sym words_count) ∙ words_count ∙ route_count

    told_is : ports_told known words ≡ one.ports
    told_is = told_right run states one.ports (ports_told known words) inputs places is_order same one.is_assignment last count

    pub is_assignment : IsAssignment run states (ports_told known words)
    is_assignment = subst (IsAssignment run states) (sym told_is) one.is_assignment

    pub have_words : HaveTheirWords run (ports_told known words) inputs
    have_words = their_words run states one.ports (ports_told known words) inputs places is_order same one.is_assignment last count

    pub have_inputs : HaveInputs run inputs
    have_inputs = last.shape

    pub is_first : (first : Option Faulted) → First k first → IsFirst run states (ports_told known words) places first
    is_first first all = subst (λ some. IsFirst run states (ports_told known words) some first) whole (all (ports_told known words) is_assignment)
