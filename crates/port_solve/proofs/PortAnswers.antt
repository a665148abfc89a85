-- The beginning and the end of the solver: with their start words inputs are ready to be fed, and the end of the loop has the result.
use Rattle.std.proofs.Common.{◌≡◌, ◌∙◌, ℕ, ◌<◌, Bool, true, ℤ, List, [], ◌∷◌, ◌++◌, length, Some, None, Err, inl, inr, refl, ap, sym, subst, arith}
use Rattle.std.specs.Prelude.{slice_get, is_some, IfSome}
use Rattle.std.specs.List.{AllByRecursion, list_all}
use Rattle.port_solve.specs.Solved.{HaveStates, HaveInputs, HaveTheirWords, HasItsWord, ports_told, ending_told, with_words}
use Rattle.port_solve.specs.Sound.{IsSound}
use Rattle.port_solve.specs.Steps.{IsFirst}
use Rattle.port_solve.specs.declared.outputs.Faulted.{Faulted}
use Rattle.port_solve.specs.declared.solving.PortFault.{PortFault}
use Rattle.unit_tree.specs.Compositions.{InputSource, Start, AtPlace, Composition}
use Rattle.unit_tree.specs.Given.{IsInputWord}
use Rattle.unit_tree.specs.Negotiation.{all_inputs}
use Rattle.unit_tree.specs.Ports.{Ports, IsAmong, IsAssignment, IsOrderedAfter, port_fault, needs_of_places}
use Rattle.unit_tree.specs.Routes.{Ordered, IsOrderOf, inputs_of, routes_of}
use Rattle.unit_tree.specs.declared.ending.Ending.TheVariants.{UnitFault}
use Rattle.unit_tree.specs.declared.ending.Place.TheVariants as place
use Rattle.unit_tree.specs.declared.order.InputAt.{InputAt}
use Rattle.unit_tree.specs.declared.order.Route.{Route}
use Rattle.unit_tree.specs.declared.order.StartWord.{StartWord}
use Rattle.run_laws.proofs.AssignmentLaws.{undefined_faults}
use Rattle.unit_tree.proofs.RouteLaws.{count_is}
use Rattle.port_solve.proofs.SolvedPorts.{told_count, known_all, all_right}
use Rattle.port_solve.proofs.FirstFault.{no_port_fault, is_port_fault}
use Rattle.port_solve.proofs.Fronts.{one_state, same_sources, start_fits}
use Rattle.port_solve.proofs.InputPlaces.{source_at, source_is, start_is, has_start}
use Rattle.port_solve.proofs.OutputPlaces.{outlet_of}
use Rattle.port_solve.proofs.SetWords.{word_after}
use Rattle.list_laws.proofs.Members.{Has, at_place, all_has}

-- ---- Start words

module _ (run : Composition) (sound : IsSound run) where
  pub starts_fit : AllByRecursion (λ start. IsInputWord run start.at.instance start.at.input start.word) (routes_of run).starts
  starts_fit = all_has _ (routes_of run).starts (λ start has. start_fits run sound start.at start.word (start_is run start has))

  module _ (inputs : List (List ℤ)) (shape : HaveInputs run inputs) where
    agrees : (at : InputAt) (word : ℤ) → source_at run at ≡ Some (Start word) → (start : StartWord) → Has (routes_of run).starts start → start.at ≡ at
        → start.word ≡ word
    agrees at word is start has same = same_start (sym (start_is run start has) ∙ ap (source_at run) same ∙ is)
      where
        same_start : Some (Start start.word) ≡ Some (Start word) → start.word ≡ word
        same_start is = cc

    its_start : (at : InputAt) (source : InputSource) → Has (inputs_of run) (at, source) → HasItsWord [] (with_words inputs (routes_of run).starts) (at, source)
    its_start at (Start word) has =
        let is = source_is run at (Start word) has in
        word_after run (same_sources run sound) at (Start word) is word (routes_of run).starts inputs shape (agrees at word is)
        (inr (record { at = at; word = word }, has_start run at word is, refl))
    its_start at (AtPlace place) has = tt

    pub start_words : HaveTheirWords run [] (with_words inputs (routes_of run).starts)
    start_words = all_has (HasItsWord [] (with_words inputs (routes_of run).starts)) (inputs_of run) (λ pair has. its_start pair.0 pair.1 has)

-- ---- The answer

among_within : (run : Composition) (before order : List ℕ) (place : ℕ) → IsOrderedAfter run before order → IsAmong order place
    → place < length (needs_of_places run)
among_within run before [] place ordered among = absurd among
among_within run before (first ∷ order) place ordered (inl is) = subst (λ p. p < length (needs_of_places run)) is ordered.0
among_within run before (first ∷ order) place ordered (inr later) = among_within run (before ++ (first ∷ [])) order place ordered.3 later

module _ (run : Composition) (states : List (List ℤ)) (sound : IsSound run) (have : HaveStates run states) (order : Ordered) (is_order : IsOrderOf run order)
    (known : List Bool) (words : List ℤ) (known_count : length known ≡ length order.routes.outputs) (words_count : length words ≡ length order.routes.outputs)
    (assigned : IsAssignment run states (ports_told known words)) where
  abbrev told : Ports
  told = ports_told known words

  abbrev same : length states ≡ length run.members
  same = one_state run states sound have

  pub fault_within : (first : Faulted) → IsFirst run states told order.places (Some first) → first.place < length order.routes.outputs
  fault_within first is =
      omega (
        arith,
        among_within run [] order.places first.place is_order.places.ordered is.0,
        count_is run,
        ap (λ routes. length routes.outputs) is_order.routes,
      )

  pub fault_is_told : (first : Faulted) (fault : PortFault) → IsFirst run states told order.places (Some first)
      → IfSome (slice_get order.routes.outputs first.place) (λ route. fault ≡ record { instance = route.instance; output = route.output; fault = first.fault })
      → port_fault run states told ≡ ending_told (Err fault)
  fault_is_told first fault is fault_is =
      let here = at_place order.routes.outputs first.place (fault_within first is) in
      let route : Route = here.0 in
      let fault_at_route : fault ≡ record { instance = route.instance; output = route.output; fault = first.fault } =
      subst (λ found. IfSome found (λ r. fault ≡ record { instance = r.instance; output = r.output; fault = first.fault })) here.1 fault_is in
      let at = outlet_of run states first.place route same (sym (ap (λ routes. slice_get routes.outputs first.place) is_order.routes) ∙ here.1) in
      is_port_fault run states told order.places is_order.places same first at.outlet at.is is
      ∙ ap (λ instance. Some (UnitFault instance (place.Output at.outlet.number) first.fault)) at.instance
      ∙ ap (λ number. Some (UnitFault route.instance (place.Output number) first.fault)) at.number
      ∙ sym (ap (λ (f : PortFault). Some (UnitFault f.instance (place.Output f.output) f.fault)) fault_at_route)

  module _ (none : IsFirst run states told order.places None) where
    pub none_told : port_fault run states told ≡ None
    none_told = no_port_fault run states told order.places is_order.places same none

    all_defined : list_all is_some told ≡ true
    all_defined = (undefined_faults run order.places states told is_order.places same assigned).0 none_told

    pub all_are_known : list_all (λ is_known. is_known) known ≡ true
    all_are_known = known_all known words (known_count ∙ sym words_count) all_defined

    pub inputs_are : (inputs : List (List ℤ)) → HaveTheirWords run told inputs → HaveInputs run inputs → inputs ≡ all_inputs run told
    inputs_are inputs their shape =
        all_right run states sound have told inputs
        (told_count known words (known_count ∙ sym words_count) ∙ words_count ∙ ap (λ routes. length routes.outputs) is_order.routes ∙ count_is run)
        all_defined their shape
