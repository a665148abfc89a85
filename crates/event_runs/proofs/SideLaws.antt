-- The right sides of the source's equations are those of the plain form's, read as signals.
use Rattle.std.proofs.Common.{◌≡◌, ℕ, Bool, true, ℤ, pos, List, [], ◌∷◌, ◌++◌, append_assoc, map, length, Option, Some, None, Result, Ok, Err, inl, inr}
use Rattle.std.proofs.Common.{refl, sym, ap, ◌∙◌, subst}
use Rattle.std.specs.Prelude.{zip}
use Rattle.std.specs.List.{AllByRecursion, flat_map}
use Rattle.std.specs.Option.{option_map, option_and_then}
use Rattle.std.specs.Result.{result_ok}
use Rattle.std.proofs.lemmas.List.{length-map, map-append}
use Rattle.fixed_words.specs.Operations.{Outcome}
use Rattle.fixed_words.specs.declared.types.Fault.{Fault}
use Rattle.fixed_words.specs.declared.types.Ty.{Ty}
use Rattle.fixed_words.specs.declared.types.Ty.TheVariants as types
use Rattle.unit_tree.specs.Components.{Component, variable, start_word, given_as, get_of, environment_of}
use Rattle.unit_tree.specs.Names.{is_among, event_input_names}
use Rattle.unit_tree.specs.Plain.{presence_name, no_event, plain_inputs, plain_needs, plain_output, plain_outputs, plain_unit, plain_expression, presence_of}
use Rattle.unit_tree.specs.Plain.{word_expression_of}
use Rattle.unit_tree.specs.Ports.{Ports, Standing, Outlet, seen_by, all_there, inputs_for, word_at}
use Rattle.unit_tree.specs.Tokens.{IsWord}
use Rattle.unit_tree.specs.Values.{◌>>=◌}
use Rattle.unit_tree.specs.declared.unit.EventIn.{EventIn}
use Rattle.unit_tree.specs.declared.unit.EventOut.{EventOut}
use Rattle.unit_tree.specs.declared.unit.Output.{Output}
use Rattle.unit_tree.specs.declared.unit.Unit.{Unit}
use Rattle.list_laws.proofs.Members.{has_map}
use Rattle.list_laws.proofs.Members.{all_has, each_has}
use Rattle.list_laws.proofs.Lists.{each_part}
use Rattle.run_laws.proofs.PortLaws.{has_among}
use Rattle.event_runs.specs.EventPorts.{Signals, EventMember, Plain, Event, needs_in, get_out, word_needed, signal_needed, seen_for, EventStanding, signal_of}
use Rattle.event_runs.specs.EventPorts.{signals_at}
use Rattle.event_runs.specs.Readings.{is_event, shape_of, read_pair, read_ports, plain_source, plain_feed, plain_member, plain_component, plain_words}
use Rattle.event_runs.specs.Laws.{IsTidyPair, AreTidy, IsWired, Speaks, Fits, AreTwoGets}
use Rattle.event_runs.specs.Events.{Signal, Occurs, Absent, Seen, get_in, get_event}
use Rattle.event_runs.proofs.CallLaws.{zero_given, get_same, event_same, of_event, of_input}
use Rattle.event_runs.proofs.EventLaws.{plainly}
use Rattle.event_runs.proofs.PortLaws.{joined, there_append, zip_append, there_length, plain_seen, events_seen, seen_joined, zero_start, seen_parts}
use Rattle.event_runs.proofs.TidyLaws.{AreTidyValues, tidy}
use Rattle.event_runs.proofs.ValueLaws.{Given}

-- ---- One member

module _ (shape : List Bool) (ports : Ports) (one : EventMember) (state : List ℤ) (wired : IsWired shape one) where
  abbrev pub unit : Unit
  unit = one.member.component.unit

  abbrev pub component : Component
  component = one.member.component

  abbrev pub standing : Standing
  standing = (plain_member shape one, state)

  -- The word of a plain output, whatever its number is.
  abbrev pub outlet_for : Output → Outlet
  outlet_for output = record { standing = standing; instance = 0; output = output; number = 0 }

  abbrev pub word_of : Output → Option ℤ
  word_of output = word_at ports (outlet_for output)

  abbrev pub words_of : List Output → Ports
  words_of outputs = map word_of outputs

  pub events_named : AllByRecursion
      (λ event. IsWord event.name × (start_word event.ty (no_event event.ty) ≡ pos 0) × (is_among (event_input_names unit) event.name ≡ true)) unit.events_in
  events_named =
      let front = each_part (λ variable. IsWord variable.name)
      (map (λ param. variable param.name param.ty) unit.params ++ map (λ state. variable state.name state.ty) unit.states ++ map of_input unit.inputs
      ++ map of_event unit.events_in) (map (λ local. variable local.name local.ty) unit.locals) wired.said.variables in
      let events = (each_part (λ variable. IsWord variable.name)
      (map (λ param. variable param.name param.ty) unit.params ++ map (λ state. variable state.name state.ty) unit.states ++ map of_input unit.inputs)
      (map of_event unit.events_in) front.0).1 in
      all_has (λ event. IsWord event.name × (start_word event.ty (no_event event.ty) ≡ pos 0)
      × (is_among (event_input_names unit) event.name ≡ true)) unit.events_in
      (λ event has. (
        each_has (λ variable. IsWord variable.name) (map of_event unit.events_in) (of_event event) events (has_map of_event unit.events_in event has),
        zero_start event.ty,
        has_among (event_input_names unit) event.name (has_map (λ (e : EventIn). e.name) unit.events_in event has),
      ))

  pub inputs_named : AllByRecursion (λ input. IsWord input.name) unit.inputs
  inputs_named =
      let front = each_part (λ variable. IsWord variable.name)
      (map (λ param. variable param.name param.ty) unit.params ++ map (λ state. variable state.name state.ty) unit.states ++ map of_input unit.inputs
      ++ map of_event unit.events_in) (map (λ local. variable local.name local.ty) unit.locals) wired.said.variables in
      let events = each_part (λ variable. IsWord variable.name)
      (map (λ param. variable param.name param.ty) unit.params ++ map (λ state. variable state.name state.ty) unit.states ++ map of_input unit.inputs)
      (map of_event unit.events_in) front.0 in
      let inputs = (each_part (λ variable. IsWord variable.name)
      (map (λ param. variable param.name param.ty) unit.params ++ map (λ state. variable state.name state.ty) unit.states)
      (map of_input unit.inputs) events.0).1 in
      all_has (λ input. IsWord input.name) unit.inputs
      (λ input has. each_has (λ variable. IsWord variable.name) (map of_input unit.inputs) (of_input input) inputs (has_map of_input unit.inputs input has))

  -- Two ports of an event output are tidy, whatever the ports are.
  pub tidy_given : (ty : Ty) (tells word : Given) → AreTidyValues ty tells word
      → IsTidyPair (result_ok (tells >>= given_as types.Bool)) (result_ok (word >>= given_as ty))
  tidy_given ty (Err fault) word are = tt
  tidy_given ty (Ok tells) (Err fault) are = none_behind (result_ok (given_as types.Bool tells))
    where
      none_behind : (first : Option ℤ) → IsTidyPair first None
      none_behind None = tt
      none_behind (Some first) = tt
  tidy_given ty (Ok tells) (Ok word) (inl is) =
      subst (λ t. IsTidyPair (result_ok (given_as types.Bool t)) (result_ok (given_as ty word))) (sym is) (one_first (result_ok (given_as ty word)))
    where
      one_first : (second : Option ℤ) → IsTidyPair (Some (pos 1)) second
      one_first None = tt
      one_first (Some second) = inl refl
  tidy_given ty (Ok tells) (Ok word) (inr are) =
      subst (λ t. IsTidyPair (result_ok (given_as types.Bool t)) (result_ok (given_as ty word))) (sym are.0)
      (subst (λ w. IsTidyPair (Some (pos 0)) (result_ok (given_as ty w))) (sym are.1)
      (subst (λ given. IsTidyPair (Some (pos 0)) (result_ok given)) (sym (zero_given ty)) (inr (refl, refl))))

  abbrev pub first_of : EventOut → Output
  first_of event = record {
    name = presence_name event.name;
    ty = types.Bool;
    needs = plain_needs unit event.needs;
    value =
        plain_expression (presence_of event.value);
  }

  abbrev pub second_of : EventOut → Output
  second_of event = record {
    name = event.name;
    ty = event.ty;
    needs = plain_needs unit event.needs;
    value =
        plain_expression (word_expression_of event.ty event.value);
  }

  pub tidy_by : (event : EventOut) (given : Option (List ℤ))
      → IsTidyPair (option_and_then result_ok (option_map (λ inputs. get_of (plain_component component) state inputs (first_of event)) given))
      (option_and_then result_ok (option_map (λ inputs. get_of (plain_component component) state inputs (second_of event)) given))
  tidy_by event None = tt
  tidy_by event (Some inputs) =
      tidy_given event.ty (plainly (presence_of event.value) (environment_of (plain_component component) state inputs 0 0))
      (plainly (word_expression_of event.ty event.value) (environment_of (plain_component component) state inputs 0 0))
      (tidy (environment_of (plain_component component) state inputs 0 0) event.ty event.value)

  pub words_are_tidy : (event : EventOut) → IsTidyPair (word_of (first_of event)) (word_of (second_of event))
  words_are_tidy event = tidy_by event (inputs_for ports (outlet_for (first_of event)))

  module _ (are_tidy : AreTidy shape ports) where
    abbrev pub signals : Signals
    signals = read_ports shape ports

    -- What an output of the plain form reads is what that of the source does.
    pub seen_is : (needs : List (List ℕ)) (output : Output) → AllByRecursion IsWord needs → output.needs ≡ plain_needs unit needs
        → inputs_for ports (outlet_for output) ≡ option_map plain_words (seen_for signals needs one)
    seen_is needs output words needs_is =
        let plain_pairs = zip unit.inputs (map (plain_source shape) one.member.sources) in
        let event_pairs = zip (flat_map plain_inputs unit.events_in) (flat_map (plain_feed shape) one.feeds) in
        ap (λ pairs. all_there (map (seen_by ports output) pairs))
        (zip_append unit.inputs (flat_map plain_inputs unit.events_in) (map (plain_source shape) one.member.sources) (flat_map (plain_feed shape) one.feeds)
        (length-map one.member.sources (plain_source shape) ∙ wired.count))
        ∙ ap all_there (map-append (seen_by ports output) plain_pairs event_pairs)
        ∙ there_append (map (seen_by ports output) plain_pairs) (map (seen_by ports output) event_pairs)
        ∙ ap (λ front. joined (all_there front) (all_there (map (seen_by ports output) event_pairs)))
        (plain_seen shape ports are_tidy unit needs words output needs_is unit.inputs one.member.sources inputs_named wired.sources)
        ∙ ap (joined (all_there (map (word_needed signals needs) (zip unit.inputs one.member.sources))))
        (events_seen shape ports are_tidy unit needs words output needs_is unit.events_in one.feeds events_named wired.feeds)
        ∙ seen_joined shape ports are_tidy unit needs words output needs_is (all_there (map (word_needed signals needs) (zip unit.inputs one.member.sources)))
        (all_there (map (signal_needed signals needs) (zip unit.events_in one.feeds)))

    module _ (state_fits : length state ≡ length unit.states) where
      pub fits_seen : (needs : List (List ℕ)) (seen : Seen) → seen_for signals needs one ≡ Some seen → Fits component state seen
      fits_seen needs seen is =
          let both = seen_parts (all_there (map (word_needed signals needs) (zip unit.inputs one.member.sources)))
          (all_there (map (signal_needed signals needs) (zip unit.events_in one.feeds))) seen is in
          record {
            params = wired.params;
            states = state_fits;
            words = there_length (word_needed signals needs) unit.inputs one.member.sources seen.words wired.count both.words_are;
            signals = there_length (signal_needed signals needs) unit.events_in one.feeds seen.signals wired.events both.events_are;
          }

      abbrev pub at : EventStanding
      at = (one, state)

      pub plain_by : (output : Output) (seen : Option Seen) → Speaks (event_input_names unit) output.value → seen_for signals output.needs one ≡ seen
          → option_map Occurs (option_and_then result_ok
          (option_map (λ inputs. get_of (plain_component component) state inputs (plain_output unit output)) (option_map plain_words seen)))
          ≡ option_and_then result_ok (option_map (λ s. get_out component state s (Plain output)) seen)
      plain_by output None said is = refl
      plain_by output (Some seen) said is =
          ap (λ given. option_map Occurs (result_ok given)) (get_same component state seen (fits_seen output.needs seen is) wired.said.variables output said)
          ∙ by_given (get_in component state seen output)
        where
          by_given : (given : Outcome) → option_map Occurs (result_ok given) ≡ result_ok (given >>= λ word. Ok (Occurs word))
          by_given (Ok word) = refl
          by_given (Err fault) = refl

      pub plain_is : (output : Output) → AllByRecursion IsWord output.needs → Speaks (event_input_names unit) output.value
          → option_map Occurs (word_of (plain_output unit output)) ≡ signal_of signals at (Plain output)
      plain_is output words said =
          ap (λ inputs. option_map Occurs
          (option_and_then result_ok (option_map (λ i. get_of (plain_component component) state i (plain_output unit output)) inputs)))
          (seen_is output.needs (plain_output unit output) words refl)
          ∙ plain_by output (seen_for signals output.needs one) said refl

      pub two_read : (event : Result Signal Fault) (tells word : Outcome) → AreTwoGets event tells word
          → read_pair (result_ok tells) (result_ok word) ≡ result_ok event
      two_read (Ok Absent) tells word are = ap (λ t. read_pair (result_ok t) (result_ok word)) are.0 ∙ ap (λ w. read_pair (Some (pos 0)) (result_ok w)) are.1
      two_read (Ok (Occurs x)) tells word are = ap (λ t. read_pair (result_ok t) (result_ok word)) are.0
          ∙ ap (λ w. read_pair (Some (pos 1)) (result_ok w)) are.1
      two_read (Err fault) tells word are = ap (λ w. read_pair (result_ok tells) (result_ok w)) are.1 ∙ none_behind (result_ok tells)
        where
          none_behind : (first : Option ℤ) → read_pair first None ≡ None
          none_behind None = refl
          none_behind (Some first) = refl

      pub event_by : (event : EventOut) (seen : Option Seen) → Speaks (event_input_names unit) event.value → seen_for signals event.needs one ≡ seen
          → read_pair (option_and_then result_ok
          (option_map (λ inputs. get_of (plain_component component) state inputs (first_of event)) (option_map plain_words seen)))
          (option_and_then result_ok (option_map (λ inputs. get_of (plain_component component) state inputs (second_of event)) (option_map plain_words seen)))
          ≡ option_and_then result_ok (option_map (λ s. get_out component state s (Event event)) seen)
      event_by event None said is = refl
      event_by event (Some seen) said is =
          two_read (get_event component state seen event) (get_of (plain_component component) state (plain_words seen) (first_of event))
          (get_of (plain_component component) state (plain_words seen) (second_of event))
          (event_same component state seen (fits_seen event.needs seen is) wired.said.variables event (first_of event)
          (second_of event) refl refl refl refl said)

      pub event_is : (event : EventOut) → AllByRecursion IsWord event.needs → Speaks (event_input_names unit) event.value
          → read_pair (word_of (first_of event)) (word_of (second_of event)) ≡ signal_of signals at (Event event)
      event_is event words said =
          ap (λ inputs. read_pair (option_and_then result_ok (option_map (λ i. get_of (plain_component component) state i (first_of event)) inputs))
          (word_of (second_of event))) (seen_is event.needs (first_of event) words refl)
          ∙ ap (λ inputs. read_pair
          (option_and_then result_ok
          (option_map (λ i. get_of (plain_component component) state i (first_of event)) (option_map plain_words (seen_for signals event.needs one))))
          (option_and_then result_ok (option_map (λ i. get_of (plain_component component) state i (second_of event)) inputs)))
          (seen_is event.needs (second_of event) words refl)
          ∙ event_by event (seen_for signals event.needs one) said refl

      -- ---- All outputs of a member, before others

      pub plain_front : (outputs : List Output) (shape' : List Bool) (ports' : Ports)
          → AllByRecursion (λ output. Speaks (event_input_names unit) output.value) outputs
          → AllByRecursion (λ out. AllByRecursion IsWord (needs_in out)) (map Plain outputs)
          → read_ports (map is_event (map Plain outputs) ++ shape') (words_of (map (plain_output unit) outputs) ++ ports')
          ≡ map (signal_of signals at) (map Plain outputs) ++ read_ports shape' ports'
      plain_front [] shape' ports' said words = refl
      plain_front (output ∷ outputs) shape' ports' said words =
          ap (λ first. first ∷ read_ports (map is_event (map Plain outputs) ++ shape') (words_of (map (plain_output unit) outputs) ++ ports'))
          (plain_is output words.0 said.0)
          ∙ ap (λ rest. signal_of signals at (Plain output) ∷ rest) (plain_front outputs shape' ports' said.1 words.1)

      pub event_front : (events : List EventOut) (shape' : List Bool) (ports' : Ports)
          → AllByRecursion (λ event. Speaks (event_input_names unit) event.value) events
          → AllByRecursion (λ out. AllByRecursion IsWord (needs_in out)) (map Event events)
          → read_ports (map is_event (map Event events) ++ shape') (words_of (flat_map (plain_outputs unit) events) ++ ports')
          ≡ map (signal_of signals at) (map Event events) ++ read_ports shape' ports'
      event_front [] shape' ports' said words = refl
      event_front (event ∷ events) shape' ports' said words =
          ap (λ first. first ∷ read_ports (map is_event (map Event events) ++ shape') (words_of (flat_map (plain_outputs unit) events) ++ ports'))
          (event_is event words.0 said.0)
          ∙ ap (λ rest. signal_of signals at (Event event) ∷ rest) (event_front events shape' ports' said.1 words.1)

      pub member_front : (shape' : List Bool) (ports' : Ports)
          → read_ports (shape_of one ++ shape') (words_of (plain_unit unit).outputs ++ ports') ≡ signals_at signals at ++ read_ports shape' ports'
      member_front shape' ports' =
          let needs = each_part (λ out. AllByRecursion IsWord (needs_in out)) (map Plain unit.outputs) (map Event unit.events_out) wired.needs in
          let plain_shape = map is_event (map Plain unit.outputs) in
          let event_shape = map is_event (map Event unit.events_out) in
          let plain_ports = words_of (map (plain_output unit) unit.outputs) in
          let event_ports = words_of (flat_map (plain_outputs unit) unit.events_out) in
          ap (λ s. read_ports (s ++ shape') (words_of (plain_unit unit).outputs ++ ports'))
          (map-append is_event (map Plain unit.outputs) (map Event unit.events_out))
          ∙ ap (λ s. read_ports s (words_of (plain_unit unit).outputs ++ ports')) (append_assoc plain_shape event_shape shape')
          ∙ ap (λ p. read_ports (plain_shape ++ (event_shape ++ shape')) (p ++ ports'))
          (map-append word_of (map (plain_output unit) unit.outputs) (flat_map (plain_outputs unit) unit.events_out))
          ∙ ap (read_ports (plain_shape ++ (event_shape ++ shape'))) (append_assoc plain_ports event_ports ports')
          ∙ plain_front unit.outputs (event_shape ++ shape') (event_ports ++ ports') wired.said.outputs needs.0
          ∙ ap (λ rest. map (signal_of signals at) (map Plain unit.outputs) ++ rest) (event_front unit.events_out shape' ports' wired.said.events needs.1)
          ∙ sym (append_assoc (map (signal_of signals at) (map Plain unit.outputs)) (map (signal_of signals at) (map Event unit.events_out))
          (read_ports shape' ports'))
          ∙ ap (λ front. front ++ read_ports shape' ports') (sym (map-append (signal_of signals at) (map Plain unit.outputs) (map Event unit.events_out)))

  -- ---- Tidy, before others

  pub plain_tidy : (outputs : List Output) (shape' : List Bool) (ports' : Ports) → AreTidy shape' ports'
      → AreTidy (map is_event (map Plain outputs) ++ shape') (words_of (map (plain_output unit) outputs) ++ ports')
  plain_tidy [] shape' ports' rest = rest
  plain_tidy (output ∷ outputs) shape' ports' rest = plain_tidy outputs shape' ports' rest

  pub event_tidy : (events : List EventOut) (shape' : List Bool) (ports' : Ports) → AreTidy shape' ports'
      → AreTidy (map is_event (map Event events) ++ shape') (words_of (flat_map (plain_outputs unit) events) ++ ports')
  event_tidy [] shape' ports' rest = rest
  event_tidy (event ∷ events) shape' ports' rest = (words_are_tidy event, event_tidy events shape' ports' rest)

  pub member_tidy : (shape' : List Bool) (ports' : Ports) → AreTidy shape' ports'
      → AreTidy (shape_of one ++ shape') (words_of (plain_unit unit).outputs ++ ports')
  member_tidy shape' ports' rest =
      let plain_shape = map is_event (map Plain unit.outputs) in
      let event_shape = map is_event (map Event unit.events_out) in
      let plain_ports = words_of (map (plain_output unit) unit.outputs) in
      let event_ports = words_of (flat_map (plain_outputs unit) unit.events_out) in
      subst (λ s. AreTidy (s ++ shape') (words_of (plain_unit unit).outputs ++ ports'))
      (sym (map-append is_event (map Plain unit.outputs) (map Event unit.events_out)))
      (subst (λ p. AreTidy ((plain_shape ++ event_shape) ++ shape') (p ++ ports'))
      (sym (map-append word_of (map (plain_output unit) unit.outputs) (flat_map (plain_outputs unit) unit.events_out)))
      (subst (λ s. AreTidy s ((plain_ports ++ event_ports) ++ ports')) (sym (append_assoc plain_shape event_shape shape'))
      (subst (λ p. AreTidy (plain_shape ++ (event_shape ++ shape')) p) (sym (append_assoc plain_ports event_ports ports'))
      (plain_tidy unit.outputs (event_shape ++ shape') (event_ports ++ ports') (event_tidy unit.events_out shape' ports' rest)))))
