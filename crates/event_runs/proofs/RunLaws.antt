-- Port assignments of a source and of its plain form.
use Rattle.std.proofs.Common.{◌≡◌, ℕ, ◌+◌, Bool, true, false, ℤ, pos, List, [], ◌∷◌, ◌++◌, map, length, Option, Some, None, Ok, Err, inl, inr, refl, sym, ap}
use Rattle.std.proofs.Common.{◌∙◌, subst, arith}
use Rattle.std.specs.Prelude.{zip}
use Rattle.std.specs.List.{AllByRecursion, flat_map, enumerate_from}
use Rattle.std.specs.Option.{option_map, option_and_then}
use Rattle.std.specs.Result.{result_ok}
use Rattle.std.proofs.lemmas.List.{length-map, map-append}
use Rattle.fixed_words.specs.Operations.{Outcome}
use Rattle.unit_tree.specs.Components.{get_of}
use Rattle.unit_tree.specs.Compositions.{Composition}
use Rattle.unit_tree.specs.Plain.{plain_needs, plain_output, plain_outputs, plain_unit}
use Rattle.unit_tree.specs.Ports.{Ports, IsAssignment, IsPlaceOrder, word_at, outlets_of, right_sides}
use Rattle.unit_tree.specs.Tokens.{IsWord}
use Rattle.unit_tree.specs.Values.{◌>>=◌}
use Rattle.unit_tree.specs.declared.unit.EventOut.{EventOut}
use Rattle.unit_tree.specs.declared.unit.Output.{Output}
use Rattle.run_laws.proofs.AssignmentLaws.{one_assignment}
use Rattle.list_laws.proofs.Lists.{each_part}
use Rattle.event_runs.specs.EventPorts.{Signals, EventMember, Out, Plain, Event, outs_of, needs_in, get_out, seen_for, EventStanding, signal_of, signals_at}
use Rattle.event_runs.specs.EventPorts.{event_sides, IsEventAssignment}
use Rattle.event_runs.specs.Readings.{is_event, shape_of, read_ports, plain_member, plain_component, plain_words}
use Rattle.event_runs.specs.Laws.{AreTidy, IsWired, IsShaped, IsPlainRun, StatesFit, IsReadOf, HasOneEventAssignment}
use Rattle.event_runs.specs.Events.{Signal, Occurs, Absent, Seen, word_seen, get_in}
use Rattle.event_runs.proofs.SideLaws.{seen_is, first_of, second_of, member_front, member_tidy}

-- ---- Right sides, member by member

module _ (shape : List Bool) (ports : Ports) where
  abbrev pub word_for : EventStanding → Output → Option ℤ
  word_for (one, state) output = word_at ports (record { standing = (plain_member shape one, state); instance = 0; output = output; number = 0 })

  abbrev pub words_at : EventStanding → Ports
  words_at standing = map (word_for standing) (plain_unit standing.0.member.component.unit).outputs

  abbrev pub plain_sides : List EventMember → List (List ℤ) → Ports
  plain_sides members states = flat_map words_at (zip members states)

  pub counted : (one : EventMember) (state : List ℤ) (instance from : ℕ) (outputs : List Output)
      → map (word_at ports)
      (map (λ c. record { standing = (plain_member shape one, state); instance = instance; output = c.1; number = c.0 }) (enumerate_from from outputs))
      ≡ map (word_for (one, state)) outputs
  counted one state instance from [] = refl
  counted one state instance from (output ∷ outputs) = ap (λ rest. word_for (one, state) output ∷ rest) (counted one state instance (from + 1) outputs)

  pub sides_from : (from : ℕ) (members : List EventMember) (states : List (List ℤ))
      → map (word_at ports) (flat_map outlets_of (enumerate_from from (zip (map (plain_member shape) members) states))) ≡ plain_sides members states
  sides_from from [] states = refl
  sides_from from (one ∷ members) [] = refl
  sides_from from (one ∷ members) (state ∷ states) =
      map-append (word_at ports) (outlets_of (from, (plain_member shape one, state)))
      (flat_map outlets_of (enumerate_from (from + 1) (zip (map (plain_member shape) members) states)))
      ∙ ap (λ front. front ++ map (word_at ports) (flat_map outlets_of (enumerate_from (from + 1) (zip (map (plain_member shape) members) states))))
      (counted one state from 0 (plain_unit one.member.component.unit).outputs)
      ∙ ap (λ rest. words_at (one, state) ++ rest) (sides_from (from + 1) members states)

  pub sides_are : (members : List EventMember) (run : Composition) (states : List (List ℤ)) → run.members ≡ map (plain_member shape) members
      → right_sides run states ports ≡ plain_sides members states
  sides_are members run states is = ap (λ all. map (word_at ports) (flat_map outlets_of (enumerate_from 0 (zip all states)))) is ∙ sides_from 0 members states

  pub tidy_sides : (members : List EventMember) (states : List (List ℤ)) → AllByRecursion (IsWired shape) members → StatesFit members states
      → AreTidy (flat_map shape_of members) (plain_sides members states)
  tidy_sides [] [] wired fit = tt
  tidy_sides [] (state ∷ states) wired fit = absurd fit
  tidy_sides (one ∷ members) [] wired fit = absurd fit
  tidy_sides (one ∷ members) (state ∷ states) wired fit =
      member_tidy shape ports one state wired.0 (flat_map shape_of members) (plain_sides members states) (tidy_sides members states wired.1 fit.1)

  pub read_sides : (members : List EventMember) (states : List (List ℤ)) → AreTidy shape ports → AllByRecursion (IsWired shape) members
      → StatesFit members states → read_ports (flat_map shape_of members) (plain_sides members states) ≡ event_sides members states (read_ports shape ports)
  read_sides [] [] tidy wired fit = refl
  read_sides [] (state ∷ states) tidy wired fit = absurd fit
  read_sides (one ∷ members) [] tidy wired fit = absurd fit
  read_sides (one ∷ members) (state ∷ states) tidy wired fit =
      member_front shape ports one state wired.0 tidy fit.0 (flat_map shape_of members) (plain_sides members states)
      ∙ ap (λ rest. signals_at (read_ports shape ports) (one, state) ++ rest) (read_sides members states tidy wired.1 fit.1)

-- ---- Equations depend only on signals

module _ (shape : List Bool) (ports ports' : Ports) (tidy : AreTidy shape ports) (tidy' : AreTidy shape ports')
    (same : read_ports shape ports ≡ read_ports shape ports') where
  pub word_same : (one : EventMember) (state : List ℤ) (wired : IsWired shape one) (needs : List (List ℕ)) (output : Output) → AllByRecursion IsWord needs
      → output.needs ≡ plain_needs one.member.component.unit needs → word_for shape ports (one, state) output ≡ word_for shape ports' (one, state) output
  word_same one state wired needs output words is =
      ap (λ inputs. option_and_then result_ok (option_map (λ i. get_of (plain_component one.member.component) state i output) inputs))
      (seen_is shape ports one state wired tidy needs output words is
      ∙ ap (λ signals. option_map plain_words (seen_for signals needs one)) same
      ∙ sym (seen_is shape ports' one state wired tidy' needs output words is))

  pub plains_same : (one : EventMember) (state : List ℤ) (wired : IsWired shape one) (outputs : List Output)
      → AllByRecursion (λ out. AllByRecursion IsWord (needs_in out)) (map Plain outputs)
      → map (word_for shape ports (one, state)) (map (plain_output one.member.component.unit) outputs)
      ≡ map (word_for shape ports' (one, state)) (map (plain_output one.member.component.unit) outputs)
  plains_same one state wired [] words = refl
  plains_same one state wired (output ∷ outputs) words =
      ap (λ first. first ∷ map (word_for shape ports (one, state)) (map (plain_output one.member.component.unit) outputs))
      (word_same one state wired output.needs (plain_output one.member.component.unit output) words.0 refl)
      ∙ ap (λ rest. word_for shape ports' (one, state) (plain_output one.member.component.unit output) ∷ rest) (plains_same one state wired outputs words.1)

  pub events_same : (one : EventMember) (state : List ℤ) (wired : IsWired shape one) (events : List EventOut)
      → AllByRecursion (λ out. AllByRecursion IsWord (needs_in out)) (map Event events)
      → map (word_for shape ports (one, state)) (flat_map (plain_outputs one.member.component.unit) events)
      ≡ map (word_for shape ports' (one, state)) (flat_map (plain_outputs one.member.component.unit) events)
  events_same one state wired [] words = refl
  events_same one state wired (event ∷ events) words =
      let first = first_of shape ports one state wired event in
      let second = second_of shape ports one state wired event in
      ap (λ w. w ∷ word_for shape ports (one, state) second
      ∷ map (word_for shape ports (one, state)) (flat_map (plain_outputs one.member.component.unit) events))
      (word_same one state wired event.needs first words.0 refl)
      ∙ ap (λ w. word_for shape ports' (one, state) first ∷ w
      ∷ map (word_for shape ports (one, state)) (flat_map (plain_outputs one.member.component.unit) events))
      (word_same one state wired event.needs second words.0 refl)
      ∙ ap (λ rest. word_for shape ports' (one, state) first ∷ word_for shape ports' (one, state) second ∷ rest) (events_same one state wired events words.1)

  pub member_same : (one : EventMember) (state : List ℤ) → IsWired shape one → words_at shape ports (one, state) ≡ words_at shape ports' (one, state)
  member_same one state wired =
      let unit = one.member.component.unit in
      let needs = each_part (λ out. AllByRecursion IsWord (needs_in out)) (map Plain unit.outputs) (map Event unit.events_out) wired.needs in
      map-append (word_for shape ports (one, state)) (map (plain_output unit) unit.outputs) (flat_map (plain_outputs unit) unit.events_out)
      ∙ ap (λ front. front ++ map (word_for shape ports (one, state)) (flat_map (plain_outputs unit) unit.events_out))
      (plains_same one state wired unit.outputs needs.0)
      ∙ ap (λ rest. map (word_for shape ports' (one, state)) (map (plain_output unit) unit.outputs) ++ rest)
      (events_same one state wired unit.events_out needs.1)
      ∙ sym (map-append (word_for shape ports' (one, state)) (map (plain_output unit) unit.outputs) (flat_map (plain_outputs unit) unit.events_out))

  pub sides_same : (members : List EventMember) (states : List (List ℤ)) → AllByRecursion (IsWired shape) members
      → plain_sides shape ports members states ≡ plain_sides shape ports' members states
  sides_same [] states wired = refl
  sides_same (one ∷ members) [] wired = refl
  sides_same (one ∷ members) (state ∷ states) wired =
      ap (λ front. front ++ plain_sides shape ports members states) (member_same one state wired.0)
      ∙ ap (λ rest. words_at shape ports' (one, state) ++ rest) (sides_same members states wired.1)

-- ---- Signals as ports

abbrev pub widen_one : Option Signal → Ports
widen_one None = None ∷ None ∷ []
widen_one (Some Absent) = Some (pos 0) ∷ Some (pos 0) ∷ []
widen_one (Some (Occurs word)) = Some (pos 1) ∷ Some word ∷ []

abbrev pub widen : List Bool → Signals → Ports
widen [] signals = []
widen (false ∷ shape) (signal ∷ signals) = option_map word_seen signal ∷ widen shape signals
widen (true ∷ shape) (signal ∷ signals) = widen_one signal ++ widen shape signals
widen (_ ∷ shape) [] = []

pub tidy_widened : (shape : List Bool) (signals : Signals) → IsShaped shape signals → AreTidy shape (widen shape signals)
tidy_widened [] [] shaped = tt
tidy_widened [] (signal ∷ signals) shaped = absurd shaped
tidy_widened (false ∷ shape) [] shaped = absurd shaped
tidy_widened (true ∷ shape) [] shaped = absurd shaped
tidy_widened (false ∷ shape) (None ∷ signals) shaped = tidy_widened shape signals shaped
tidy_widened (false ∷ shape) (Some Absent ∷ signals) shaped = absurd shaped
tidy_widened (false ∷ shape) (Some (Occurs word) ∷ signals) shaped = tidy_widened shape signals shaped
tidy_widened (true ∷ shape) (None ∷ signals) shaped = (tt, tidy_widened shape signals shaped)
tidy_widened (true ∷ shape) (Some Absent ∷ signals) shaped = (inr (refl, refl), tidy_widened shape signals shaped)
tidy_widened (true ∷ shape) (Some (Occurs word) ∷ signals) shaped = (inl refl, tidy_widened shape signals shaped)

pub read_widened : (shape : List Bool) (signals : Signals) → IsShaped shape signals → read_ports shape (widen shape signals) ≡ signals
read_widened [] [] shaped = refl
read_widened [] (signal ∷ signals) shaped = absurd shaped
read_widened (false ∷ shape) [] shaped = absurd shaped
read_widened (true ∷ shape) [] shaped = absurd shaped
read_widened (false ∷ shape) (None ∷ signals) shaped = ap (λ rest. None ∷ rest) (read_widened shape signals shaped)
read_widened (false ∷ shape) (Some Absent ∷ signals) shaped = absurd shaped
read_widened (false ∷ shape) (Some (Occurs word) ∷ signals) shaped = ap (λ rest. Some (Occurs word) ∷ rest) (read_widened shape signals shaped)
read_widened (true ∷ shape) (None ∷ signals) shaped = ap (λ rest. None ∷ rest) (read_widened shape signals shaped)
read_widened (true ∷ shape) (Some Absent ∷ signals) shaped = ap (λ rest. Some Absent ∷ rest) (read_widened shape signals shaped)
read_widened (true ∷ shape) (Some (Occurs word) ∷ signals) shaped = ap (λ rest. Some (Occurs word) ∷ rest) (read_widened shape signals shaped)

-- Right sides have the shape.
pub shaped_both : (shape shape' : List Bool) (signals signals' : Signals) → IsShaped shape signals → IsShaped shape' signals'
    → IsShaped (shape ++ shape') (signals ++ signals')
shaped_both [] shape' [] signals' one other = other
shaped_both [] shape' (signal ∷ signals) signals' one other = absurd one
shaped_both (false ∷ shape) shape' [] signals' one other = absurd one
shaped_both (true ∷ shape) shape' [] signals' one other = absurd one
shaped_both (false ∷ shape) shape' (None ∷ signals) signals' one other = shaped_both shape shape' signals signals' one other
shaped_both (false ∷ shape) shape' (Some Absent ∷ signals) signals' one other = absurd one
shaped_both (false ∷ shape) shape' (Some (Occurs word) ∷ signals) signals' one other = shaped_both shape shape' signals signals' one other
shaped_both (true ∷ shape) shape' (None ∷ signals) signals' one other = shaped_both shape shape' signals signals' one other
shaped_both (true ∷ shape) shape' (Some Absent ∷ signals) signals' one other = shaped_both shape shape' signals signals' one other
shaped_both (true ∷ shape) shape' (Some (Occurs word) ∷ signals) signals' one other = shaped_both shape shape' signals signals' one other

pub plain_shaped : (given : Option Outcome) (shape : List Bool) (signals : Signals) → IsShaped shape signals
    → IsShaped (false ∷ shape) (option_and_then result_ok (option_map (λ outcome. outcome >>= λ word. Ok (Occurs word)) given) ∷ signals)
plain_shaped None shape signals rest = rest
plain_shaped (Some (Ok word)) shape signals rest = rest
plain_shaped (Some (Err fault)) shape signals rest = rest

pub event_shaped : (given : Option Signal) (shape : List Bool) (signals : Signals) → IsShaped shape signals → IsShaped (true ∷ shape) (given ∷ signals)
event_shaped None shape signals rest = rest
event_shaped (Some Absent) shape signals rest = rest
event_shaped (Some (Occurs word)) shape signals rest = rest

pub out_by : (one : EventMember) (state : List ℤ) (output : Output) (seen : Option Seen)
    → option_map (λ s. get_out one.member.component state s (Plain output)) seen
    ≡ option_map (λ outcome. outcome >>= λ word. Ok (Occurs word)) (option_map (λ s. get_in one.member.component state s output) seen)
out_by one state output None = refl
out_by one state output (Some seen) = refl

module _ (signals : Signals) where
  pub outs_shaped : (one : EventMember) (state : List ℤ) (outs : List Out) → IsShaped (map is_event outs) (map (signal_of signals (one, state)) outs)
  outs_shaped one state [] = tt
  outs_shaped one state (Plain output ∷ outs) =
      subst (λ given. IsShaped (false ∷ map is_event outs) (option_and_then result_ok given ∷ map (signal_of signals (one, state)) outs))
      (sym (out_by one state output (seen_for signals output.needs one)))
      (plain_shaped (option_map (λ s. get_in one.member.component state s output) (seen_for signals output.needs one)) (map is_event outs)
      (map (signal_of signals (one, state)) outs) (outs_shaped one state outs))
  outs_shaped one state (Event event ∷ outs) =
      event_shaped (signal_of signals (one, state) (Event event)) (map is_event outs) (map (signal_of signals (one, state)) outs) (outs_shaped one state outs)

  pub sides_shaped : (members : List EventMember) (states : List (List ℤ)) → StatesFit members states
      → IsShaped (flat_map shape_of members) (event_sides members states signals)
  sides_shaped [] [] fit = tt
  sides_shaped [] (state ∷ states) fit = absurd fit
  sides_shaped (one ∷ members) [] fit = absurd fit
  sides_shaped (one ∷ members) (state ∷ states) fit =
      shaped_both (shape_of one) (flat_map shape_of members) (signals_at signals (one, state)) (event_sides members states signals)
      (outs_shaped one state (outs_of one.member.component.unit)) (sides_shaped members states fit.1)

-- ---- The laws

module _ (members : List EventMember) (run : Composition) (states : List (List ℤ)) (plain : IsPlainRun members run) (fit : StatesFit members states) where
  abbrev pub shape : List Bool
  shape = flat_map shape_of members

  pub sides : (ports : Ports) → right_sides run states ports ≡ plain_sides shape ports members states
  sides ports = sides_are shape ports members run states plain.members_are

  pub sides_tidy : (ports : Ports) → AreTidy shape (right_sides run states ports)
  sides_tidy ports = subst (AreTidy shape) (sym (sides ports)) (tidy_sides shape ports members states plain.wired fit)

  pub sides_read : (ports : Ports) → AreTidy shape ports → read_ports shape (right_sides run states ports) ≡ event_sides members states (read_ports shape ports)
  sides_read ports tidy = ap (read_ports shape) (sides ports) ∙ read_sides shape ports members states tidy plain.wired fit

  pub assignment_is_read : (ports : Ports) → IsAssignment run states ports → AreTidy shape ports × IsEventAssignment members states (read_ports shape ports)
  assignment_is_read ports is =
      let tidy = subst (AreTidy shape) (sym is) (sides_tidy ports) in
      (tidy, ap (read_ports shape) is ∙ sides_read ports tidy)

  pub event_assignment_is_read : (signals : Signals) → IsEventAssignment members states signals → IsReadOf members run states signals
  event_assignment_is_read signals is =
      let shaped = subst (IsShaped shape) (sym is) (sides_shaped signals members states fit) in
      let wide = widen shape signals in
      let tidy = tidy_widened shape signals shaped in
      let ports = right_sides run states wide in
      let read : read_ports shape ports ≡ signals = sides_read wide tidy ∙ ap (event_sides members states) (read_widened shape signals shaped) ∙ sym is in
      record {
        ports = ports;
        assignment = sides wide ∙ sides_same shape wide ports tidy (sides_tidy wide) (read_widened shape signals shaped ∙ sym read) members states plain.wired
            ∙ sym (sides ports);
        read = read;
      }

  pub one_each : (ms : List EventMember) (ss : List (List ℤ)) → StatesFit ms ss → length ss ≡ length ms
  one_each [] [] all = refl
  one_each [] (s ∷ ss) all = absurd all
  one_each (m ∷ ms) [] all = absurd all
  one_each (m ∷ ms) (s ∷ ss) all = let rest = one_each ms ss all.1 in omega arith

  pub one_event_assignment : (order : List ℕ) → IsPlaceOrder run order → HasOneEventAssignment members states
  one_event_assignment order ordered =
      let count : length states ≡ length run.members = one_each members states fit
      ∙ sym (ap length plain.members_are ∙ length-map members (plain_member shape)) in
      let only = one_assignment run order states ordered count in
      record {
        signals = read_ports shape only.ports;
        is_assignment = (assignment_is_read only.ports only.is_assignment).1;
        is_only = λ other is. let of = event_assignment_is_read other is in sym of.read ∙ ap (read_ports shape) (only.is_only of.ports of.assignment);
      }
