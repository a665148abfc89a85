-- Port assignment of a system as it is written: which signal each output has for given states, and which outputs have
-- none.
use Rattle.std.specs.List.{flat_map}
use Rattle.std.specs.Option.{option_map, option_and_then}
use Rattle.std.specs.Prelude.{ℕ, ℤ, List, ◌++◌, map, if◌then◌else◌, Option, Some, None, Result, Ok, ◌≡◌, zip, slice_get}
use Rattle.std.specs.Result.{result_ok}
use Rattle.fixed_words.specs.declared.types.Fault.{Fault}
use Rattle.unit_tree.specs.Components.{Component, start_word}
use Rattle.unit_tree.specs.Compositions.{InputSource, Start, AtPlace, Member}
use Rattle.unit_tree.specs.Names.{is_among}
use Rattle.unit_tree.specs.Ports.{all_there}
use Rattle.unit_tree.specs.Values.{◌>>=◌}
use Rattle.unit_tree.specs.declared.unit.EventIn.{EventIn}
use Rattle.unit_tree.specs.declared.unit.EventOut.{EventOut}
use Rattle.unit_tree.specs.declared.unit.Input.{Input}
use Rattle.unit_tree.specs.declared.unit.Output.{Output}
use Rattle.unit_tree.specs.declared.unit.Unit.{Unit}
use Rattle.event_runs.specs.Events.{Signal, Seen, word_seen, get_in, get_event, Occurs, Absent}

-- At each place a signal, or nothing where the output is undefined. A plain output that is defined always has a word.
-- Places count all outputs, by instance and then by declaration, with event outputs after the plain ones.
abbrev pub Signals : Type 0
Signals = List (Option Signal)

-- A member, with the place of the event output that is connected to each of its event inputs, where one is.
pub record EventMember : Type 0 where
  pub member : Member
  pub feeds : List (Option ℕ)

-- An output of a unit as it is written.
pub data Out : Type 0 where
  Plain : Output → Out
  Event : EventOut → Out

abbrev pub outs_of : Unit → List Out
outs_of unit = map Plain unit.outputs ++ map Event unit.events_out

abbrev pub needs_in : Out → List (List ℕ)
needs_in (Plain output) = output.needs
needs_in (Event event) = event.needs

abbrev pub get_out : Component → List ℤ → Seen → Out → Result Signal Fault
get_out component state seen (Plain output) = get_in component state seen output >>= λ word. Ok (Occurs word)
get_out component state seen (Event event) = get_event component state seen event

-- ---- What an output reads

abbrev pub signal_in : Signals → ℕ → Option Signal
signal_in signals place = option_and_then (λ signal. signal) (slice_get signals place)

-- The word of a plain input by its source.
abbrev pub word_from : Signals → InputSource → Option ℤ
word_from signals (Start word) = Some word
word_from signals (AtPlace place) = option_map word_seen (signal_in signals place)

-- The signal of an event input, which is absent where none is connected.
abbrev pub signal_from : Signals → Option ℕ → Option Signal
signal_from signals None = Some Absent
signal_from signals (Some place) = signal_in signals place

-- An input that is not needed has its start word, and an event input that is not needed is absent.
abbrev pub word_needed : Signals → List (List ℕ) → Input × InputSource → Option ℤ
word_needed signals needs (input, source) =
    if is_among needs input.name then word_from signals source else Some (start_word input.ty input.start)

abbrev pub signal_needed : Signals → List (List ℕ) → EventIn × Option ℕ → Option Signal
signal_needed signals needs (event, feed) = if is_among needs event.name then signal_from signals feed else Some Absent

abbrev pub seen_both : Option (List ℤ) → Option (List Signal) → Option Seen
seen_both (Some words) (Some signals) = Some (record { words = words; signals = signals })
seen_both _ _ = None

abbrev pub seen_for : Signals → List (List ℕ) → EventMember → Option Seen
seen_for signals needs one =
    seen_both (all_there (map (word_needed signals needs) (zip one.member.component.unit.inputs one.member.sources)))
    (all_there (map (signal_needed signals needs) (zip one.member.component.unit.events_in one.feeds)))

-- ---- The equations

abbrev pub EventStanding : Type 0
EventStanding = EventMember × List ℤ

-- The signal of an output. It is undefined where an input in its needs is, and where get has a fault.
abbrev pub signal_of : Signals → EventStanding → Out → Option Signal
signal_of signals (one, state) out =
    option_and_then result_ok (option_map (λ seen. get_out one.member.component state seen out) (seen_for signals (needs_in out) one))

abbrev pub signals_at : Signals → EventStanding → List (Option Signal)
signals_at signals standing = map (signal_of signals standing) (outs_of standing.0.member.component.unit)

abbrev pub event_sides : List EventMember → List (List ℤ) → Signals → Signals
event_sides members states signals = flat_map (signals_at signals) (zip members states)

-- The port assignment of the source for the states: each output has the signal that its equation gives.
abbrev pub IsEventAssignment : List EventMember → List (List ℤ) → Signals → Type 0
IsEventAssignment members states signals = signals ≡ event_sides members states signals
