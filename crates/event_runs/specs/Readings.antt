-- How the plain form of a system, which is what is run, is read as the system: each event port of the system is two
-- plain ports there. The laws use this; no promise of the program does.
use Rattle.std.specs.List.{flat_map}
use Rattle.std.specs.Option.{option_map, unwrap_or}
use Rattle.std.specs.Ordering.{int_eq}
use Rattle.std.specs.Prelude.{ℕ, Bool, true, false, ℤ, pos, List, [], ◌∷◌, ◌++◌, map, if◌then◌else◌, Option, Some, None, ◌≡◌, zero, suc, slice_get, ⊤, ◌⊎◌}
use Rattle.unit_tree.specs.Components.{Component}
use Rattle.unit_tree.specs.Compositions.{InputSource, Start, AtPlace, Member, Composition}
use Rattle.unit_tree.specs.Negotiation.{max_at}
use Rattle.unit_tree.specs.Plain.{plain_unit}
use Rattle.unit_tree.specs.Ports.{Ports, port_fault}
use Rattle.unit_tree.specs.Successor.{Position, standings, steps_by}
use Rattle.unit_tree.specs.Trace.{Stand, Row}
use Rattle.unit_tree.specs.declared.ending.Ending.{Ending}
use Rattle.unit_tree.specs.declared.ending.Ending.TheVariants.{UnitFault}
use Rattle.unit_tree.specs.declared.ending.Place.{Place}
use Rattle.unit_tree.specs.declared.ending.Place.TheVariants as place
use Rattle.unit_tree.specs.declared.system.System.{System}
use Rattle.unit_tree.specs.declared.unit.Unit.{Unit}
use Rattle.event_runs.specs.EventPorts.{Signals, EventMember, Out, outs_of, Plain, Event}
use Rattle.event_runs.specs.EventRuns.{event_members_of}
use Rattle.event_runs.specs.EventTrace.{EventStand, EventRow}
use Rattle.event_runs.specs.Events.{Signal, Seen, Occurs, Absent}
use Rattle.event_runs.specs.Offers.{Pace, Offers}

-- ---- Components

-- The plain form of a component, and what it reads at its inputs.
abbrev pub plain_component : Component → Component
plain_component component = record component { unit = plain_unit component.unit }

-- The words of the two plain inputs that an event input becomes.
abbrev pub words_of_signal : Signal → List ℤ
words_of_signal (Occurs word) = pos 1 ∷ word ∷ []
words_of_signal Absent = pos 0 ∷ pos 0 ∷ []

abbrev pub plain_words : Seen → List ℤ
plain_words seen = seen.words ++ flat_map words_of_signal seen.signals

-- ---- Ports

abbrev pub is_event : Out → Bool
is_event (Plain output) = false
is_event (Event event) = true

-- For each output of a unit, whether it is an event output; and the same for all outputs of a member.
abbrev pub event_shape : Unit → List Bool
event_shape unit = map is_event (outs_of unit)

abbrev pub shape_of : EventMember → List Bool
shape_of one = event_shape one.member.component.unit

-- The signal that two words stand for: an event with the second word if the first is not 0.
abbrev pub signal_told : ℤ → ℤ → Signal
signal_told tells word = if int_eq tells (pos 0) then Absent else Occurs word

-- The same for two ports. Where one is undefined, so is the event output.
abbrev pub read_pair : Option ℤ → Option ℤ → Option Signal
read_pair (Some tells) (Some word) = Some (signal_told tells word)
read_pair _ _ = None

-- The ports of the plain form, read as signals.
abbrev pub read_ports : List Bool → Ports → Signals
read_ports [] ports = []
read_ports (false ∷ shape) (word ∷ ports) = option_map Occurs word ∷ read_ports shape ports
read_ports (true ∷ shape) (tells ∷ word ∷ ports) = read_pair tells word ∷ read_ports shape ports
read_ports (_ ∷ shape) _ = []

-- The place of an output in the plain form, or of the first of the two that it becomes.
abbrev pub plain_place : List Bool → ℕ → ℕ
plain_place shape zero = zero
plain_place [] (suc place) = zero
plain_place (false ∷ shape) (suc place) = suc (plain_place shape place)
plain_place (true ∷ shape) (suc place) = suc (suc (plain_place shape place))

abbrev pub plain_source : List Bool → InputSource → InputSource
plain_source shape (Start word) = Start word
plain_source shape (AtPlace place) = AtPlace (plain_place shape place)

abbrev pub plain_feed : List Bool → Option ℕ → List InputSource
plain_feed shape None = Start (pos 0) ∷ Start (pos 0) ∷ []
plain_feed shape (Some place) = AtPlace (plain_place shape place) ∷ AtPlace (suc (plain_place shape place)) ∷ []

abbrev pub plain_member : List Bool → EventMember → Member
plain_member shape one = record {
  component = plain_component one.member.component;
  factor = one.member.factor;
  sources = map (plain_source shape) one.member.sources ++ flat_map (plain_feed shape) one.feeds;
}

-- ---- Positions and endings

abbrev pub pace_of : Composition → Pace
pace_of run = record {
  stop = run.stop;
  longest = run.longest;
  zero_budget = run.zero_budget;
  row_budget = run.row_budget;
  factors =
      map (λ member. member.factor) run.members;
}

abbrev pub offers_of : Composition → Position → Ports → Offers
offers_of run at ports =
    record { fault = port_fault run at.states ports; limits = map (max_at at.point.t ports) (standings run at); steps = steps_by run at ports }

abbrev pub read_stand : List EventMember → Stand → EventStand
read_stand members stand = record { at = stand.at; signals = read_ports (flat_map shape_of members) stand.ports }

-- The number of an output in the source, from its number in the plain form, where the two of an event output count as
-- one.
abbrev pub output_read : List Bool → ℕ → ℕ
output_read [] number = number
output_read (false ∷ shape) zero = zero
output_read (false ∷ shape) (suc number) = suc (output_read shape number)
output_read (true ∷ shape) zero = zero
output_read (true ∷ shape) (suc zero) = zero
output_read (true ∷ shape) (suc (suc number)) = suc (output_read shape number)

abbrev pub shape_at : List EventMember → ℕ → List Bool
shape_at members instance = unwrap_or (option_map shape_of (slice_get members instance)) []

-- The place of a fault in the source, from its place in the plain form, by the shape of the instance's outputs.
abbrev pub read_place : List Bool → Place → Place
read_place shape (place.Output number) = place.Output (output_read shape number)
read_place shape other = other

-- An ending of the source, from that of the plain form, by the shapes of all instances.
abbrev pub read_ending_by : (ℕ → List Bool) → Ending → Ending
read_ending_by shapes (UnitFault instance where_ fault) = UnitFault instance (read_place (shapes instance) where_) fault
read_ending_by shapes ending = ending

abbrev pub read_ending : List EventMember → Ending → Ending
read_ending members = read_ending_by (shape_at members)

-- ---- Rows

-- The words of a row of the plain form, read as signals.
abbrev pub read_words : List Bool → List ℤ → List Signal
read_words (false ∷ shape) (word ∷ words) = Occurs word ∷ read_words shape words
read_words (true ∷ shape) (tells ∷ word ∷ words) = signal_told tells word ∷ read_words shape words
read_words _ _ = []

abbrev pub read_row : List EventMember → Row → EventRow
read_row members row = record { point = row.point; signals = read_words (flat_map shape_of members) row.words }

-- The words of a row of the plain form: one for each plain output, and two for each event output, which are 1 and any
-- word, or 0 and 0.
abbrev pub HasShape : List Bool → List ℤ → Type 0
HasShape [] [] = ⊤
HasShape (false ∷ shape) (word ∷ words) = HasShape shape words
HasShape (true ∷ shape) (tells ∷ word ∷ words) = ((tells ≡ pos 1) ⊎ ((tells ≡ pos 0) × (word ≡ pos 0))) × HasShape shape words
HasShape _ _ = ⊥

-- ---- Systems

-- For each output of a system, whether it is an event output.
abbrev pub system_shape : System → List Bool
system_shape system = flat_map shape_of (event_members_of system)

-- The rows and the ending of a system's plain form, read as those of the system.
abbrev pub read_rows : System → List Row → List EventRow
read_rows system rows = map (read_row (event_members_of system)) rows

abbrev pub read_end : System → Ending → Ending
read_end system ending = read_ending (event_members_of system) ending
