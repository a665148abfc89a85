-- The trace of a system as it is written.
use Rattle.std.specs.List.{flat_map, filter_map, enumerate_from}
use Rattle.std.specs.Option.{option_map, option_and_then, unwrap_or}
use Rattle.std.specs.Prelude.{ℕ, ℤ, pos, List, [], ◌∷◌, map, if◌then◌else◌, Option, Some, None, Result, ◌≡◌, zip}
use Rattle.std.specs.Result.{result_err}
use Rattle.fixed_words.specs.declared.types.Fault.{Fault}
use Rattle.super_time.specs.LocalTime.{local_step, local_time}
use Rattle.super_time.specs.declared.point.Point.{Point}
use Rattle.unit_tree.specs.Components.{Moved, initial}
use Rattle.unit_tree.specs.Negotiation.{is_held}
use Rattle.unit_tree.specs.Ports.{first_some}
use Rattle.unit_tree.specs.Successor.{Position, Next, goes, ends}
use Rattle.unit_tree.specs.declared.ending.Ending.{Ending}
use Rattle.unit_tree.specs.declared.ending.Ending.TheVariants.{UnitFault}
use Rattle.unit_tree.specs.declared.ending.Place.TheVariants as place
use Rattle.event_runs.specs.EventPorts.{Signals, EventMember, Out, outs_of, needs_in, get_out, word_from, signal_from, seen_for, EventStanding}
use Rattle.event_runs.specs.EventPorts.{IsEventAssignment}
use Rattle.event_runs.specs.Events.{Signal, Seen, max_in, step_in, Absent}
use Rattle.event_runs.specs.Offers.{Pace, Offers, next_by}

-- What is run for a source.
pub record EventRun : Type 0 where
  pub members : List EventMember
  pub pace : Pace

-- ---- Port faults: of the first output, by instance and then by declaration, that is undefined while all its needs are defined

abbrev pub event_fault_at : Signals → ℕ → EventStanding → ℕ × Out → Option Ending
event_fault_at signals instance (one, state) (number, out) =
    option_map (UnitFault instance (place.Output number))
    (option_and_then result_err (option_map (λ seen. get_out one.member.component state seen out) (seen_for signals (needs_in out) one)))

abbrev pub event_faults_at : Signals → ℕ × EventStanding → List (Option Ending)
event_faults_at signals (instance, standing) = map (event_fault_at signals instance standing) (enumerate_from 0 (outs_of standing.0.member.component.unit))

abbrev pub event_port_fault : List EventMember → List (List ℤ) → Signals → Option Ending
event_port_fault members states signals = first_some (flat_map (event_faults_at signals) (enumerate_from 0 (zip members states)))

-- ---- The results of members' calls

-- What a member reads. An undefined output counts as 0 or as absent here; such an output ends the run before this
-- matters.
abbrev pub seen_at : Signals → EventMember → Seen
seen_at signals one = record {
  words = map (λ source. unwrap_or (word_from signals source) (pos 0)) one.member.sources;
  signals = map (λ feed. unwrap_or (signal_from signals feed) Absent) one.feeds;
}

abbrev pub event_max_at : ℕ → Signals → EventStanding → Result (Option ℕ) Fault
event_max_at t signals (one, state) = max_in one.member.component state (seen_at signals one) (local_time one.member.factor t)

abbrev pub event_step_at : ℕ → ℕ → Signals → EventStanding → Option (Result Moved Fault)
event_step_at t h signals (one, state) =
    if is_held one.member.factor t h then None else Some
    (step_in one.member.component state (seen_at signals one) (local_time one.member.factor t) (local_step one.member.factor t h))

abbrev pub event_offers : List EventMember → Position → Signals → Offers
event_offers members at signals = record {
  fault = event_port_fault members at.states signals;
  limits = map (event_max_at at.point.t signals) (zip members at.states);
  steps = λ h. map (event_step_at at.point.t h signals) (zip members at.states);
}

-- ---- The trace

abbrev pub event_successor : EventRun → Position → Signals → Next
event_successor run at signals = next_by run.pace at (event_offers run.members at signals)

abbrev pub first_event_position : EventRun → Position
first_event_position run =
    record { point = record { t = 0; n = 0 }; states = map (λ one. initial one.member.component) run.members; number = 0 }

pub record EventStand : Type 0 where
  pub at : Position
  pub signals : Signals

abbrev pub IsEventStand : EventRun → EventStand → Type 0
IsEventStand run stand = IsEventAssignment run.members stand.at.states stand.signals

abbrev pub EventFollows : EventRun → EventStand → List EventStand → Ending → Type 0
EventFollows run one [] ending = event_successor run one.at one.signals ≡ ends ending
EventFollows run one (next ∷ others) ending = (event_successor run one.at one.signals ≡ goes next.at) × IsEventStand run next
    × EventFollows run next others ending

abbrev pub IsEventTrace : EventRun → List EventStand → Ending → Type 0
IsEventTrace run [] ending = ⊥
IsEventTrace run (first ∷ others) ending = (first.at ≡ first_event_position run) × IsEventStand run first × EventFollows run first others ending

-- A row: a point, and the signals of all outputs there.
pub record EventRow : Type 0 where
  pub point : Point
  pub signals : List Signal

abbrev pub event_row_unless : Option Ending → Point → Signals → Option EventRow
event_row_unless (Some fault) point signals = None
event_row_unless None point signals = Some (record { point = point; signals = filter_map (λ signal. signal) signals })

abbrev pub event_rows_of : EventRun → List EventStand → List EventRow
event_rows_of run stands =
    filter_map (λ stand. event_row_unless (event_port_fault run.members stand.at.states stand.signals) stand.at.point stand.signals) stands
