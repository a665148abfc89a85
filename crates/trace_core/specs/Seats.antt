-- Seats: what a run keeps of each instance in addition to its unit, and what this means.
use Rattle.std.specs.Prelude.{◌≡◌, ◌≢◌, ◌<◌, ℕ, false, ℤ, List, [], ◌∷◌, map, zip, length, get_or, if◌then◌else◌, Option, Some, None, Result}
use Rattle.std.specs.Prelude.{Ok, Err}
use Rattle.std.specs.List.{AllZip, AllByRecursion}
use Rattle.std.specs.Option.{unwrap_or}
use Rattle.fixed_words.specs.declared.types.Fault.{Fault}
use Rattle.snap_store.specs.Store.{Store, words_of}
use Rattle.super_time.specs.LocalTime.{local_time, local_step}
use Rattle.trace_core.specs.Runs.{Cell, Held, Empty, Filled}
use Rattle.trace_core.specs.Slots.{is_empty}
use Rattle.trace_core.specs.declared.seat.Seat.{Seat}
use Rattle.trace_core.specs.declared.steps.Clock.{Clock}
use Rattle.step_rule.specs.declared.steps.Slot.{Slot}
use Rattle.step_rule.specs.declared.steps.Slot.TheVariants as slot
use Rattle.step_rule.specs.Steps.{ending_or}
use Rattle.step_rule.specs.declared.steps.Step.{Step}
use Rattle.unit_tree.specs.Components.{Moved, max_of}
use Rattle.unit_tree.specs.Compositions.{Member, Composition}
use Rattle.unit_tree.specs.Negotiation.{is_held, step_at, limit_told, proposal_of}
use Rattle.unit_tree.specs.Ports.{Ports, Standing}
use Rattle.unit_tree.specs.Successor.{first_told, max_end_of}
use Rattle.unit_tree.specs.declared.ending.Ending.{Ending}
use Rattle.std.specs.List.{filter_map}

-- ---- Slots

-- What contracts see of a slot, with the state that the unit holds.
abbrev pub cell_in : Slot → List ℤ → Cell
cell_in slot.Held state = Held
cell_in slot.Empty state = Empty
cell_in (slot.Took accepted) state = Filled (Ok (record { state = state; accepted = accepted }))
cell_in (slot.Failed fault) state = Filled (Err fault)

-- What contracts see of seats, with the states that the units hold.
abbrev pub cells_in : List Seat → List (List ℤ) → List Cell
cells_in [] states = []
cells_in (seat ∷ seats) [] = cell_in seat.slot [] ∷ cells_in seats []
cells_in (seat ∷ seats) (state ∷ states) = cell_in seat.slot state ∷ cells_in seats states

-- The slot is that of the step of its member, and held where there is no step. The unit has the new state where the step was
-- made, and otherwise the committed one.
abbrev pub SlotIs : Option (Result Moved Fault) → Slot → List ℤ → List ℤ → Type 0
SlotIs step slot.Held unit committed = (step ≡ None) × (unit ≡ committed)
SlotIs None slot.Empty unit committed = ⊥
SlotIs (Some step) slot.Empty unit committed = unit ≡ committed
SlotIs step (slot.Took accepted) unit committed = step ≡ Some (Ok (record { state = unit; accepted = accepted }))
SlotIs step (slot.Failed fault) unit committed = (step ≡ Some (Err fault)) × (unit ≡ committed)

-- No slot is empty.
abbrev pub AreFull : List Seat → Type 0
AreFull seats = AllByRecursion (λ seat. is_empty seat.slot ≡ false) seats

-- ---- Clocks

-- The seat of a member whose local tick is so many ticks: it has its local time at t, and the local step of h from there.
pub record HasClock (t h factor : ℕ) (seat : Seat) : Type 0 where
  pub time : seat.time ≡ local_time factor t
  pub step : seat.step ≡ local_step factor t h

-- The seat of a member, its committed state, and the state that its unit has, in a step of h from t.
pub record IsSeat (t h : ℕ) (ports : Ports) (standing : Standing) (unit : List ℤ × Seat) : Type 0 where
  pub clock : HasClock t h standing.0.factor unit.1
  pub slot : SlotIs (step_at t h ports standing) unit.1.slot unit.0 standing.1

-- There is a seat for each member with its state, and a unit.
abbrev pub AreSeats : ℕ → ℕ → Ports → List Standing → List (List ℤ) → List Seat → Type 0
AreSeats t h ports standings units seats = AllZip (IsSeat t h ports) standings (zip units seats)

-- ---- The beginning of a step

-- The slot of a member whose local tick is so many ticks, at the beginning of a step.
abbrev pub fresh_slot : ℕ → ℕ → ℕ → Slot
fresh_slot t h factor = if is_held factor t h then slot.Held else slot.Empty

-- The clock of the members whose local tick is so many ticks, in a step of h from t.
pub record IsClock (t h factor : ℕ) (clock : Clock) : Type 0 where
  pub factor_is : clock.factor ≡ factor
  pub time_is : clock.time ≡ local_time factor t
  pub step_is : clock.step ≡ local_step factor t h

-- The seat is prepared for a step of h from t.
pub record IsBegun (t h factor : ℕ) (old new : Seat) : Type 0 where
  pub clock : HasClock t h factor new
  pub slot : new.slot ≡ fresh_slot t h factor
  pub id : new.id ≡ old.id
  pub before : new.before ≡ old.before

-- All seats are prepared for a step of h from t, each for its member.
pub record AreBegun (t h : ℕ) (members : List Member) (old new : List Seat) : Type 0 where
  pub as_many : length new ≡ length old
  pub each : AllZip (λ member pair. IsBegun t h member.factor pair.0 pair.1) members (zip old new)

-- ---- The steps of seats

-- The step of a seat, for its member.
abbrev pub seat_step : Member × Seat → Step
seat_step (member, seat) = record { factor = member.factor; asked = seat.step; slot = seat.slot }

-- The steps of all seats, each for its member.
abbrev pub seat_steps : List Member → List Seat → List Step
seat_steps members seats = map seat_step (zip members seats)

-- ---- Limits

-- The result of the `max` of a member at t, from its state and the words of its inputs.
abbrev pub max_told : ℕ → Member × (List ℤ × List ℤ) → Result (Option ℕ) Fault
max_told t (member, (state, inputs)) = max_of member.component state inputs (local_time member.factor t)

-- The result of the `max` of each member.
abbrev pub all_told : ℕ → List Member → List (List ℤ) → List (List ℤ) → List (Result (Option ℕ) Fault)
all_told t members states inputs = map (max_told t) (zip members (zip states inputs))

-- The limit that the result of a member's `max` sets at t.
abbrev pub limit_by_told : ℕ → Member × Result (Option ℕ) Fault → Option ℕ
limit_by_told t (member, told) = limit_told member.factor t told

-- The limits among these results, of the members that have one.
abbrev pub limits_told : ℕ → List Member → List (Result (Option ℕ) Fault) → List ℕ
limits_told t members told = filter_map (limit_by_told t) (zip members told)

-- The proposed step at t, or how a `max` ends the run.
abbrev pub asked : Composition → ℕ → List (Result (Option ℕ) Fault) → Result ℕ Ending
asked run t told = ending_or (first_told max_end_of told) (proposal_of run.stop run.longest t (limits_told t run.members told))

-- ---- Snapshots

-- The snapshots of seats have these states.
abbrev pub AreSaved : Store → List Seat → List (List ℤ) → Type 0
AreSaved store seats states = AllZip (λ seat state. words_of store seat.id ≡ Some state) seats states

-- The states that a store has for seats.
abbrev pub saved : Store → List Seat → List (List ℤ)
saved store seats = map (λ seat. unwrap_or (words_of store seat.id) []) seats

-- The ids of different seats differ.
abbrev pub HaveOwnIds : List Seat → Type 0
HaveOwnIds seats = (default : Seat) (one other : ℕ) → one < other → other < length seats → (get_or seats one default).id ≢ (get_or seats other default).id

-- The lists have the same lengths, one by one.
abbrev pub AreAsLong : List (List ℤ) → List (List ℤ) → Type 0
AreAsLong ones others = map length ones ≡ map length others

-- A seat after a commit: the words of its inputs at the row before are those that its unit has.
pub record IsCommitted (inputs : List ℤ) (old new : Seat) : Type 0 where
  pub before : new.before.items ≡ inputs
  pub id : new.id ≡ old.id
