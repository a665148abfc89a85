-- What a run says of an instance between two settlings: its slot, and its limit.
use Rattle.std.proofs.Common.{◌≡◌, ◌∙◌, ℕ, ◌<◌, ◌≤◌, ◌+◌, ◌^◌, ℤ, false, List, [], length, get_or, Option, Some, None, Result}
use Rattle.std.proofs.Common.{refl, ap, sym, subst, arith}
use Rattle.std.proofs.lemmas.Option.{same_Some, slice_get-map, slice_get_within}
use Rattle.std.specs.Prelude.{slice_get}
use Rattle.std.specs.Option.{option_map}
use Rattle.fixed_words.specs.declared.types.Fault.{Fault}
use Rattle.list_laws.proofs.Pairs.{zip_there}
use Rattle.super_time.proofs.LimitLaws.{local_end}
use Rattle.super_time.specs.LocalTime.{local_time}
use Rattle.trace_core.specs.Keeping.{cells_seen, run_state, stand_of, IsRun}
use Rattle.trace_core.specs.Runs.{Cell, is_ended, is_filled, step_length}
use Rattle.trace_core.specs.Seats.{SlotIs, cell_in}
use Rattle.trace_core.specs.Slots.{slot_seen}
use Rattle.trace_core.specs.declared.phase.Phase.{Phase}
use Rattle.trace_core.specs.declared.phase.Phase.TheVariants.{Trial, Redo, Ended}
use Rattle.trace_core.specs.declared.run.Run.TheInside.{Inside}
use Rattle.trace_core.specs.declared.seat.Seat.{Seat}
use Rattle.step_rule.specs.declared.steps.Slot.{Slot}
use Rattle.step_rule.specs.declared.steps.Slot.TheVariants as slot
use Rattle.trace_core.proofs.FillLaws.{SeatAt, seat_at}
use Rattle.trace_core.proofs.KeepLaws.{fit_as}
use Rattle.trace_core.proofs.SeatLaws.{cell_there, cells_long}
use Rattle.trace_core.proofs.SlotLaws.{AreOfOneLength}
use Rattle.trace_units.specs.Fleets.{ForUnit}
use Rattle.unit_tree.specs.Components.{Moved, max_of}
use Rattle.unit_tree.specs.Compositions.{Composition}
use Rattle.unit_tree.specs.Negotiation.{all_inputs, inputs_at, limit_at, limit_told, step_at}
use Rattle.unit_tree.specs.Successor.{standings}

-- ---- Which cells there are

cells_by : (phase : Phase) (seats : List Seat) (states : List (List ℤ)) (instance : ℕ) → instance < length (cells_seen phase seats states)
    → (instance < length seats) × (is_ended phase ≡ false)
cells_by (Trial h) seats states instance within = (subst (λ count. instance < count) (cells_long seats states) within, refl)
cells_by (Redo h) seats states instance within = (subst (λ count. instance < count) (cells_long seats states) within, refl)
cells_by (Ended ending) seats states instance within = absurd (omega (arith, within))

-- There is a seat for each cell, and a phase with cells isn't the end.
pub seated : (r : Inside) (instance : ℕ) → instance < length (run_state r).cells → (instance < length r.seats.items) × (is_ended r.phase ≡ false)
seated r instance within = cells_by r.phase r.seats.items r.units.states instance within

cell_by : (phase : Phase) (seats : List Seat) (states : List (List ℤ)) (instance : ℕ) (seat : Seat) → is_ended phase ≡ false
    → slice_get seats instance ≡ Some seat → slice_get (cells_seen phase seats states) instance ≡ Some (cell_in seat.slot (get_or states instance []))
cell_by (Trial h) seats states instance seat going is = cell_there seats states instance seat is
cell_by (Redo h) seats states instance seat going is = cell_there seats states instance seat is
cell_by (Ended ending) seats states instance seat going is = absurd (cc)

seen_of : (made : Slot) (state : List ℤ) → slot_seen (cell_in made state) ≡ made
seen_of slot.Held state = refl
seen_of slot.Empty state = refl
seen_of (slot.Took accepted) state = refl
seen_of (slot.Failed fault) state = refl

-- The slot of a seat is that of its cell.
pub slot_is_seen : (r : Inside) (instance : ℕ) (seat : Seat) → is_ended r.phase ≡ false → slice_get r.seats.items instance ≡ Some seat
    → option_map slot_seen (slice_get (run_state r).cells instance) ≡ Some seat.slot
slot_is_seen r instance seat going is =
    ap (option_map slot_seen) (cell_by r.phase r.seats.items r.units.states instance seat going is)
    ∙ ap Some (seen_of seat.slot (get_or r.units.states instance []))

-- ---- The limit of an instance

within_by : (cells : List Cell) (instance : ℕ) (found : Option Cell) → slice_get cells instance ≡ found → option_map is_filled found ≡ Some false
    → instance < length cells
within_by cells instance None is unmade = absurd (cc)
within_by cells instance (Some cell) is unmade = slice_get_within cells instance cell is

pub unmade_within : (cells : List Cell) (instance : ℕ) → option_map is_filled (slice_get cells instance) ≡ Some false → instance < length cells
unmade_within cells instance unmade = within_by cells instance (slice_get cells instance) refl unmade

-- A unit whose step was not made has the committed state.
kept_by : (step : Option (Result Moved Fault)) (made : Slot) (unit committed state : List ℤ) → SlotIs step made unit committed
    → is_filled (cell_in made state) ≡ false → unit ≡ committed
kept_by step slot.Held unit committed state is unmade = is.1
kept_by None slot.Empty unit committed state is unmade = absurd is
kept_by (Some step) slot.Empty unit committed state is unmade = is
kept_by step (slot.Took accepted) unit committed state is unmade = absurd (cc)
kept_by step (slot.Failed fault) unit committed state is unmade = absurd (cc)

module _ (r : Inside) (is : IsRun r) (instance : ℕ) (seat : Seat)
    (long : AreOfOneLength r.plan.value.run.members (stand_of r).at.states r.units.states r.seats.items) (going : is_ended r.phase ≡ false)
    (seat_is : slice_get r.seats.items instance ≡ Some seat) where
  abbrev run : Composition
  run = r.plan.value.run

  seat_by : (phase : Phase) → r.phase ≡ phase → is_ended phase ≡ false
      → SeatAt r.point.t (step_length phase) (stand_of r).ports run.members (stand_of r).at.states r.units.states seat instance
  seat_by (Trial h) same on =
      seat_at r.point.t h (stand_of r).ports run.members (stand_of r).at.states r.units.states r.seats.items seat instance long (fit_as r is (Trial h) same)
      seat_is
  seat_by (Redo h) same on =
      seat_at r.point.t h (stand_of r).ports run.members (stand_of r).at.states r.units.states r.seats.items seat instance long (fit_as r is (Redo h) same)
      seat_is
  seat_by (Ended ending) same on = absurd (cc)

  pub asked_seat : SeatAt r.point.t (step_length r.phase) (stand_of r).ports run.members (stand_of r).at.states r.units.states seat instance
  asked_seat = seat_by r.phase refl going

  -- The local time of the seat is within the range of times.
  pub asked_in_time : r.point.t + step_length r.phase ≤ 10 ^ 15 → seat.time ≤ 10 ^ 15
  asked_in_time in_time =
      let ends = local_end asked_seat.member.factor r.point.t (step_length r.phase) in
      omega (arith, in_time, ends, asked_seat.fits.clock.time)

  module _ (unmade : option_map is_filled (slice_get (run_state r).cells instance) ≡ Some false) (fed : r.units.inputs ≡ all_inputs run (stand_of r).ports) where
    held : List ℤ
    held = get_or r.units.states instance []

    unfilled : is_filled (cell_in seat.slot (get_or r.units.states instance [])) ≡ false
    unfilled =
        same_Some (is_filled (cell_in seat.slot (get_or r.units.states instance []))) false
        (sym (ap (option_map is_filled) (cell_by r.phase r.seats.items r.units.states instance seat going seat_is)) ∙ unmade)

    unit_is_state : asked_seat.unit ≡ asked_seat.state
    unit_is_state =
        kept_by (step_at r.point.t (step_length r.phase) (stand_of r).ports (asked_seat.member, asked_seat.state)) seat.slot asked_seat.unit asked_seat.state
        (get_or r.units.states instance []) asked_seat.fits.slot unfilled

    inputs_are : slice_get r.units.inputs instance ≡ Some (inputs_at (stand_of r).ports asked_seat.member)
    inputs_are =
        ap (λ all. slice_get all instance) fed ∙ slice_get-map (inputs_at (stand_of r).ports) run.members instance
        ∙ ap (option_map (inputs_at (stand_of r).ports)) asked_seat.member_is

    -- The limit is that of the member at the stand.
    pub limit_given : (told : Result (Option ℕ) Fault) → r.units.plan.run ≡ run
        → ForUnit r.units instance (λ member state inputs. max_of member.component state inputs seat.time ≡ told)
        → option_map (limit_at r.point.t (stand_of r).ports) (slice_get (standings run (stand_of r).at) instance)
        ≡ Some (limit_told asked_seat.member.factor r.point.t told)
    limit_given told tied gives =
        let ports = (stand_of r).ports in
        let member = asked_seat.member in
        let given =
        gives member asked_seat.unit (inputs_at ports member)
        (subst (λ (one : Composition). slice_get one.members instance ≡ Some member) (sym tied) asked_seat.member_is) asked_seat.unit_is inputs_are in
        let is_told : max_of member.component asked_seat.state (inputs_at ports member) (local_time member.factor r.point.t) ≡ told =
        ap (λ state. max_of member.component state (inputs_at ports member) (local_time member.factor r.point.t)) (sym unit_is_state)
        ∙ ap (max_of member.component asked_seat.unit (inputs_at ports member)) (sym asked_seat.fits.clock.time) ∙ given in
        ap (option_map (limit_at r.point.t ports))
        (zip_there run.members (stand_of r).at.states instance member asked_seat.state asked_seat.member_is asked_seat.state_is)
        ∙ ap (λ one. Some (limit_told member.factor r.point.t one)) is_told
