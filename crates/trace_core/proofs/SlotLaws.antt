-- The step of a full slot, the states of units after it, and the seats at the beginning of a step.
use Rattle.std.proofs.Common.{◌≡◌, ◌∙◌, ℕ, cond, Bool, true, false, ℤ, List, [], ◌∷◌, length, map, Option, Some, None, Result, refl, ap, ap₂, sym}
use Rattle.std.proofs.Common.{subst, arith}
use Rattle.std.proofs.lemmas.List.{length-map}
use Rattle.std.proofs.lemmas.Slice.Zip.{firsts-zip, length-zip, seconds-zip}
use Rattle.std.specs.Prelude.{zip, unwrap_or}
use Rattle.std.specs.List.{AllByRecursion, AllZip}
use Rattle.fixed_words.specs.declared.types.Fault.{Fault}
use Rattle.snap_store.specs.Store.{Store}
use Rattle.super_time.specs.LocalTime.{local_time, local_step}
use Rattle.trace_core.specs.Slots.{is_empty}
use Rattle.step_rule.specs.Steps.{AreAsked, ending_or, redo_result, result_slot, member_step, member_steps, trial_result}
use Rattle.step_rule.proofs.MemberLaws.{redo_by_results, trial_by_results}
use Rattle.trace_core.specs.Seats.{SlotIs, AreFull, IsSeat, AreSeats, IsBegun, AreBegun, AreSaved, saved, seat_step, seat_steps}
use Rattle.trace_core.specs.declared.seat.Seat.{Seat}
use Rattle.step_rule.specs.declared.steps.Slot.{Slot}
use Rattle.step_rule.specs.declared.steps.Slot.TheVariants as slot
use Rattle.unit_tree.specs.Components.{Moved}
use Rattle.unit_tree.specs.Components as component
use Rattle.unit_tree.specs.Compositions.{Member}
use Rattle.unit_tree.specs.Negotiation.{is_held, inputs_at, least_of, step_at, reply_at, state_after}
use Rattle.unit_tree.specs.Ports.{Ports, Standing}
use Rattle.unit_tree.specs.Successor.{first_told, step_end_of, redo_end_of}

-- ---- One slot

-- A full slot has the result of its step.
slot_is : (step : Option (Result Moved Fault)) (given : Slot) (unit committed : List ℤ) → SlotIs step given unit committed → is_empty given ≡ false
    → given ≡ result_slot step
slot_is step slot.Held unit committed is full = sym (ap result_slot is.0)
slot_is step slot.Empty unit committed is full = absurd (cc)
slot_is step (slot.Took accepted) unit committed is full = sym (ap result_slot is)
slot_is step (slot.Failed fault) unit committed is full = sym (ap result_slot is.0)

full_keeps : (step : Option (Result Moved Fault)) (given : Slot) (unit committed : List ℤ) → SlotIs step given unit committed → is_empty given ≡ false
    → state_after (committed, step) ≡ unit
full_keeps step slot.Held unit committed is full = ap (λ (made : Option (Result Moved Fault)). state_after (committed, made)) is.0 ∙ sym is.1
full_keeps step slot.Empty unit committed is full = absurd (cc)
full_keeps step (slot.Took accepted) unit committed is full = ap (λ (made : Option (Result Moved Fault)). state_after (committed, made)) is
full_keeps step (slot.Failed fault) unit committed is full = ap (λ (made : Option (Result Moved Fault)). state_after (committed, made)) is.0 ∙ sym is.1

-- ---- Slots in their order

abbrev seats_in : List (List ℤ × Seat) → List Seat
seats_in pairs = map (λ pair. pair.1) pairs

abbrev units_in : List (List ℤ × Seat) → List (List ℤ)
units_in pairs = map (λ pair. pair.0) pairs

abbrev members_in : List Standing → List Member
members_in standings = map (λ standing. standing.0) standings

abbrev states_in : List Standing → List (List ℤ)
states_in standings = map (λ standing. standing.1) standings

abbrev AreFullIn : List (List ℤ × Seat) → Type 0
AreFullIn pairs = AllByRecursion (λ seat. is_empty seat.slot ≡ false) (seats_in pairs)

module _ (t h : ℕ) (ports : Ports) where
  abbrev AreIn : List Standing → List (List ℤ × Seat) → Type 0
  AreIn standings pairs = AllZip (IsSeat t h ports) standings pairs

  abbrev results : List Standing → List (Option (Result Moved Fault))
  results standings = map (step_at t h ports) standings

  step_is : (standing : Standing) (pair : List ℤ × Seat) → IsSeat t h ports standing pair → is_empty pair.1.slot ≡ false
      → seat_step (standing.0, pair.1) ≡ member_step t h (standing.0, step_at t h ports standing)
  step_is standing pair is full =
      ap₂ (λ asked made. (record { factor = standing.0.factor; asked = asked; slot = made })) is.clock.step
      (slot_is (step_at t h ports standing) pair.1.slot pair.0 standing.1 is.slot full)

  steps_in : (standings : List Standing) (pairs : List (List ℤ × Seat)) → AreIn standings pairs → AreFullIn pairs
      → seat_steps (members_in standings) (seats_in pairs) ≡ member_steps t h (members_in standings) (results standings)
  steps_in [] [] are full = refl
  steps_in [] (pair ∷ pairs) are full = absurd are
  steps_in (standing ∷ standings) [] are full = absurd are
  steps_in (standing ∷ standings) (pair ∷ pairs) are full =
      ap₂ (λ step steps. step ∷ steps) (step_is standing pair are.0 full.0) (steps_in standings pairs are.1 full.1)

  asked_in : (standings : List Standing) (pairs : List (List ℤ × Seat)) → AreIn standings pairs
      → AreAsked t h (seat_steps (members_in standings) (seats_in pairs))
  asked_in [] [] are = tt
  asked_in [] (pair ∷ pairs) are = absurd are
  asked_in (standing ∷ standings) [] are = absurd are
  asked_in (standing ∷ standings) (pair ∷ pairs) are = (are.0.clock.step, asked_in standings pairs are.1)

  units_after : (standings : List Standing) (pairs : List (List ℤ × Seat)) → AreIn standings pairs → AreFullIn pairs
      → map state_after (zip (states_in standings) (results standings)) ≡ units_in pairs
  units_after [] [] are full = refl
  units_after [] (pair ∷ pairs) are full = absurd are
  units_after (standing ∷ standings) [] are full = absurd are
  units_after (standing ∷ standings) (pair ∷ pairs) are full =
      let first : state_after (standing.1, step_at t h ports standing) ≡ pair.0 =
      full_keeps (step_at t h ports standing) pair.1.slot pair.0 standing.1 are.0.slot full.0 in
      ap (λ state. state ∷ map state_after (zip (states_in standings) (results standings))) first
      ∙ ap (λ units. pair.0 ∷ units) (units_after standings pairs are.1 full.1)

-- ---- Seats of members

-- Members with as many states, units and seats.
pub record AreOfOneLength (members : List Member) (states units : List (List ℤ)) (seats : List Seat) : Type 0 where
  pub each_state : length states ≡ length members
  pub each_unit : length units ≡ length members
  pub each_seat : length seats ≡ length members

module _ (t h : ℕ) (ports : Ports) (members : List Member) (states units : List (List ℤ)) (seats : List Seat)
    (long : AreOfOneLength members states units seats) (are : AreSeats t h ports (zip members states) units seats) where
  members_are : members_in (zip members states) ≡ members
  members_are = firsts-zip members states long.each_state

  states_are : states_in (zip members states) ≡ states
  states_are = seconds-zip members states long.each_state

  seats_are : seats_in (zip units seats) ≡ seats
  seats_are = seconds-zip units seats (long.each_seat ∙ sym long.each_unit)

  units_are : units_in (zip units seats) ≡ units
  units_are = firsts-zip units seats (long.each_seat ∙ sym long.each_unit)

  abbrev pub results_of : List (Option (Result Moved Fault))
  results_of = map (step_at t h ports) (zip members states)

  -- The members are asked for their local steps, whether or not all slots are full.
  pub are_asked : AreAsked t h (seat_steps members seats)
  are_asked =
      subst (λ some. AreAsked t h (seat_steps some seats)) members_are
      (subst (λ some. AreAsked t h (seat_steps (members_in (zip members states)) some)) seats_are
      (asked_in t h ports (zip members states) (zip units seats) are))

  module _ (full : AreFull seats) where
    full_in : AreFullIn (zip units seats)
    full_in = subst AreFull (sym seats_are) full

    -- The steps of the seats are those of the members, by their results.
    steps_are : seat_steps members seats ≡ member_steps t h members results_of
    steps_are =
        ap₂ seat_steps (sym members_are) (sym seats_are)
        ∙ steps_in t h ports (zip members states) (zip units seats) are full_in
        ∙ ap (λ some. member_steps t h some results_of) members_are

    results_long : length results_of ≡ length members
    results_long = length-map (zip members states) (step_at t h ports) ∙ omega (arith, length-zip members states, long.each_state)

    pub trial_read : trial_result t h (seat_steps members seats)
        ≡ ending_or (first_told step_end_of results_of) (least_of h (map (reply_at t h) (zip members results_of)))
    trial_read = ap (trial_result t h) steps_are ∙ trial_by_results t h members results_of results_long

    pub redo_read : redo_result (seat_steps members seats) ≡ first_told (redo_end_of t h) (zip members results_of)
    redo_read = ap redo_result steps_are ∙ redo_by_results t h members results_of

    pub units_hold : map state_after (zip states results_of) ≡ units
    units_hold =
        ap (λ some. map state_after (zip some results_of)) (sym states_are)
        ∙ units_after t h ports (zip members states) (zip units seats) are full_in
        ∙ units_are

-- ---- The beginning of a step

fresh_by : (held : Bool) (step : Result Moved Fault) (state : List ℤ) → SlotIs (cond held None (Some step)) (cond held slot.Held slot.Empty) state state
fresh_by true step state = (refl, refl)
fresh_by false step state = refl

begun_in : (t h : ℕ) (ports : Ports) (members : List Member) (states : List (List ℤ)) (pairs : List (Seat × Seat)) → length states ≡ length members
    → AllZip (λ member pair. IsBegun t h member.factor pair.0 pair.1) members pairs
    → AreSeats t h ports (zip members states) states (map (λ pair. pair.1) pairs)
begun_in t h ports [] [] [] long begun = tt
begun_in t h ports [] (state ∷ states) pairs long begun = absurd (omega (arith, long))
begun_in t h ports (member ∷ members) [] pairs long begun = absurd (omega (arith, long))
begun_in t h ports [] [] (pair ∷ pairs) long begun = absurd begun
begun_in t h ports (member ∷ members) (state ∷ states) [] long begun = absurd begun
begun_in t h ports (member ∷ members) (state ∷ states) (pair ∷ pairs) long begun = (
  record {
    clock = begun.0.clock;
    slot =
        subst (λ made. SlotIs (step_at t h ports (member, state)) made state state) (sym begun.0.slot)
        (fresh_by (is_held member.factor t h)
        (component.step_of member.component state (inputs_at ports member) (local_time member.factor t) (local_step member.factor t h)) state);
  },
  begun_in t h ports members states pairs (omega (arith, long)) begun.1,
)

-- Where units have the committed states, prepared seats are those of the step.
pub seats_begun : (t h : ℕ) (ports : Ports) (members : List Member) (states units : List (List ℤ)) (old new : List Seat) → length states ≡ length members
    → units ≡ states → AreBegun t h members old new → AreSeats t h ports (zip members states) units new
seats_begun t h ports members states units old new long same begun =
    subst (λ held. AreSeats t h ports (zip members states) held new) (sym same)
    (subst (AreSeats t h ports (zip members states) states) (seconds-zip old new begun.as_many)
    (begun_in t h ports members states (zip old new) long begun.each))

-- ---- Snapshots

pub saved_is : (store : Store) (seats : List Seat) (states : List (List ℤ)) → AreSaved store seats states → saved store seats ≡ states
saved_is store [] [] are = refl
saved_is store [] (state ∷ states) are = absurd are
saved_is store (seat ∷ seats) [] are = absurd are
saved_is store (seat ∷ seats) (state ∷ states) are =
    ap (λ found. unwrap_or found [] ∷ saved store seats) are.0 ∙ ap (λ others. state ∷ others) (saved_is store seats states are.1)
