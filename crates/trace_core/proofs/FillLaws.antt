-- The seat of one instance: its required step, and the run after this step was made.
use Rattle.std.proofs.Common.{◌≡◌, ◌∙◌, ℕ, zero, suc, ◌+◌, ◌<◌, Bool, true, false, cond, ℤ, List, [], ◌∷◌, map, zip, length, get_or, set, Some, None}
use Rattle.std.proofs.Common.{Result, Ok, Err, Vec, Global, refl, sym, ap, subst, arith, length-set}
use Rattle.std.proofs.lemmas.Option.{slice_get_within, get_or_from_slice_get, slice_get-map, same_Some, none-some}
use Rattle.std.proofs.Math.Seq.{map-set_same}
use Rattle.std.specs.Prelude.{is_none, slice_get, slice_set, slice_index_or}
use Rattle.std.specs.Option.{option_map, option_and_then}
use Rattle.fixed_words.specs.declared.types.Fault.{Fault}
use Rattle.super_time.specs.LocalTime.{local_time, local_step}
use Rattle.trace_core.specs.Keeping.{stand_of, cells_seen, inputs_before, run_state, SeatsFit, IsRun}
use Rattle.trace_core.specs.Runs.{Cell, Empty, Filled, RunState, Stands, IsWanted, IsComputed, is_ended, with_found, step_in, step_length}
use Rattle.trace_core.specs.Seats.{IsSeat, AreSeats, SlotIs, cell_in, cells_in, saved, AreSaved}
use Rattle.trace_core.specs.Slots.{slot_for, is_empty}
use Rattle.trace_core.specs.declared.phase.Phase.{Phase}
use Rattle.trace_core.specs.declared.phase.Phase.TheVariants.{Trial, Redo, Ended}
use Rattle.trace_core.specs.declared.run.Run.TheInside.{Inside}
use Rattle.trace_core.specs.declared.seat.Seat.{Seat}
use Rattle.step_rule.specs.declared.steps.Slot.{Slot}
use Rattle.step_rule.specs.declared.steps.Slot.TheVariants as slot
use Rattle.trace_core.proofs.KeepLaws.{fit_as}
use Rattle.trace_core.proofs.SeatLaws.{ids_of, own_kept, saved_kept, are_saved_kept, cells_long, cell_there, cells_set}
use Rattle.trace_core.proofs.SlotLaws.{AreOfOneLength}
use Rattle.trace_core.proofs.StandLaws.{filled, stands_filled}
use Rattle.trace_plan.specs.Plans.{Planned}
use Rattle.trace_units.specs.Fleets.{Fleet, ForUnit, Steps}
use Rattle.unit_tree.specs.Components.{Moved, step_of}
use Rattle.unit_tree.specs.Compositions.{Member, Composition}
use Rattle.unit_tree.specs.Negotiation.{is_held, inputs_at, all_inputs, step_at}
use Rattle.unit_tree.specs.Ports.{Ports, port_fault}
use Rattle.unit_tree.specs.Successor.{standings}
use Rattle.unit_tree.specs.Trace.{Stand}
use Rattle.unit_tree.specs.declared.ending.Ending.{Ending}
use Rattle.list_laws.proofs.Members.{at_place, set_same}
use Rattle.list_laws.proofs.Pairs.{zip_there}

-- ---- One seat among those of a phase

-- The seat of an instance, with its member, its state and the state of its unit.
pub record SeatAt (t h : ℕ) (ports : Ports) (members : List Member) (states units : List (List ℤ)) (seat : Seat) (instance : ℕ) : Type 0 where
  pub member : Member
  pub state : List ℤ
  pub unit : List ℤ
  pub member_is : slice_get members instance ≡ Some member
  pub state_is : slice_get states instance ≡ Some state
  pub unit_is : slice_get units instance ≡ Some unit
  pub fits : IsSeat t h ports (member, state) (unit, seat)

-- Lengths of four lists after their first elements.
abbrev later : (members : List Member) (states units : List (List ℤ)) (seats : List Seat) (member : Member) (state unit : List ℤ) (seat : Seat)
    → AreOfOneLength (member ∷ members) (state ∷ states) (unit ∷ units) (seat ∷ seats) → AreOfOneLength members states units seats
later members states units seats member state unit seat long =
    record { each_state = omega (arith, long.each_state); each_unit = omega (arith, long.each_unit); each_seat = omega (arith, long.each_seat) }

pub seat_at : (t h : ℕ) (ports : Ports) (members : List Member) (states units : List (List ℤ)) (seats : List Seat) (seat : Seat) (instance : ℕ)
    → AreOfOneLength members states units seats → AreSeats t h ports (zip members states) units seats → slice_get seats instance ≡ Some seat
    → SeatAt t h ports members states units seat instance
seat_at t h ports members states units [] seat instance long are is = absurd (cc)
seat_at t h ports [] states units (first ∷ seats) seat instance long are is = absurd (omega (arith, long.each_seat))
seat_at t h ports (member ∷ members) [] units (first ∷ seats) seat instance long are is = absurd (omega (arith, long.each_state))
seat_at t h ports (member ∷ members) (state ∷ states) [] (first ∷ seats) seat instance long are is = absurd (omega (arith, long.each_unit))
seat_at t h ports (member ∷ members) (state ∷ states) (unit ∷ units) (first ∷ seats) seat zero long are is = record {
  member = member;
  state = state;
  unit = unit;
  member_is = refl;
  state_is = refl;
  unit_is = refl;
  fits = subst (λ one. IsSeat t h ports (member, state) (unit, one)) (same_Some first seat is) are.0;
}
seat_at t h ports (member ∷ members) (state ∷ states) (unit ∷ units) (first ∷ seats) seat (suc instance) long are is =
    let behind = seat_at t h ports members states units seats seat instance (later members states units seats member state unit first long) are.1 is in
    record {
      member = behind.member;
      state = behind.state;
      unit = behind.unit;
      member_is = behind.member_is;
      state_is = behind.state_is;
      unit_is =
          behind.unit_is;
      fits = behind.fits;
    }

-- The state of one unit and its seat change.
pub seats_set : (t h : ℕ) (ports : Ports) (members : List Member) (states units : List (List ℤ)) (seats : List Seat) (unit : List ℤ) (new : Seat) (instance : ℕ)
    → AreOfOneLength members states units seats → AreSeats t h ports (zip members states) units seats
    → ((member : Member) (state : List ℤ) → slice_get members instance ≡ Some member → slice_get states instance ≡ Some state
    → IsSeat t h ports (member, state) (unit, new))
    → AreSeats t h ports (zip members states) (set units instance unit) (set seats instance new)
seats_set t h ports [] [] [] [] unit new instance long are fits = tt
seats_set t h ports [] states units (first ∷ seats) unit new instance long are fits = absurd (omega (arith, long.each_seat))
seats_set t h ports [] states (held ∷ units) [] unit new instance long are fits = absurd (omega (arith, long.each_unit))
seats_set t h ports [] (state ∷ states) [] [] unit new instance long are fits = absurd (omega (arith, long.each_state))
seats_set t h ports (member ∷ members) states units [] unit new instance long are fits = absurd (omega (arith, long.each_seat))
seats_set t h ports (member ∷ members) [] units (first ∷ seats) unit new instance long are fits = absurd (omega (arith, long.each_state))
seats_set t h ports (member ∷ members) (state ∷ states) [] (first ∷ seats) unit new instance long are fits = absurd (omega (arith, long.each_unit))
seats_set t h ports (member ∷ members) (state ∷ states) (held ∷ units) (first ∷ seats) unit new zero long are fits = (fits member state refl refl, are.1)
seats_set t h ports (member ∷ members) (state ∷ states) (held ∷ units) (first ∷ seats) unit new (suc instance) long are fits =
    (are.0, seats_set t h ports members states units seats unit new instance (later members states units seats member state held first long) are.1 fits)

-- ---- A step that was made

-- By whether the member is held, and by the result of its step.
took_by : (held : Bool) (outcome : Result Moved Fault) (unit state now : List ℤ) (accepted : ℕ) → SlotIs (cond held None (Some outcome)) slot.Empty unit state
    → outcome ≡ Ok (record { state = now; accepted = accepted }) → SlotIs (cond held None (Some outcome)) (slot.Took accepted) now state
took_by true outcome unit state now accepted empty is = absurd empty
took_by false outcome unit state now accepted empty is = ap Some is

failed_by : (held : Bool) (outcome : Result Moved Fault) (unit state : List ℤ) (fault : Fault) → SlotIs (cond held None (Some outcome)) slot.Empty unit state
    → outcome ≡ Err fault → SlotIs (cond held None (Some outcome)) (slot.Failed fault) unit state
failed_by true outcome unit state fault empty is = absurd empty
failed_by false outcome unit state fault empty is = (ap Some is, empty)

held_by : (held : Bool) (outcome : Result Moved Fault) (unit state : List ℤ) → SlotIs (cond held None (Some outcome)) slot.Empty unit state → unit ≡ state
held_by true outcome unit state empty = absurd empty
held_by false outcome unit state empty = empty

given_by : (held : Bool) (outcome result : Result Moved Fault) (unit state : List ℤ) → SlotIs (cond held None (Some outcome)) slot.Empty unit state
    → outcome ≡ result
    → cond held None (Some outcome) ≡ Some result
given_by true outcome result unit state empty is = absurd empty
given_by false outcome result unit state empty is = ap Some is

-- The result of a step: the length that it accepted and the state that its unit has then, or its fault.
abbrev pub step_made : Result ℕ Fault → List ℤ → Result Moved Fault
step_made (Ok accepted) state = Ok (record { state = state; accepted = accepted })
step_made (Err fault) state = Err fault

-- ---- The step of one instance

module _ (t h : ℕ) (run : Composition) (ports : Ports) (states : List (List ℤ)) (fleet : Fleet) (seats : List Seat) (seat : Seat) (instance : ℕ)
    (long : AreOfOneLength run.members states fleet.states seats) (are : AreSeats t h ports (zip run.members states) fleet.states seats)
    (seat_is : slice_get seats instance ≡ Some seat) (empty : seat.slot ≡ slot.Empty) (tied : fleet.plan.run ≡ run)
    (fed : fleet.inputs ≡ all_inputs run ports) where
  here : SeatAt t h ports run.members states fleet.states seat instance
  here = seat_at t h ports run.members states fleet.states seats seat instance long are seat_is

  abbrev outcome : Member → List ℤ → Result Moved Fault
  outcome member state = step_of member.component state (inputs_at ports member) (local_time member.factor t) (local_step member.factor t h)

  slot_empty : SlotIs (step_at t h ports (here.member, here.state)) slot.Empty here.unit here.state
  slot_empty = subst (λ made. SlotIs (step_at t h ports (here.member, here.state)) made here.unit here.state) empty here.fits.slot

  unit_is_state : here.unit ≡ here.state
  unit_is_state = held_by (is_held here.member.factor t h) (outcome here.member here.state) here.unit here.state slot_empty

  inputs_are : slice_get fleet.inputs instance ≡ Some (inputs_at ports here.member)
  inputs_are =
      ap (λ all. slice_get all instance) fed ∙ slice_get-map (inputs_at ports) run.members instance ∙ ap (option_map (inputs_at ports)) here.member_is

  -- What is known of the unit's step is known of the member's.
  of_member : (result : Result Moved Fault)
      → ForUnit fleet instance (λ member state inputs. step_of member.component state inputs seat.time seat.step ≡ result)
      → outcome here.member here.state ≡ result
  of_member result for_unit =
      let given =
      for_unit here.member here.unit (inputs_at ports here.member)
      (subst (λ one. slice_get one.members instance ≡ Some here.member) (sym tied) here.member_is) here.unit_is inputs_are in
      ap (λ state. step_of here.member.component state (inputs_at ports here.member) (local_time here.member.factor t) (local_step here.member.factor t h))
      (sym unit_is_state)
      ∙ ap (λ time. step_of here.member.component here.unit (inputs_at ports here.member) time (local_step here.member.factor t h)) (sym here.fits.clock.time)
      ∙ ap (λ step. step_of here.member.component here.unit (inputs_at ports here.member) seat.time step) (sym here.fits.clock.step)
      ∙ given

  given_here : (made : Result ℕ Fault) (new : Fleet) → Steps fleet instance seat.time seat.step made new
      → step_at t h ports (here.member, here.state) ≡ Some (step_made made (slice_index_or new.states instance []))
  given_here (Ok accepted) new steps =
      let gave = of_member (Ok (record { state = slice_index_or new.states instance []; accepted = accepted })) steps.0 in
      given_by (is_held here.member.factor t h) (outcome here.member here.state) _ here.unit here.state slot_empty gave
  given_here (Err fault) new steps =
      given_by (is_held here.member.factor t h) (outcome here.member here.state) (Err fault) here.unit here.state slot_empty (of_member (Err fault) steps.0)

  -- The result of the instance's step.
  pub step_given : (made : Result ℕ Fault) (new : Fleet) → Steps fleet instance seat.time seat.step made new
      → option_and_then (step_at t h ports) (slice_get (zip run.members states) instance) ≡ Some (step_made made (slice_index_or new.states instance []))
  step_given made new steps =
      ap (option_and_then (step_at t h ports)) (zip_there run.members states instance here.member here.state here.member_is here.state_is)
      ∙ given_here made new steps

  abbrev made_seat : Result ℕ Fault → Seat
  made_seat made = record seat { slot = slot_for made }

  same_here : (member : Member) (state : List ℤ) → slice_get run.members instance ≡ Some member → slice_get states instance ≡ Some state
      → (here.member ≡ member) × (here.state ≡ state)
  same_here member state member_is state_is =
      (same_Some here.member member (sym here.member_is ∙ member_is), same_Some here.state state (sym here.state_is ∙ state_is))

  pub seats_stepped : (made : Result ℕ Fault) (new : Fleet) → Steps fleet instance seat.time seat.step made new
      → AreSeats t h ports (zip run.members states) new.states (set seats instance (made_seat made))
  seats_stepped (Ok accepted) new steps =
      let now = slice_index_or new.states instance [] in
      let gave = of_member (Ok (record { state = now; accepted = accepted })) steps.0 in
      subst (λ (one : Fleet). AreSeats t h ports (zip run.members states) one.states (set seats instance (made_seat (Ok accepted)))) (sym steps.1)
      (seats_set t h ports run.members states fleet.states seats now (made_seat (Ok accepted)) instance long are (λ member state member_is state_is.
      let same = same_here member state member_is state_is in
      subst (λ one. IsSeat t h ports one (now, made_seat (Ok accepted))) (ap (λ m. (m, here.state)) same.0 ∙ ap (λ s. (member, s)) same.1)
      (record {
        clock = record { time = here.fits.clock.time; step = here.fits.clock.step };
        slot = took_by (is_held here.member.factor t h) (outcome here.member here.state) here.unit here.state now accepted slot_empty gave;
      })))
  seats_stepped (Err fault) new steps =
      let gave = of_member (Err fault) steps.0 in
      subst (λ (one : Fleet). AreSeats t h ports (zip run.members states) one.states (set seats instance (made_seat (Err fault)))) (sym steps.1)
      (subst (λ units. AreSeats t h ports (zip run.members states) units (set seats instance (made_seat (Err fault))))
      (set_same fleet.states instance here.unit here.unit_is)
      (seats_set t h ports run.members states fleet.states seats here.unit (made_seat (Err fault)) instance long are (λ member state member_is state_is.
      let same = same_here member state member_is state_is in
      subst (λ one. IsSeat t h ports one (here.unit, made_seat (Err fault))) (ap (λ m. (m, here.state)) same.0 ∙ ap (λ s. (member, s)) same.1)
      (record {
        clock = record { time = here.fits.clock.time; step = here.fits.clock.step };
        slot = failed_by (is_held here.member.factor t h) (outcome here.member here.state) here.unit here.state fault slot_empty gave;
      }))))

-- ---- A run with the step

step_keeps : (old new : Fleet) (instance time step : ℕ) (made : Result ℕ Fault) → Steps old instance time step made new
    → (new.plan ≡ old.plan) × (new.inputs ≡ old.inputs)
step_keeps old new instance time step (Ok accepted) steps = (ap (λ (f : Fleet). f.plan) steps.1, ap (λ (f : Fleet). f.inputs) steps.1)
step_keeps old new instance time step (Err fault) steps = (ap (λ (f : Fleet). f.plan) steps.1, ap (λ (f : Fleet). f.inputs) steps.1)

abbrev pub stepped : Inside → Fleet → Vec Seat Global → ℕ → ℕ → Inside
stepped r units seats found own = record r { units = units; seats = seats; found = found; own = own }

-- ---- Which steps are required

empty_there : (seats : List Seat) (states : List (List ℤ)) (seat : Seat) (instance : ℕ) → slice_get seats instance ≡ Some seat → seat.slot ≡ slot.Empty
    → slice_get (cells_in seats states) instance ≡ Some Empty
empty_there seats states seat instance is empty = cell_there seats states instance seat is ∙ ap (λ made. Some (cell_in made (get_or states instance []))) empty

wanted_by : (phase : Phase) (seats : List Seat) (states : List (List ℤ)) (seat : Seat) (instance : ℕ) → is_ended phase ≡ false
    → slice_get seats instance ≡ Some seat → seat.slot ≡ slot.Empty
    → slice_get (cells_seen phase seats states) instance ≡ Some Empty
wanted_by (Trial h) seats states seat instance going is empty = empty_there seats states seat instance is empty
wanted_by (Redo h) seats states seat instance going is empty = empty_there seats states seat instance is empty
wanted_by (Ended ending) seats states seat instance going is empty = absurd (cc)

pub seat_is_wanted : (r : Inside) (seat : Seat) (instance : ℕ) → is_ended r.phase ≡ false → slice_get r.seats.items instance ≡ Some seat
    → seat.slot ≡ slot.Empty → IsWanted (run_state r) instance
seat_is_wanted r seat instance going is empty = wanted_by r.phase r.seats.items r.units.states seat instance going is empty

pub not_ended : (phase : Phase) → ((ending : Ending) → phase ≡ Ended ending → ⊥) → is_ended phase ≡ false
not_ended (Trial h) none = refl
not_ended (Redo h) none = refl
not_ended (Ended ending) none = absurd (none ending refl)

seats_by : (phase : Phase) (seats : List Seat) (states : List (List ℤ)) (instance : ℕ) → slice_get (cells_seen phase seats states) instance ≡ Some Empty
    → instance < length seats
seats_by (Trial h) seats states instance there =
    subst (λ count. instance < count) (cells_long seats states) (slice_get_within (cells_in seats states) instance Empty there)
seats_by (Redo h) seats states instance there =
    subst (λ count. instance < count) (cells_long seats states) (slice_get_within (cells_in seats states) instance Empty there)
seats_by (Ended ending) seats states instance there = absurd (cc)

pub wanted_seat : (r : Inside) (instance : ℕ) → IsWanted (run_state r) instance → instance < length r.seats.items
wanted_seat r instance wanted = seats_by r.phase r.seats.items r.units.states instance wanted

empty_of : (made : Slot) (state : List ℤ) → cell_in made state ≡ Empty → is_empty made ≡ true
empty_of slot.Held state is = absurd (cc)
empty_of slot.Empty state is = refl
empty_of (slot.Took accepted) state is = absurd (cc)
empty_of (slot.Failed fault) state is = absurd (cc)

empty_is : (made : Slot) → is_empty made ≡ true → made ≡ slot.Empty
empty_is slot.Held is = absurd (cc)
empty_is slot.Empty is = refl
empty_is (slot.Took accepted) is = absurd (cc)
empty_is (slot.Failed fault) is = absurd (cc)

empty_seen : (phase : Phase) (seats : List Seat) (states : List (List ℤ)) (instance : ℕ) (seat : Seat) → slice_get seats instance ≡ Some seat
    → slice_get (cells_seen phase seats states) instance ≡ Some Empty → is_empty seat.slot ≡ true
empty_seen (Trial h) seats states instance seat is there =
    empty_of seat.slot (get_or states instance [])
    (same_Some (cell_in seat.slot (get_or states instance [])) Empty (sym (cell_there seats states instance seat is) ∙ there))
empty_seen (Redo h) seats states instance seat is there =
    empty_of seat.slot (get_or states instance [])
    (same_Some (cell_in seat.slot (get_or states instance [])) Empty (sym (cell_there seats states instance seat is) ∙ there))
empty_seen (Ended ending) seats states instance seat is there = absurd (cc)

-- A step is required exactly where the slot is empty.
pub wanted_exactly : (r : Inside) (seen : RunState) (instance : ℕ) (seat : Seat) (empty : Bool) → run_state r ≡ seen → is_ended r.phase ≡ false
    → slice_get r.seats.items instance ≡ Some seat
    → empty ≡ is_empty seat.slot → (empty ≡ true → IsWanted seen instance) × (IsWanted seen instance → empty ≡ true)
wanted_exactly r seen instance seat empty seen_is going is told = (
  λ yes. subst (λ (s : RunState). IsWanted s instance) seen_is (seat_is_wanted r seat instance going is (empty_is seat.slot (sym told ∙ yes))),
  λ wanted. told ∙ empty_seen r.phase r.seats.items r.units.states instance seat is (subst (λ (s : RunState). IsWanted s instance) (sym seen_is) wanted),
)

-- None is required where there is no seat.
pub none_wanted : (r : Inside) (seen : RunState) (instance : ℕ) → run_state r ≡ seen → slice_get r.seats.items instance ≡ None
    → (false ≡ true → IsWanted seen instance) × (IsWanted seen instance → false ≡ true)
none_wanted r seen instance seen_is none = (
  λ yes. absurd (cc),
  λ wanted.
      let there = at_place r.seats.items instance (wanted_seat r instance (subst (λ (s : RunState). IsWanted s instance) (sym seen_is) wanted)) in
      absurd (none-some there.0 (sym none ∙ there.1)),
)

-- The cell of a step that was made.
cells_made : (old new : Fleet) (seats : List Seat) (seat : Seat) (instance : ℕ) (made : Result ℕ Fault) (unit : List ℤ) → length old.states ≡ length seats
    → slice_get old.states instance ≡ Some unit
    → Steps old instance seat.time seat.step made new
    → cells_in (set seats instance (record seat { slot = slot_for made })) new.states
    ≡ set (cells_in seats old.states) instance (Filled (step_made made (slice_index_or new.states instance [])))
cells_made old new seats seat instance (Ok accepted) unit long unit_is steps =
    let after : Seat = record seat { slot = slot.Took accepted } in
    ap (λ (f : Fleet). cells_in (set seats instance after) f.states) steps.1
    ∙ cells_set seats old.states instance after (slice_index_or new.states instance []) long
cells_made old new seats seat instance (Err fault) unit long unit_is steps =
    let after : Seat = record seat { slot = slot.Failed fault } in
    ap (λ (f : Fleet). cells_in (set seats instance after) f.states) steps.1
    ∙ ap (cells_in (set seats instance after)) (sym (set_same old.states instance unit unit_is))
    ∙ cells_set seats old.states instance after unit long

module _ (r : Inside) (is : IsRun r) (seat : Seat) (instance : ℕ)
    (long : AreOfOneLength r.plan.value.run.members (stand_of r).at.states r.units.states r.seats.items)
    (seat_is : slice_get r.seats.items instance ≡ Some seat) (wanted : IsWanted (run_state r) instance) where
  abbrev run : Composition
  run = r.plan.value.run

  abbrev stand : Stand
  stand = stand_of r

  was_seat : (default : Seat) → get_or r.seats.items instance default ≡ seat
  was_seat default = get_or_from_slice_get r.seats.items instance seat default seat_is

  abbrev held : List ℤ
  held = get_or r.units.states instance []

  cell_is : (phase : Phase) → slice_get (cells_seen phase r.seats.items r.units.states) instance ≡ Some Empty → cell_in seat.slot held ≡ Empty
  cell_is (Trial h) there = same_Some (cell_in seat.slot held) Empty (sym (cell_there r.seats.items r.units.states instance seat seat_is) ∙ there)
  cell_is (Redo h) there = same_Some (cell_in seat.slot held) Empty (sym (cell_there r.seats.items r.units.states instance seat seat_is) ∙ there)
  cell_is (Ended ending) there = absurd (cc)

  slot_by : (made : Slot) (state : List ℤ) → cell_in made state ≡ Empty → made ≡ slot.Empty
  slot_by slot.Held state is = absurd (cc)
  slot_by slot.Empty state is = refl
  slot_by (slot.Took accepted) state is = absurd (cc)
  slot_by (slot.Failed fault) state is = absurd (cc)

  pub slot_is_empty : seat.slot ≡ slot.Empty
  slot_is_empty = slot_by seat.slot held (cell_is r.phase wanted)

  going_by : (phase : Phase) → slice_get (cells_seen phase r.seats.items r.units.states) instance ≡ Some Empty → is_ended phase ≡ false
  going_by (Trial h) there = refl
  going_by (Redo h) there = refl
  going_by (Ended ending) there = absurd (cc)

  pub is_going : is_ended r.phase ≡ false
  is_going = going_by r.phase wanted

  -- The seat in the phase.
  pub seat_by : (phase : Phase) → r.phase ≡ phase → is_ended phase ≡ false
      → SeatAt r.point.t (step_length phase) stand.ports run.members stand.at.states r.units.states seat instance
  seat_by (Trial h) same going =
      seat_at r.point.t h stand.ports run.members stand.at.states r.units.states r.seats.items seat instance long (fit_as r is (Trial h) same) seat_is
  seat_by (Redo h) same going =
      seat_at r.point.t h stand.ports run.members stand.at.states r.units.states r.seats.items seat instance long (fit_as r is (Redo h) same) seat_is
  seat_by (Ended ending) same going = absurd (cc)

  pub the_seat : SeatAt r.point.t (step_length r.phase) stand.ports run.members stand.at.states r.units.states seat instance
  the_seat = seat_by r.phase refl is_going

  -- Its unit still has the state at the run's stand.
  pub holds_state : the_seat.unit ≡ the_seat.state
  holds_state =
      held_by (is_held the_seat.member.factor r.point.t (step_length r.phase))
      (step_of the_seat.member.component the_seat.state (inputs_at stand.ports the_seat.member) (local_time the_seat.member.factor r.point.t)
      (local_step the_seat.member.factor r.point.t (step_length r.phase)))
      the_seat.unit the_seat.state
      (subst (λ made. SlotIs (step_at r.point.t (step_length r.phase) stand.ports (the_seat.member, the_seat.state)) made the_seat.unit the_seat.state)
      slot_is_empty the_seat.fits.slot)

  module _ (made : Result ℕ Fault) (units : Fleet) (steps : Steps r.units instance seat.time seat.step made units) (solved : r.solved ≡ true)
      (seats : Vec Seat Global) (seats_are : seats.items ≡ set r.seats.items instance (record seat { slot = slot_for made }))
      (found own : ℕ) (one_more : found + own ≡ suc (r.found + r.own)) where
    abbrev new_seat : Seat
    new_seat = record seat { slot = slot_for made }

    ids_same : ids_of seats.items ≡ ids_of r.seats.items
    ids_same =
        ap ids_of seats_are
        ∙ map-set_same (λ (s : Seat). s.id) r.seats.items instance new_seat seat (ap (λ (s : Seat). s.id) (sym (was_seat seat)))

    before_same : inputs_before seats.items ≡ inputs_before r.seats.items
    before_same =
        ap inputs_before seats_are
        ∙ map-set_same (λ (s : Seat). s.before.items) r.seats.items instance new_seat seat (ap (λ (s : Seat). s.before.items) (sym (was_seat seat)))

    states_same : saved r.snaps seats.items ≡ saved r.snaps r.seats.items
    states_same = saved_kept r.snaps r.seats.items seats.items ids_same

    -- The result of the step.
    abbrev pub step : Result Moved Fault
    step = step_made made (slice_index_or units.states instance [])

    seen_by : cells_in seats.items units.states ≡ slice_set (cells_in r.seats.items r.units.states) instance (Filled step)
    seen_by =
        ap (λ some. cells_in some units.states) seats_are
        ∙ cells_made r.units units r.seats.items seat instance made the_seat.unit (omega (arith, long.each_unit, long.each_seat)) the_seat.unit_is steps

    cells_by : (phase : Phase) → is_ended phase ≡ false
        → cells_seen phase seats.items units.states ≡ slice_set (cells_seen phase r.seats.items r.units.states) instance (Filled step)
    cells_by (Trial h) going = seen_by
    cells_by (Redo h) going = seen_by
    cells_by (Ended ending) going = absurd (cc)

    abbrev with_made : List Cell
    with_made = slice_set (cells_seen r.phase r.seats.items r.units.states) instance (Filled step)

    abbrev with_parts : List (List ℤ) → List Cell → List (List ℤ) → RunState
    with_parts states cells before = record (run_state r) {
      stand = record { at = record { point = r.point; states = states; number = r.number }; ports = stand.ports };
      cells = cells;
      before = before;
      found = found;
      own = own;
    }

    pub stepped_is : run_state (stepped r units seats found own) ≡ filled (run_state r) instance step found own
    stepped_is =
        ap (λ states. with_parts states (cells_seen r.phase seats.items units.states) (inputs_before seats.items)) states_same
        ∙ ap (λ cells. with_parts stand.at.states cells (inputs_before seats.items)) (cells_by r.phase is_going)
        ∙ ap (λ before. with_parts stand.at.states with_made before) before_same

    keeps : (units.plan ≡ r.units.plan) × (units.inputs ≡ r.units.inputs)
    keeps = step_keeps r.units units instance seat.time seat.step made steps

    tied_run : r.units.plan.run ≡ run
    tied_run = ap (λ (plan : Planned). plan.run) is.tied

    fed : r.units.inputs ≡ all_inputs run stand.ports
    fed = is.inputs solved

    fit_set : (phase : Phase) → r.phase ≡ phase → is_ended phase ≡ false
        → SeatsFit run (stand_of (stepped r units seats found own)) phase units.states seats.items
    fit_set (Trial h) same going =
        subst (λ states. AreSeats r.point.t h stand.ports (zip run.members states) units.states seats.items) (sym states_same)
        (subst (AreSeats r.point.t h stand.ports (zip run.members stand.at.states) units.states) (sym seats_are)
        (seats_stepped r.point.t h run stand.ports stand.at.states r.units r.seats.items seat instance long
        (fit_as r is (Trial h) same) seat_is slot_is_empty tied_run fed made units steps))
    fit_set (Redo h) same going =
        subst (λ states. AreSeats r.point.t h stand.ports (zip run.members states) units.states seats.items) (sym states_same)
        (subst (AreSeats r.point.t h stand.ports (zip run.members stand.at.states) units.states) (sym seats_are)
        (seats_stepped r.point.t h run stand.ports stand.at.states r.units r.seats.items seat instance long
        (fit_as r is (Redo h) same) seat_is slot_is_empty tied_run fed made units steps))
    fit_set (Ended ending) same going = absurd (cc)

    given_in : (phase : Phase) → r.phase ≡ phase → is_ended phase ≡ false
        → option_and_then (step_at r.point.t (step_length phase) stand.ports) (slice_get (standings run stand.at) instance) ≡ Some step
    given_in (Trial h) same going =
        step_given r.point.t h run stand.ports stand.at.states r.units r.seats.items seat instance long
        (fit_as r is (Trial h) same) seat_is slot_is_empty tied_run fed made units steps
    given_in (Redo h) same going =
        step_given r.point.t h run stand.ports stand.at.states r.units r.seats.items seat instance long
        (fit_as r is (Redo h) same) seat_is slot_is_empty tied_run fed made units steps
    given_in (Ended ending) same going = absurd (cc)

    -- It is the result of the instance's step.
    pub step_is : step_in (run_state r) instance ≡ Some step
    step_is = given_in r.phase refl is_going

    -- So the step was computed, where the run made one more step itself.
    pub is_computed : (seen : RunState) → run_state r ≡ seen → found ≡ r.found → own ≡ suc r.own
        → IsComputed seen instance (run_state (stepped r units seats found own))
    is_computed seen seen_is found_is own_is = subst (λ s. IsComputed s instance (run_state (stepped r units seats found own))) seen_is (record {
      step = step;
      gives = step_is;
      is =
          stepped_is
          ∙ ap (λ count. filled (run_state r) instance step count own) found_is
          ∙ ap (λ count. filled (run_state r) instance step r.found count) own_is;
    })

    -- Or it was found, where one more was.
    pub is_found : (seen : RunState) → run_state r ≡ seen → found ≡ suc r.found → own ≡ r.own
        → run_state (stepped r units seats found own) ≡ with_found seen instance step
    is_found seen seen_is found_is own_is =
        stepped_is
        ∙ ap (λ count. filled (run_state r) instance step count own) found_is
        ∙ ap (λ count. filled (run_state r) instance step (suc r.found) count) own_is
        ∙ ap (λ s. with_found s instance step) seen_is

    pub stepped_run : IsRun (stepped r units seats found own)
    stepped_run = record {
      stands = subst Stands (sym stepped_is) (stands_filled (run_state r) instance step found own one_more is.stands wanted step_is);
      tied = keeps.0 ∙ is.tied;
      room = record {
        ports = is.room.ports;
        known = is.room.known;
        seats = ap length seats_are ∙ length-set r.seats.items instance new_seat ∙ is.room.seats;
      };
      own_ids = own_kept r.seats.items seats.items ids_same is.own_ids;
      saved = subst (AreSaved r.snaps seats.items) (sym states_same)
          (are_saved_kept r.snaps r.seats.items seats.items (saved r.snaps r.seats.items) ids_same is.saved);
      before = ap (map length) before_same ∙ is.before ∙ sym (ap (map length) keeps.1);
      solved = is.solved ∙ ap (λ had. is_none (port_fault run had stand.ports)) (sym states_same);
      known = is.known;
      inputs = λ told. keeps.1 ∙ is.inputs told;
      fit = fit_set r.phase refl is_going;
    }
