-- The invariant of a run where it arrives at a stand, at a redo, and where it ends.
use Rattle.std.proofs.Common.{◌≡◌, ◌∙◌, ℕ, Bool, true, false, ℤ, List, [], map, length, Option, Some, None, Vec, Global, refl, sym, ap, subst}
use Rattle.std.specs.Prelude.{is_none}
use Rattle.std.specs.List.{list_all}
use Rattle.port_solve.specs.Solved.{ports_told}
use Rattle.super_time.specs.declared.point.Point.{Point}
use Rattle.trace_core.specs.Arriving.{ended_or, phase_there, AreBegunIn}
use Rattle.trace_core.specs.Keeping.{stand_of, position_of, cells_seen, inputs_before, run_state, SeatsFit, HasRoom, IsRun}
use Rattle.trace_core.specs.Runs.{Cell, RunState, Stands, ArePortsKnown, IsPhase, arrived, cells_of, phase_at, is_ended}
use Rattle.trace_core.specs.Seats.{AreBegun, AreSaved, AreAsLong, HaveOwnIds, saved}
use Rattle.trace_core.specs.Settling.{with_redo}
use Rattle.trace_core.specs.declared.phase.Phase.{Phase}
use Rattle.trace_core.specs.declared.phase.Phase.TheVariants.{Trial, Redo, Ended}
use Rattle.trace_core.specs.declared.run.Run.TheInside.{Inside}
use Rattle.trace_core.specs.declared.seat.Seat.{Seat}
use Rattle.trace_core.proofs.ArrivalLaws.{phase_is}
use Rattle.trace_core.proofs.SeatLaws.{AreKept, own_kept, saved_kept, are_saved_kept, kept_begun, seen_begun, seen_in_phase, kept_in_phase}
use Rattle.trace_core.proofs.SlotLaws.{seats_begun, saved_is}
use Rattle.trace_core.proofs.StandLaws.{one_state}
use Rattle.trace_units.specs.Fleets.{Fleet}
use Rattle.unit_tree.specs.Compositions.{Composition}
use Rattle.unit_tree.specs.Negotiation.{all_inputs}
use Rattle.unit_tree.specs.Ports.{Ports, IsAssignment, port_fault}
use Rattle.unit_tree.specs.Successor.{Position, agreed}
use Rattle.unit_tree.specs.Trace.{Stand, IsStand}
use Rattle.unit_tree.specs.declared.ending.Ending.{Ending}

pub none_is : {A : Type 0} (told : Option A) → is_none told ≡ true → told ≡ None
none_is None is = refl
none_is (Some one) is = absurd (cc)

pub is_some_not : {A : Type 0} (told : Option A) → is_none told ≡ false → told ≡ None → ⊥
is_some_not None not none = cc
is_some_not (Some one) not none = cc

fit_in : (run : Composition) (stand : Stand) (phase : Phase) (units : List (List ℤ)) (old new : List Seat) → length stand.at.states ≡ length run.members
    → units ≡ stand.at.states → AreBegunIn stand.at.point.t phase run.members old new → SeatsFit run stand phase units new
fit_in run stand (Trial h) units old new long same begun = seats_begun stand.at.point.t h stand.ports run.members stand.at.states units old new long same begun
fit_in run stand (Redo h) units old new long same begun = seats_begun stand.at.point.t h stand.ports run.members stand.at.states units old new long same begun
fit_in run stand (Ended ending) units old new long same begun = tt

-- The seats of a run fit its phase.
pub fit_as : (r : Inside) → IsRun r → (phase : Phase) → r.phase ≡ phase → SeatsFit r.plan.value.run (stand_of r) phase r.units.states r.seats.items
fit_as r is phase same = subst (λ one. SeatsFit r.plan.value.run (stand_of r) one r.units.states r.seats.items) same is.fit

-- ---- Arriving at a stand

-- The seats were committed, the ports solved for the states of the units, and the phase begun.
pub record Arrival (r : Inside) (fault : Option Ending) (old : List Seat) : Type 0 where
  pub tied : r.units.plan ≡ r.plan.value
  pub room : HasRoom r.plan.value.run r
  pub own_ids : HaveOwnIds old
  pub are_saved : AreSaved r.snaps old r.units.states
  pub fed : AreAsLong (inputs_before old) r.units.inputs
  pub begun : AreBegunIn r.point.t r.phase r.plan.value.run.members old r.seats.items
  pub right : IsAssignment r.plan.value.run r.units.states (ports_told r.known.items r.ports.items)
  pub fault_is : fault ≡ port_fault r.plan.value.run r.units.states (ports_told r.known.items r.ports.items)
  pub known : is_none fault ≡ true → list_all (λ told. told) r.known.items ≡ true
  pub inputs : is_none fault ≡ true → r.units.inputs ≡ all_inputs r.plan.value.run (ports_told r.known.items r.ports.items)
  pub solved : r.solved ≡ is_none fault
  pub phase : r.phase ≡ ended_or fault (phase_there r.plan.value.run r.point r.number r.units.states r.units.inputs)

module _ (r : Inside) (fault : Option Ending) (old : List Seat) (come : Arrival r fault old) where
  abbrev run : Composition
  run = r.plan.value.run

  abbrev ports : Ports
  ports = ports_told r.known.items r.ports.items

  abbrev at_units : Position
  at_units = record { point = r.point; states = r.units.states; number = r.number }

  kept : AreKept old r.seats.items
  kept = kept_in_phase run.members r.point.t r.phase old r.seats.items come.begun

  pub saved_states : saved r.snaps r.seats.items ≡ r.units.states
  saved_states = saved_kept r.snaps old r.seats.items kept.ids ∙ saved_is r.snaps old r.units.states come.are_saved

  pub same_position : (stand_of r).at ≡ at_units
  same_position = ap (λ states. record { point = r.point; states = states; number = r.number }) saved_states

  pub right_stand : IsStand run (stand_of r)
  right_stand = subst (λ states. IsAssignment run states ports) (sym saved_states) come.right

  pub fault_there : fault ≡ port_fault run (stand_of r).at.states ports
  fault_there = come.fault_is ∙ ap (λ states. port_fault run states ports) (sym saved_states)

  pub solved_there : r.solved ≡ is_none (port_fault run (stand_of r).at.states (stand_of r).ports)
  solved_there = come.solved ∙ ap is_none fault_there

  phase_here : r.phase ≡ phase_at run (stand_of r)
  phase_here =
      come.phase
      ∙ phase_is run at_units ports r.units.inputs fault come.fault_is come.inputs
      ∙ ap (λ at. phase_at run (record { at = at; ports = ports })) (sym same_position)

  abbrev told : Phase → List Cell → RunState
  told phase cells = record {
    plan = r.plan.value;
    opened = position_of r.opened;
    stand = stand_of r;
    phase = phase;
    cells = cells;
    before = inputs_before r.seats.items;
    found = r.found;
    own = r.own;
  }

  pub arrived_is : run_state r ≡ arrived r.plan.value (position_of r.opened) (stand_of r) (inputs_before r.seats.items) r.found r.own
  arrived_is =
      ap (told r.phase) (seen_in_phase run r.point.t r.phase old r.seats.items r.units.states come.begun)
      ∙ ap (λ phase. told phase (cells_of run r.point.t phase)) phase_here

  pub before_kept : inputs_before r.seats.items ≡ inputs_before old
  before_kept = kept.before

  pub arrived_run : Stands (arrived r.plan.value (position_of r.opened) (stand_of r) (inputs_before r.seats.items) r.found r.own) → IsRun r
  arrived_run stands = record {
    stands = subst Stands (sym arrived_is) stands;
    tied = come.tied;
    room = come.room;
    own_ids = own_kept old r.seats.items kept.ids come.own_ids;
    saved = subst (AreSaved r.snaps r.seats.items) (sym saved_states) (are_saved_kept r.snaps old r.seats.items r.units.states kept.ids come.are_saved);
    before = ap (map length) kept.before ∙ come.fed;
    solved = solved_there;
    known = λ is. come.known (sym come.solved ∙ is);
    inputs = λ is. come.inputs (sym come.solved ∙ is);
    fit = fit_in run (stand_of r) r.phase r.units.states old r.seats.items (one_state run (stand_of r).at stands.words) (sym saved_states) come.begun;
  }

-- ---- At a redo

abbrev pub anew : Inside → Fleet → Vec Seat Global → ℕ → Inside
anew old units seats h = record old { units = units; seats = seats; phase = Redo h }

module _ (old : Inside) (is : IsRun old) (units : Fleet) (seats : Vec Seat Global) (h : ℕ)
    (agreed_on : h ≡ agreed old.plan.value.run (stand_of old).at (stand_of old).ports)
    (begun : AreBegun old.point.t h old.plan.value.run.members old.seats.items seats.items) where
  begun_kept : AreKept old.seats.items seats.items
  begun_kept = kept_begun old.point.t h old.plan.value.run.members old.seats.items seats.items begun

  same_states : saved old.snaps seats.items ≡ saved old.snaps old.seats.items
  same_states = saved_kept old.snaps old.seats.items seats.items begun_kept.ids

  abbrev state_with : List (List ℤ) → List Cell → List (List ℤ) → ℕ → RunState
  state_with states cells before length = record {
    plan = old.plan.value;
    opened = position_of old.opened;
    stand = record { at = record { point = old.point; states = states; number = old.number }; ports = (stand_of old).ports };
    phase = Redo length;
    cells = cells;
    before = before;
    found = old.found;
    own = old.own;
  }

  pub redone_is : run_state (anew old units seats h) ≡ with_redo (run_state old)
  redone_is =
      ap (λ states. state_with states (cells_seen (Redo h) seats.items units.states) (inputs_before seats.items) h) same_states
      ∙ ap (λ cells. state_with (saved old.snaps old.seats.items) cells (inputs_before seats.items) h)
      (seen_begun old.point.t h old.plan.value.run.members old.seats.items seats.items begun units.states)
      ∙ ap (λ before. state_with (saved old.snaps old.seats.items) (cells_of old.plan.value.run old.point.t (Redo h)) before h) begun_kept.before
      ∙ ap (λ length. state_with (saved old.snaps old.seats.items) (cells_of old.plan.value.run old.point.t (Redo length))
      (inputs_before old.seats.items) length) agreed_on

  pub redone_run : Stands (with_redo (run_state old)) → units.plan ≡ old.units.plan → units.states ≡ saved old.snaps old.seats.items
      → units.inputs ≡ old.units.inputs → IsRun (anew old units seats h)
  redone_run stands tied states inputs = record {
    stands = subst Stands (sym redone_is) stands;
    tied = tied ∙ is.tied;
    room = record { ports = is.room.ports; known = is.room.known; seats = begun.as_many ∙ is.room.seats };
    own_ids = own_kept old.seats.items seats.items begun_kept.ids is.own_ids;
    saved = subst (AreSaved old.snaps seats.items) (sym same_states)
        (are_saved_kept old.snaps old.seats.items seats.items (saved old.snaps old.seats.items) begun_kept.ids is.saved);
    before = ap (map length) begun_kept.before ∙ is.before ∙ sym (ap (map length) inputs);
    solved = is.solved ∙ ap (λ had. is_none (port_fault old.plan.value.run had (stand_of old).ports)) (sym same_states);
    known = is.known;
    inputs = λ solved. inputs ∙ is.inputs solved;
    fit =
        let there : Stand =
        record { at = record { point = old.point; states = saved old.snaps seats.items; number = old.number }; ports = (stand_of old).ports } in
        let long_states : length (saved old.snaps seats.items) ≡ length old.plan.value.run.members = ap length same_states
        ∙ one_state old.plan.value.run (stand_of old).at is.stands.words in
        fit_in old.plan.value.run there (Redo h) units.states old.seats.items seats.items long_states (states ∙ sym same_states) begun;
  }

-- ---- Where it ends

abbrev pub ended_with : Inside → Ending → Inside
ended_with old ending = record old { phase = Ended ending }

pub ended_run : (old : Inside) (ending : Ending) → IsRun old
    → Stands (record (run_state old) { phase = Ended ending; cells = [] }) → IsRun (ended_with old ending)
ended_run old ending is stands = record {
  stands = stands;
  tied = is.tied;
  room = record { ports = is.room.ports; known = is.room.known; seats = is.room.seats };
  own_ids = is.own_ids;
  saved = is.saved;
  before = is.before;
  solved = is.solved;
  known = is.known;
  inputs = is.inputs;
  fit = tt;
}

-- ---- While a run goes on

ports_by : (r : Inside) → IsRun r → (phase : Phase) → r.phase ≡ phase → is_ended phase ≡ false → ArePortsKnown r.plan.value.run (stand_of r)
ports_by r is (Trial h) same on =
    (subst (λ one. IsPhase r.plan.value.run (stand_of r) one (cells_seen one r.seats.items r.units.states)) same is.stands.phase_is).going.ports_known
ports_by r is (Redo h) same on =
    (subst (λ one. IsPhase r.plan.value.run (stand_of r) one (cells_seen one r.seats.items r.units.states)) same is.stands.phase_is).going.ports_known
ports_by r is (Ended ending) same on = absurd (cc)

-- All its ports are known.
pub going_solved : (r : Inside) → IsRun r → is_ended r.phase ≡ false → r.solved ≡ true
going_solved r is going = is.solved ∙ ap is_none (ports_by r is r.phase refl going)

-- ---- An arrival from what its parts gave

-- The ports as they were solved for the states of units.
pub record AreSolved (run : Composition) (units : Fleet) (states : List (List ℤ)) (ports : List ℤ) (known : List Bool) (fault : Option Ending) : Type 0 where
  pub right : IsAssignment run states (ports_told known ports)
  pub fault_is : fault ≡ port_fault run states (ports_told known ports)
  pub known_all : is_none fault ≡ true → list_all (λ told. told) known ≡ true
  pub inputs : is_none fault ≡ true → units.inputs ≡ all_inputs run (ports_told known ports)
  pub kept : units.states ≡ states

-- The phase as it was begun.
pub record IsBegunWith (run : Composition) (point : Point) (number : ℕ) (units : Fleet) (fault : Option Ending) (phase : Phase)
    (old new : List Seat) : Type 0 where
  pub phase_is : phase ≡ ended_or fault (phase_there run point number units.states units.inputs)
  pub begun : AreBegunIn point.t phase run.members old new

pub arrival_of : (n : Inside) (fault : Option Ending) (old now : List Seat) (solved : Fleet) (states : List (List ℤ)) (ports : List ℤ) (known : List Bool)
    → n.units ≡ solved → n.seats.items ≡ now → n.ports.items ≡ ports → n.known.items ≡ known → n.units.plan ≡ n.plan.value → HasRoom n.plan.value.run n
    → HaveOwnIds old → AreSaved n.snaps old states → AreAsLong (inputs_before old) solved.inputs → AreSolved n.plan.value.run solved states ports known fault
    → IsBegunWith n.plan.value.run n.point n.number solved fault n.phase old now → n.solved ≡ is_none fault → Arrival n fault old
arrival_of n fault old now solved states ports known units_are seats_are ports_are known_are tied room own saved fed is_solved begun told =
    let run = n.plan.value.run in
    let ports_same : ports_told n.known.items n.ports.items ≡ ports_told known ports = ap (λ some. ports_told some n.ports.items) known_are
    ∙ ap (ports_told known) ports_are in
    let states_same : n.units.states ≡ states = ap (λ (f : Fleet). f.states) units_are ∙ is_solved.kept in
    record {
      tied = tied;
      room = room;
      own_ids = own;
      are_saved = subst (AreSaved n.snaps old) (sym states_same) saved;
      fed = subst (λ (f : Fleet). AreAsLong (inputs_before old) f.inputs) (sym units_are) fed;
      begun = subst (AreBegunIn n.point.t n.phase run.members old) (sym seats_are) begun.begun;
      right =
          subst (λ all. IsAssignment run n.units.states all) (sym ports_same)
          (subst (λ all. IsAssignment run all (ports_told known ports)) (sym states_same) is_solved.right);
      fault_is = is_solved.fault_is ∙ ap (λ all. port_fault run all (ports_told known ports)) (sym states_same)
          ∙ ap (port_fault run n.units.states) (sym ports_same);
      known = λ none. subst (λ all. list_all (λ one. one) all ≡ true) (sym known_are) (is_solved.known_all none);
      inputs = λ none. ap (λ (f : Fleet). f.inputs) units_are ∙ is_solved.inputs none ∙ ap (all_inputs run) (sym ports_same);
      solved = told;
      phase = begun.phase_is ∙ ap (λ (f : Fleet). ended_or fault (phase_there run n.point n.number f.states f.inputs)) (sym units_are);
    }
