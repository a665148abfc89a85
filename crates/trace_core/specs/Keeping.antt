-- The invariant of a run, with its private fields.
use Rattle.std.specs.Prelude.{◌≡◌, true, List, [], map, length, is_none, ⊤, ℤ}
use Rattle.std.specs.List.{list_all}
use Rattle.port_solve.specs.Solved.{ports_told}
use Rattle.trace_core.specs.Runs.{Cell, RunState, Stands}
use Rattle.trace_core.specs.Seats.{AreSeats, AreSaved, AreAsLong, HaveOwnIds, cells_in, saved}
use Rattle.trace_core.specs.declared.phase.Phase.{Phase}
use Rattle.trace_core.specs.declared.phase.Phase.TheVariants.{Trial, Redo, Ended}
use Rattle.trace_core.specs.declared.run.Opened.{Opened}
use Rattle.trace_core.specs.declared.run.Run.TheInside.{Inside}
use Rattle.trace_core.specs.declared.seat.Seat.{Seat}
use Rattle.unit_tree.specs.Compositions.{Composition}
use Rattle.unit_tree.specs.Negotiation.{all_inputs}
use Rattle.unit_tree.specs.Ports.{port_fault}
use Rattle.unit_tree.specs.Routes.{routes_of}
use Rattle.unit_tree.specs.Successor.{Position, standings}
use Rattle.unit_tree.specs.Trace.{Stand}

-- ---- What contracts see

-- The position at which a run was opened.
abbrev pub position_of : Opened → Position
position_of opened = record { point = opened.point; states = map (λ state. state.items) opened.states.items; number = opened.number }

-- The stand of a run: its states are those of the snapshots, and a port has a word where it is known.
abbrev pub stand_of : Inside → Stand
stand_of run = record {
  at = record { point = run.point; states = saved run.snaps run.seats.items; number = run.number };
  ports = ports_told run.known.items run.ports.items;
}

-- The cells of a phase, by the slots of the seats and the states of the units.
abbrev pub cells_seen : Phase → List Seat → List (List ℤ) → List Cell
cells_seen (Trial h) seats states = cells_in seats states
cells_seen (Redo h) seats states = cells_in seats states
cells_seen (Ended ending) seats states = []

-- The words of all inputs at the row before.
abbrev pub inputs_before : List Seat → List (List ℤ)
inputs_before seats = map (λ seat. seat.before.items) seats

-- What contracts see of a run.
abbrev pub run_state : Inside → RunState
run_state run = record {
  plan = run.plan.value;
  opened = position_of run.opened;
  stand = stand_of run;
  phase = run.phase;
  cells = cells_seen run.phase run.seats.items run.units.states;
  before = inputs_before run.seats.items;
  found = run.found;
  own = run.own;
}

-- ---- The invariant

-- While the run goes on, the seats have the steps of the phase. After its end nothing is known of them.
abbrev pub SeatsFit : Composition → Stand → Phase → List (List ℤ) → List Seat → Type 0
SeatsFit run stand (Trial h) units seats = AreSeats stand.at.point.t h stand.ports (standings run stand.at) units seats
SeatsFit run stand (Redo h) units seats = AreSeats stand.at.point.t h stand.ports (standings run stand.at) units seats
SeatsFit run stand (Ended ending) units seats = ⊤

-- There is memory for all that is written later.
pub record HasRoom (run : Composition) (inside : Inside) : Type 0 where
  pub ports : length inside.ports.items ≡ length (routes_of run).outputs
  pub known : length inside.known.items ≡ length (routes_of run).outputs
  pub seats : length inside.seats.items ≡ length run.members

-- The run is as `Stands` says. Its units are those of its plan, and have the words of the inputs where all ports have words.
-- Its snapshots have ids that differ, and their words are states.
pub record IsRun (run : Inside) : Type 0 where
  pub stands : Stands (run_state run)
  pub tied : run.units.plan ≡ run.plan.value
  pub room : HasRoom run.plan.value.run run
  pub own_ids : HaveOwnIds run.seats.items
  pub saved : AreSaved run.snaps run.seats.items (saved run.snaps run.seats.items)
  pub before : AreAsLong (inputs_before run.seats.items) run.units.inputs
  pub solved : run.solved ≡ is_none (port_fault run.plan.value.run (stand_of run).at.states (stand_of run).ports)
  pub known : run.solved ≡ true → list_all (λ told. told) run.known.items ≡ true
  pub inputs : run.solved ≡ true → run.units.inputs ≡ all_inputs run.plan.value.run (stand_of run).ports
  pub fit : SeatsFit run.plan.value.run (stand_of run) run.phase run.units.states run.seats.items
