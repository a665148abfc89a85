-- A run after it was settled.
use Rattle.std.proofs.Common.{◌≡◌, ◌∙◌, ℕ, ◌+◌, ◌<◌, ◌≤◌, Bool, true, false, ℤ, List, [], Option, Vec, Global, refl, sym, ap, subst, inl}
use Rattle.std.specs.Prelude.{is_none, if◌then◌else◌}
use Rattle.trace_core.specs.declared.phase.Settle.TheVariants as settle
use Rattle.port_solve.specs.Solved.{HaveStates}
use Rattle.snap_store.specs.Store.{Store}
use Rattle.super_time.specs.declared.point.Point.{Point}
use Rattle.trace_core.specs.Courses.{course_in}
use Rattle.trace_core.specs.Keeping.{stand_of, position_of, cells_seen, inputs_before, run_state, IsRun}
use Rattle.trace_core.specs.Runs.{RunState, Stands, IsOpened, AreCellsFull, ArePortsKnown, arrived, is_ended}
use Rattle.trace_core.specs.Settling.{IsRedoDue, with_redo, Moves, Ends, Settled}
use Rattle.step_rule.specs.declared.courses.Course.TheVariants as course
use Rattle.trace_core.specs.declared.phase.Phase.{Phase}
use Rattle.trace_core.specs.declared.phase.Phase.TheVariants.{Ended}
use Rattle.trace_core.specs.declared.run.Run.TheInside.{Inside}
use Rattle.trace_core.specs.declared.seat.Seat.{Seat}
use Rattle.trace_core.proofs.KeepLaws.{Arrival, none_is, is_some_not, going_solved, arrived_is, arrived_run, right_stand, same_position, before_kept}
use Rattle.trace_core.proofs.KeepLaws.{fault_there}
use Rattle.trace_core.proofs.SettleLaws.{Led, led}
use Rattle.trace_core.proofs.StandLaws.{stands_opened, stands_moved, stands_redone, stands_ended}
use Rattle.trace_units.specs.Fleets.{Fleet}
use Rattle.trace_plan.specs.Plans.{IsBounded}
use Rattle.unit_tree.specs.Compositions.{Composition, AreMembers, run_of}
use Rattle.unit_tree.specs.Negotiation.{all_inputs}
use Rattle.unit_tree.specs.Ports.{IsPlaceOrder, port_fault}
use Rattle.unit_tree.specs.Successor.{Position, agreed, goes}
use Rattle.unit_tree.specs.Trace.{Stand, Goes, IsStand, HasWords, IsInBounds, IsInRows}
use Rattle.unit_tree.specs.declared.ending.Ending.{Ending}

-- The run at its next point.
abbrev pub moved_on : Inside → Fleet → Vec Seat Global → Store → Vec ℤ Global → Vec Bool Global → Phase → Point → Bool → Inside
moved_on r units seats snaps ports known phase point solved = record r {
  units = units;
  seats = seats;
  snaps = snaps;
  ports = ports;
  known = known;
  phase = phase;
  point = point;
  number = r.number + 1;
  solved = solved;
}

module _ (r : Inside) (is : IsRun r) (have : HaveStates r.plan.value.run r.units.states) (going : is_ended r.phase ≡ false)
    (full : AreCellsFull (cells_seen r.phase r.seats.items r.units.states)) where
  abbrev run : Composition
  run = r.plan.value.run

  is_solved : r.solved ≡ true
  is_solved = going_solved r is going

  module _ (ending : Ending) (to : course_in run r.point r.phase r.seats.items ≡ course.End ending) where
    led_end : Led r is have (course.End ending)
    led_end = subst (Led r is have) to (led r is have going full)

    pub end_stands : Stands (record (run_state r) { phase = Ended ending; cells = [] })
    end_stands = stands_ended (run_state r) ending is.stands going full led_end.1

    pub end_settled : Ends (run_state r) (record (run_state r) { phase = Ended ending; cells = [] })
    end_settled = record { no_redo = led_end.0; ending = ending; ended = led_end.1; is = refl }

  module _ (h : ℕ) (to : course_in run r.point r.phase r.seats.items ≡ course.Redo h) where
    led_redo : Led r is have (course.Redo h)
    led_redo = subst (Led r is have) to (led r is have going full)

    pub redo_due : IsRedoDue (run_state r)
    redo_due = led_redo.0

    pub redo_length : h ≡ agreed run (stand_of r).at (stand_of r).ports
    redo_length = led_redo.1

    pub redo_stands : Stands (with_redo (run_state r))
    redo_stands =
        stands_redone (run_state r) is.stands redo_due.h redo_due.trial full (record { no_fault = redo_due.no_fault; shorter = redo_due.shorter })

  module _ (point : Point) (to : course_in run r.point r.phase r.seats.items ≡ course.On point) where
    led_on : Led r is have (course.On point)
    led_on = subst (Led r is have) to (led r is have going full)

    -- The number of the next row is within the budget, for any ports.
    pub next_in_rows : (next : Stand) → next.at ≡ record { point = point; states = r.units.states; number = r.number + 1 } → IsStand run next
        → r.number + 1 < run.row_budget
    next_in_rows next same right =
        let on : Goes run (stand_of r) next = (led_on.1 ∙ ap goes (sym same), right) in
        subst (λ at. at.number < run.row_budget) same (stands_moved (run_state r) next is.stands going on).in_rows

    -- So is its time within the stop.
    pub next_in_time : (next : Stand) → next.at ≡ record { point = point; states = r.units.states; number = r.number + 1 } → IsStand run next
        → point.t ≤ run.stop
    next_in_time next same right =
        let on : Goes run (stand_of r) next = (led_on.1 ∙ ap goes (sym same), right) in
        subst (λ at. at.point.t ≤ run.stop) same (stands_moved (run_state r) next is.stands going on).in_bounds.stop

    module _ (units : Fleet) (seats : Vec Seat Global) (snaps : Store) (ports : Vec ℤ Global) (known : Vec Bool Global)
        (phase : Phase) (solved : Bool) (fault : Option Ending) (old : List Seat)
        (come : Arrival (moved_on r units seats snaps ports known phase point solved) fault old) (kept : units.states ≡ r.units.states)
        (fed : inputs_before old ≡ r.units.inputs) where
      abbrev next : Inside
      next = moved_on r units seats snaps ports known phase point solved

      on : Goes run (stand_of r) (stand_of next)
      on = (
        led_on.1 ∙ ap goes (sym (same_position next fault old come ∙ ap (λ states. record { point = point; states = states; number = r.number + 1 }) kept)),
        right_stand next fault old come,
      )

      before_is : inputs_before seats.items ≡ all_inputs run (stand_of r).ports
      before_is = before_kept next fault old come ∙ fed ∙ is.inputs is_solved

      pub next_is : run_state next ≡ arrived r.plan.value (position_of r.opened) (stand_of next) (all_inputs run (stand_of r).ports) r.found r.own
      next_is = arrived_is next fault old come ∙ ap (λ before. arrived r.plan.value (position_of r.opened) (stand_of next) before r.found r.own) before_is

      moved : Stands (arrived r.plan.value (position_of r.opened) (stand_of next) (all_inputs run (stand_of r).ports) r.found r.own)
      moved = stands_moved (run_state r) (stand_of next) is.stands going on

      pub next_stands : Stands (run_state next)
      next_stands = subst Stands (sym next_is) moved

      pub next_run : IsRun next
      next_run =
          arrived_run next fault old come
          (subst (λ before. Stands (arrived r.plan.value (position_of r.opened) (stand_of next) before r.found r.own)) (sym before_is) moved)

      pub next_moves : Moves (run_state r) (run_state next)
      next_moves = record { no_redo = led_on.0; goes = on; is = next_is }

-- The result of settling at the next stand, by whether all its ports are known.
pub settled_by : (solved : Bool) (old new : RunState) → Moves old new → solved ≡ is_none (port_fault new.plan.run new.stand.at.states new.stand.ports)
    → Settled old new (if solved then settle.Row else settle.Ended)
settled_by true old new moves is = (moves, none_is (port_fault new.plan.run new.stand.at.states new.stand.ports) (sym is))
settled_by false old new moves is = inl (moves, is_some_not (port_fault new.plan.run new.stand.at.states new.stand.ports) (sym is))

-- ---- At the opening

module _ (n : Inside) (fault : Option Ending) (old : List Seat) (come : Arrival n fault old) (start : Position)
    (start_is : ◌≡◌ {A = Position} (record { point = n.point; states = n.units.states; number = n.number }) start) (order : List ℕ)
    (composed : n.plan.value.run ≡ run_of n.plan.value.system) (ordered : IsPlaceOrder n.plan.value.run order) (bounded : IsBounded n.plan.value.run)
    (members : AreMembers n.plan.value.run) (words : HasWords n.plan.value.run start) (in_bounds : IsInBounds n.plan.value.run start)
    (in_rows : IsInRows n.plan.value.run start) (opened : position_of n.opened ≡ start) (fed : inputs_before old ≡ n.units.inputs) (none_found : n.found ≡ 0)
    (none_own : n.own ≡ 0) where
  at_start : (stand_of n).at ≡ start
  at_start = same_position n fault old come ∙ start_is

  fed_start : ArePortsKnown n.plan.value.run (stand_of n) → inputs_before n.seats.items ≡ all_inputs n.plan.value.run (stand_of n).ports
  fed_start known = before_kept n fault old come ∙ fed ∙ come.inputs (ap is_none (fault_there n fault old come ∙ known))

  fresh : Stands (arrived n.plan.value (stand_of n).at (stand_of n) (inputs_before n.seats.items) 0 0)
  fresh =
      stands_opened n.plan.value (stand_of n) (inputs_before n.seats.items) order composed ordered bounded members
      (subst (HasWords n.plan.value.run) (sym at_start) words) (subst (IsInBounds n.plan.value.run) (sym at_start) in_bounds)
      (subst (IsInRows n.plan.value.run) (sym at_start) in_rows) (right_stand n fault old come) fed_start

  counted_none : arrived n.plan.value (position_of n.opened) (stand_of n) (inputs_before n.seats.items) n.found n.own
      ≡ arrived n.plan.value (stand_of n).at (stand_of n) (inputs_before n.seats.items) 0 0
  counted_none =
      ap (λ at. arrived n.plan.value at (stand_of n) (inputs_before n.seats.items) n.found n.own) (opened ∙ sym at_start)
      ∙ ap (λ found. arrived n.plan.value (stand_of n).at (stand_of n) (inputs_before n.seats.items) found n.own) none_found
      ∙ ap (arrived n.plan.value (stand_of n).at (stand_of n) (inputs_before n.seats.items) 0) none_own

  opened_is : run_state n ≡ arrived n.plan.value (stand_of n).at (stand_of n) (inputs_before n.seats.items) 0 0
  opened_is = arrived_is n fault old come ∙ counted_none

  pub open_stands : Stands (run_state n)
  open_stands = subst Stands (sym opened_is) fresh

  pub open_run : IsRun n
  open_run = arrived_run n fault old come (subst Stands (sym counted_none) fresh)

  pub is_opened : IsOpened n.plan.value start (run_state n)
  is_opened = record {
    is = opened_is ∙ ap (λ at. arrived n.plan.value at (record { at = at; ports = (stand_of n).ports }) (inputs_before n.seats.items) 0 0) at_start;
    before = fed_start;
  }
