use Rattle.std.proofs.Common.{◌≡◌, ◌∙◌, ◌+◌, ◌<◌, ◌≤◌, ◌^◌, false, [], map, length, refl, ap, sym, subst, rules, inr}
use Rattle.std.specs.Prelude.{is_none}
use Rattle.std.specs.Vec.{with_items}
use Rattle.port_solve.specs.Solved.{HaveStates}
use Rattle.trace_core.specs.Courses.{course_in, IsReady}
use Rattle.trace_core.specs.Keeping.{HasRoom, IsRun, inputs_before, run_state}
use Rattle.trace_core.specs.declared.run.Run.TheInside.{Inside}
use Rattle.trace_core.specs.declared.seat.Seat.{Seat}
use Rattle.std.proofs.Common.{Vec, Global}
use Rattle.trace_core.specs.declared.phase.Phase.TheVariants.{Ended}
use Rattle.trace_core.specs.Runs.{RunState, Stands, AreCellsFull, is_ended}
use Rattle.trace_core.specs.Seats.{AreAsLong, AreBegun, saved}
use Rattle.trace_core.specs.Settling.{Settled, Ends, Moves, IsRedoDue, with_redo}
use Rattle.step_rule.specs.declared.courses.Course.TheVariants as course
use Rattle.trace_core.proofs.KeepLaws.{AreSolved, Arrival, IsBegunWith, arrival_of, redone_is, redone_run, ended_run}
use Rattle.trace_core.proofs.LengthLaws.{states_as_long}
use Rattle.trace_core.proofs.MoveLaws.{end_stands, end_settled, redo_due, redo_length, redo_stands, moved_on, next_in_rows, next_in_time, next_run, next_stands, next_moves}
use Rattle.trace_core.proofs.MoveLaws.{settled_by}
use Rattle.trace_core.proofs.SeatLaws.{as_many_kept, kept_in_phase}
use Rattle.trace_core.proofs.SettleLaws.{agreed_in_time, is_ready}
use Rattle.list_laws.proofs.Vectors.{items_put}
use Rattle.port_solve.specs.Solved.{ports_told}
use Rattle.trace_plan.specs.Plans.{Planned}
use Rattle.trace_units.specs.Fleets.{Fleet}
use Rattle.unit_tree.specs.Trace.{Stand}
use Rattle.trace_core.proofs.run.Run.settle.Goals.{After-begin_all, After-count, After-course_of-course, After-begin_phase-self-inside, After-solve_ports-fault}
use Rattle.trace_core.proofs.run.Run.settle.Goals as goal

-- What is known of the run before it goes on.
record Before (r : Inside) : Type 0 where
  is : IsRun r
  have : HaveStates r.plan.value.run r.units.states
  going : is_ended r.phase ≡ false
  full : AreCellsFull (run_state r).cells

before : (c : After-count) → Before c.self.inside
before c = record {
  is = c.self.invariant;
  have = subst (λ (plan : Planned). HaveStates plan.run c.self.inside.units.states) c.self.invariant.tied c.count.ensures.states;
  going = subst (λ (s : RunState). is_ended s.phase ≡ false) (sym c.self.view_is) c.requires.going;
  full = subst (λ (s : RunState). AreCellsFull s.cells) (sym c.self.view_is) c.requires.full;
}

-- Where it goes.
course_is : (c : After-course_of-course)
    → course_in c.self.inside.plan.value.run c.self.inside.point c.self.inside.phase c.self.inside.seats.items ≡ c.course_of-course.result
course_is c =
    let r = c.self.inside in
    ap (λ (plan : Planned). course_in plan.run r.point r.phase r.seats.items) (sym c.deref.ensures)
    ∙ ap (course_in c.deref.result.now.run r.point r.phase) (sym c.deref-2.ensures.value)
    ∙ sym c.course_of-course.ensures

pub course_of-course-requires-clause-ready : goal.course_of-course-requires-clause-ready
course_of-course-requires-clause-ready c =
    let r = c.self.inside in
    let b = before (goal.at.course_of-course-requires-clause-ready c).After-count in
    subst (λ (plan : Planned). IsReady plan.run r.point.t r.phase c.deref-2.result.now) (sym c.deref.ensures)
    (subst (IsReady r.plan.value.run r.point.t r.phase) (sym c.deref-2.ensures.value) (is_ready r b.is b.have))

-- ---- At the end

pub invariant_of-self : goal.invariant_of-self
invariant_of-self c =
    let r = c.self.inside in
    let b = before (goal.at.invariant_of-self c).After-count in
    let to = course_is (goal.at.invariant_of-self c).After-course_of-course ∙ c.in-End.is in
    ended_run r c.in-End.ending b.is (end_stands r b.is b.have b.going b.full c.in-End.ending to)

pub returns-in-End-clause-settled : goal.returns-in-End-clause-settled
returns-in-End-clause-settled c =
    let r = c.self.inside in
    let b = before (goal.at.returns-in-End-clause-settled c).After-count in
    let to = course_is (goal.at.returns-in-End-clause-settled c).After-course_of-course ∙ c.in-End.is in
    inr (subst (λ old. Ends old (record (run_state r) { phase = Ended c.in-End.ending; cells = [] })) c.self.view_is
    (end_settled r b.is b.have b.going b.full c.in-End.ending to))

pub returns-in-End-clause-stands : goal.returns-in-End-clause-stands
returns-in-End-clause-stands c =
    let r = c.self.inside in
    let b = before (goal.at.returns-in-End-clause-stands c).After-count in
    let to = course_is (goal.at.returns-in-End-clause-stands c).After-course_of-course ∙ c.in-End.is in
    end_stands r b.is b.have b.going b.full c.in-End.ending to

-- ---- At a redo

abbrev seats_begun : After-begin_all → Vec Seat Global
seats_begun c = with_items c.self.inside.seats c.begin_all.new.seats

begun : (c : After-begin_all)
    → AreBegun c.self.inside.point.t c.in-Redo.h c.self.inside.plan.value.run.members c.self.inside.seats.items (seats_begun c).items
begun c =
    let r = c.self.inside in
    let put_seats = items_put r.seats c.begin_all.new.seats (c.begin_all.ensures.as_many ∙ ap length c.deref_mut.ensures.value) in
    subst (AreBegun r.point.t c.in-Redo.h r.plan.value.run.members r.seats.items) (sym put_seats)
    (subst (λ old. AreBegun r.point.t c.in-Redo.h r.plan.value.run.members old c.begin_all.new.seats) c.deref_mut.ensures.value
    (subst (λ
    (plan : Planned). AreBegun r.point.t c.in-Redo.h plan.run.members c.deref_mut.result.now c.begin_all.new.seats) c.deref-in-Redo-2.ensures
    c.begin_all.ensures))

pub restore_all-requires-clause-as_long : goal.restore_all-requires-clause-as_long
restore_all-requires-clause-as_long c =
    let r = c.self.inside in
    let b = before (goal.at.restore_all-requires-clause-as_long c).After-count in
    subst (λ seats. AreAsLong (saved r.snaps seats) r.units.states) (sym c.deref-in-Redo.ensures.value)
    (states_as_long r.plan.value.run (saved r.snaps r.seats.items) r.units.states b.is.stands.words b.have)

pub begin_all-requires-clause-end : goal.begin_all-requires-clause-end
begin_all-requires-clause-end c =
    let r = c.self.inside in
    let at = goal.at.begin_all-requires-clause-end c in
    let b = before at.After-count in
    let to = course_is at.After-course_of-course ∙ c.in-Redo.is in
    subst (λ h. r.point.t + h ≤ 10 ^ 15) (sym (redo_length r b.is b.have b.going b.full c.in-Redo.h to)) (agreed_in_time r b.is b.have)

pub invariant_of-self-in-Redo : goal.invariant_of-self-in-Redo
invariant_of-self-in-Redo c =
    let r = c.self.inside in
    let b = before (goal.at.invariant_of-self-in-Redo c).After-count in
    let to = course_is (goal.at.invariant_of-self-in-Redo c).After-course_of-course ∙ c.in-Redo.is in
    let seats = seats_begun (goal.at.invariant_of-self-in-Redo c).After-begin_all in
    let restored : c.restore_all.new.units.states ≡ saved r.snaps r.seats.items = c.restore_all.ensures.states
    ∙ ap (saved r.snaps) c.deref-in-Redo.ensures.value in
    redone_run r b.is c.restore_all.new.units seats c.in-Redo.h (redo_length r b.is b.have b.going b.full c.in-Redo.h to)
    (begun (goal.at.invariant_of-self-in-Redo c).After-begin_all) (redo_stands r b.is b.have b.going b.full c.in-Redo.h to)
    c.restore_all.ensures.plan restored c.restore_all.ensures.inputs

pub returns-in-Redo-clause-settled : goal.returns-in-Redo-clause-settled
returns-in-Redo-clause-settled c =
    let r = c.self.inside in
    let b = before (goal.at.returns-in-Redo-clause-settled c).After-count in
    let to = course_is (goal.at.returns-in-Redo-clause-settled c).After-course_of-course ∙ c.in-Redo.is in
    let redone =
    redone_is r b.is c.restore_all.new.units (seats_begun (goal.at.returns-in-Redo-clause-settled c).After-begin_all) c.in-Redo.h
    (redo_length r b.is b.have b.going b.full c.in-Redo.h to) (begun (goal.at.returns-in-Redo-clause-settled c).After-begin_all) in (
      subst IsRedoDue c.self.view_is (redo_due r b.is b.have b.going b.full c.in-Redo.h to),
      redone ∙ ap with_redo c.self.view_is,
    )

pub returns-in-Redo-clause-stands : goal.returns-in-Redo-clause-stands
returns-in-Redo-clause-stands c =
    let r = c.self.inside in
    let b = before (goal.at.returns-in-Redo-clause-stands c).After-count in
    let to = course_is (goal.at.returns-in-Redo-clause-stands c).After-course_of-course ∙ c.in-Redo.is in
    let redone =
    redone_is r b.is c.restore_all.new.units (seats_begun (goal.at.returns-in-Redo-clause-stands c).After-begin_all) c.in-Redo.h
    (redo_length r b.is b.have b.going b.full c.in-Redo.h to) (begun (goal.at.returns-in-Redo-clause-stands c).After-begin_all) in
    subst Stands (sym redone) (redo_stands r b.is b.have b.going b.full c.in-Redo.h to)

-- ---- At the next point

pub commit_all-requires-clause-as_long : goal.commit_all-requires-clause-as_long
commit_all-requires-clause-as_long c =
    let r = c.self.inside in
    let b = before (goal.at.commit_all-requires-clause-as_long c).After-count in
    subst (λ seats. AreAsLong (saved r.snaps seats) r.units.states) (sym c.deref_mut-in-On.ensures.value)
    (states_as_long r.plan.value.run (saved r.snaps r.seats.items) r.units.states b.is.stands.words b.have)

is_solved : (c : After-solve_ports-fault) → AreSolved c.self.inside.plan.value.run c.solve_ports-fault.new.units c.self.inside.units.states
    c.solve_ports-fault.new.ports c.solve_ports-fault.new.known c.solve_ports-fault.result
is_solved c =
    let r = c.self.inside in
    let s = c.solve_ports-fault in
    subst (λ (plan : Planned). AreSolved plan.run s.new.units r.units.states s.new.ports s.new.known s.result) c.deref-in-On.ensures
    (record { right = s.ensures.right; fault_is = s.ensures.fault; known_all = s.ensures.known; inputs = s.ensures.inputs; kept = s.ensures.states })

-- The stand at the next point.
abbrev next_stand : After-solve_ports-fault → Stand
next_stand c = record {
  at = record { point = c.in-On.point; states = c.self.inside.units.states; number = c.self.inside.number + 1 };
  ports = ports_told c.solve_ports-fault.new.known c.solve_ports-fault.new.ports;
}

pub begin_phase-self-inside-requires-clause-rows : goal.begin_phase-self-inside-requires-clause-rows
begin_phase-self-inside-requires-clause-rows c =
    let r = c.self.inside in
    let at = goal.at.begin_phase-self-inside-requires-clause-rows c in
    let b = before at.After-count in
    let to = course_is at.After-course_of-course ∙ c.in-On.is in
    subst (λ (plan : Planned). r.number + 1 < plan.run.row_budget) (sym c.deref-in-On-2.ensures)
    (next_in_rows r b.is b.have b.going b.full c.in-On.point to (next_stand at.After-solve_ports-fault) refl (is_solved at.After-solve_ports-fault).right)

pub begin_phase-self-inside-requires-clause-stop : goal.begin_phase-self-inside-requires-clause-stop
begin_phase-self-inside-requires-clause-stop c =
    let r = c.self.inside in
    let at = goal.at.begin_phase-self-inside-requires-clause-stop c in
    let b = before at.After-count in
    let to = course_is at.After-course_of-course ∙ c.in-On.is in
    subst (λ (plan : Planned). c.in-On.point.t ≤ plan.run.stop) (sym c.deref-in-On-2.ensures)
    (next_in_time r b.is b.have b.going b.full c.in-On.point to (next_stand at.After-solve_ports-fault) refl (is_solved at.After-solve_ports-fault).right)

-- The run at the next point.
abbrev next : After-begin_phase-self-inside → Inside
next c =
    moved_on c.self.inside c.begin_phase-self-inside.new.units
    (with_items (with_items c.self.inside.seats c.commit_all.new.seats) c.begin_phase-self-inside.new.seats) c.commit_all.new.snaps
    (with_items c.self.inside.ports c.solve_ports-fault.new.ports) (with_items c.self.inside.known c.solve_ports-fault.new.known)
    c.begin_phase-self-inside.result c.in-On.point c.is_none-self-inside.result

come : (c : After-begin_phase-self-inside) → AreSolved c.self.inside.plan.value.run c.solve_ports-fault.new.units c.self.inside.units.states
    c.solve_ports-fault.new.ports c.solve_ports-fault.new.known c.solve_ports-fault.result
    → Arrival (next c) c.solve_ports-fault.result c.commit_all.new.seats
come c is_solved =
    let r = c.self.inside in
    let is = c.self.invariant in
    let s = c.solve_ports-fault in
    let b = c.begin_phase-self-inside in
    let seats0 = with_items r.seats c.commit_all.new.seats in
    let put0 = items_put r.seats c.commit_all.new.seats (c.commit_all.ensures.as_many ∙ ap length c.deref_mut-in-On.ensures.value) in
    let kept = kept_in_phase c.deref-in-On-2.result.now.run.members c.in-On.point.t b.result c.deref_mut-in-On-4.result.now b.new.seats b.ensures.begun in
    let as_many = as_many_kept c.deref_mut-in-On-4.result.now b.new.seats kept.ids in
    let put = items_put seats0 b.new.seats (as_many ∙ ap length c.deref_mut-in-On-4.ensures.value) in
    let put_ports = items_put r.ports s.new.ports (s.ensures.as_many_ports ∙ ap length c.deref_mut-in-On-2.ensures.value) in
    let put_known = items_put r.known s.new.known (s.ensures.as_many_known ∙ ap length c.deref_mut-in-On-3.ensures.value) in
    let begun : IsBegunWith r.plan.value.run c.in-On.point (r.number + 1) s.new.units s.result b.result c.commit_all.new.seats b.new.seats =
    subst (λ old. IsBegunWith r.plan.value.run c.in-On.point (r.number + 1) s.new.units s.result b.result old b.new.seats)
    (c.deref_mut-in-On-4.ensures.value ∙ put0)
    (subst (λ (plan : Planned). IsBegunWith plan.run c.in-On.point
    (r.number + 1) s.new.units s.result b.result c.deref_mut-in-On-4.result.now b.new.seats) c.deref-in-On-2.ensures
    (record { phase_is = b.ensures.phase; begun = b.ensures.begun })) in
    let n = next c in
    let room : HasRoom r.plan.value.run n = record {
      ports = ap length put_ports ∙ s.ensures.as_many_ports ∙ ap length c.deref_mut-in-On-2.ensures.value ∙ is.room.ports;
      known = ap length put_known ∙ s.ensures.as_many_known ∙ ap length c.deref_mut-in-On-3.ensures.value ∙ is.room.known;
      seats = ap length put ∙ as_many ∙ ap length (c.deref_mut-in-On-4.ensures.value ∙ put0) ∙ c.commit_all.ensures.as_many
          ∙ ap length c.deref_mut-in-On.ensures.value ∙ is.room.seats;
    } in
    let tied : b.new.units.plan ≡ r.plan.value = ap (λ (f : Fleet). f.plan) b.ensures.kept ∙ s.ensures.plan ∙ is.tied in
    let fed : AreAsLong (inputs_before c.commit_all.new.seats) s.new.units.inputs = ap (map length) c.commit_all.ensures.before ∙ s.ensures.as_long in
    let told : c.is_none-self-inside.result ≡ is_none s.result = search rules in
    arrival_of n s.result c.commit_all.new.seats b.new.seats s.new.units r.units.states s.new.ports s.new.known b.ensures.kept put put_ports put_known tied
    room c.commit_all.ensures.own c.commit_all.ensures.saved fed is_solved begun told

same_states : (c : After-begin_phase-self-inside) → c.begin_phase-self-inside.new.units.states ≡ c.self.inside.units.states
same_states c = ap (λ (f : Fleet). f.states) c.begin_phase-self-inside.ensures.kept ∙ c.solve_ports-fault.ensures.states

-- What is known of it.
record After (old : Inside) (new : Inside) : Type 0 where
  moves : Moves (run_state old) (run_state new)
  runs : IsRun new
  stands : Stands (run_state new)

after : (c : After-begin_phase-self-inside) → Before c.self.inside
    → course_in c.self.inside.plan.value.run c.self.inside.point c.self.inside.phase c.self.inside.seats.items ≡ course.On c.in-On.point
    → Arrival (next c) c.solve_ports-fault.result c.commit_all.new.seats → After c.self.inside (next c)
after c b to come =
    let r = c.self.inside in record {
      moves =
          next_moves r b.is b.have b.going b.full c.in-On.point to c.begin_phase-self-inside.new.units
          (with_items (with_items r.seats c.commit_all.new.seats) c.begin_phase-self-inside.new.seats) c.commit_all.new.snaps
          (with_items r.ports c.solve_ports-fault.new.ports) (with_items r.known c.solve_ports-fault.new.known)
          c.begin_phase-self-inside.result c.is_none-self-inside.result c.solve_ports-fault.result
          c.commit_all.new.seats come (same_states c) c.commit_all.ensures.before;
      runs =
          next_run r b.is b.have b.going b.full c.in-On.point to c.begin_phase-self-inside.new.units
          (with_items (with_items r.seats c.commit_all.new.seats) c.begin_phase-self-inside.new.seats) c.commit_all.new.snaps
          (with_items r.ports c.solve_ports-fault.new.ports) (with_items r.known c.solve_ports-fault.new.known)
          c.begin_phase-self-inside.result c.is_none-self-inside.result c.solve_ports-fault.result
          c.commit_all.new.seats come (same_states c) c.commit_all.ensures.before;
      stands =
          next_stands r b.is b.have b.going b.full c.in-On.point to c.begin_phase-self-inside.new.units
          (with_items (with_items r.seats c.commit_all.new.seats) c.begin_phase-self-inside.new.seats) c.commit_all.new.snaps
          (with_items r.ports c.solve_ports-fault.new.ports) (with_items r.known c.solve_ports-fault.new.known)
          c.begin_phase-self-inside.result c.is_none-self-inside.result c.solve_ports-fault.result
          c.commit_all.new.seats come (same_states c) c.commit_all.ensures.before;
    }

pub invariant_of-self-in-On : goal.invariant_of-self-in-On
invariant_of-self-in-On c =
    let at = goal.at.invariant_of-self-in-On c in
    let to = course_is at.After-course_of-course ∙ c.in-On.is in
    let after = after at.After-begin_phase-self-inside (before at.After-count) to (come at.After-begin_phase-self-inside (is_solved at.After-solve_ports-fault)) in
    after.runs

pub returns-in-On-clause-settled : goal.returns-in-On-clause-settled
returns-in-On-clause-settled c =
    let at = goal.at.returns-in-On-clause-settled c in
    let to = course_is at.After-course_of-course ∙ c.in-On.is in
    let after = after at.After-begin_phase-self-inside (before at.After-count) to (come at.After-begin_phase-self-inside (is_solved at.After-solve_ports-fault)) in
    let moves = subst (λ old. Moves old (run_state (next at.After-begin_phase-self-inside))) c.self.view_is after.moves in
    subst (Settled c.args.self.now (run_state (next at.After-begin_phase-self-inside))) (sym c.come_to.ensures)
    (settled_by c.is_none-self-inside.result c.args.self.now (run_state (next at.After-begin_phase-self-inside)) moves after.runs.solved)

pub returns-in-On-clause-stands : goal.returns-in-On-clause-stands
returns-in-On-clause-stands c =
    let at = goal.at.returns-in-On-clause-stands c in
    let to = course_is at.After-course_of-course ∙ c.in-On.is in
    let after = after at.After-begin_phase-self-inside (before at.After-count) to (come at.After-begin_phase-self-inside (is_solved at.After-solve_ports-fault)) in
    after.stands
