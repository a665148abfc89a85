-- Where a run goes from a phase whose cells are full: along the successor.
use Rattle.std.proofs.Common.{◌≡◌, ◌∙◌, ℕ, ◌+◌, ◌*◌, ◌<◌, ◌≤◌, ◌^◌, false, ℤ, List, [], ◌∷◌, length, refl, sym, ap, subst, arith}
use Rattle.std.proofs.lemmas.Nat.{mul-le}
use Rattle.port_solve.specs.Solved.{HaveStates}
use Rattle.step_rule.specs.Steps.{ending_or, trial_result}
use Rattle.trace_core.specs.Courses.{course_in, IsReady}
use Rattle.trace_core.specs.Seats.{seat_steps}
use Rattle.unit_tree.specs.Successor.{trial_end}
use Rattle.trace_core.specs.Keeping.{stand_of, cells_seen, run_state, IsRun}
use Rattle.trace_core.specs.Runs.{AreCellsFull, IsPhase, is_ended, is_empty_cell, step_length}
use Rattle.trace_core.specs.Slots.{is_empty}
use Rattle.trace_core.specs.Seats.{AreFull, cell_in, cells_in}
use Rattle.trace_core.specs.Settling.{IsRedoDue}
use Rattle.step_rule.specs.declared.courses.Course.{Course}
use Rattle.step_rule.specs.declared.courses.Course.TheVariants as course
use Rattle.trace_core.specs.declared.phase.Phase.{Phase}
use Rattle.trace_core.specs.declared.phase.Phase.TheVariants.{Trial, Redo, Ended}
use Rattle.trace_core.specs.declared.run.Run.TheInside.{Inside}
use Rattle.trace_core.specs.declared.seat.Seat.{Seat}
use Rattle.step_rule.specs.declared.steps.Slot.{Slot}
use Rattle.step_rule.specs.declared.steps.Slot.TheVariants as slot
use Rattle.trace_core.proofs.CourseLaws.{read_is, IsDue, LeadsFromTrial, LeadsFromRedo, trial_leads, redo_leads, leads_to}
use Rattle.trace_core.proofs.KeepLaws.{fit_as}
use Rattle.trace_core.proofs.OpeningLaws.{states_long}
use Rattle.trace_core.proofs.SlotLaws.{AreOfOneLength, are_asked}
use Rattle.trace_core.proofs.StandLaws.{one_state, now_at_most}
use Rattle.unit_tree.specs.Compositions.{Composition}
use Rattle.unit_tree.specs.Successor.{limits, proposed, agreed, goes, ends, successor}
use Rattle.unit_tree.specs.Trace.{Stand}
use Rattle.run_laws.proofs.PositionLaws.{agreed_is_at_most}
use Rattle.run_laws.proofs.StepLaws.{proposal_is_greatest}

-- ---- Full cells are full slots

empty_by : (made : Slot) (state : List ℤ) → is_empty_cell (cell_in made state) ≡ is_empty made
empty_by slot.Held state = refl
empty_by slot.Empty state = refl
empty_by (slot.Took accepted) state = refl
empty_by (slot.Failed fault) state = refl

full_seats : (seats : List Seat) (states : List (List ℤ)) → AreCellsFull (cells_in seats states) → AreFull seats
full_seats [] states full = tt
full_seats (seat ∷ seats) [] full = (sym (empty_by seat.slot []) ∙ full.0, full_seats seats [] full.1)
full_seats (seat ∷ seats) (state ∷ states) full = (sym (empty_by seat.slot state) ∙ full.0, full_seats seats states full.1)

-- ---- Times of a step

proposed_ends : (run : Composition) (stand : Stand) → stand.at.point.t ≤ run.stop → run.stop ≤ 10 ^ 15
    → stand.at.point.t + proposed run stand.at stand.ports ≤ 10 ^ 15
proposed_ends run stand before most =
    let within = (proposal_is_greatest run.stop run.longest stand.at.point.t (limits run stand.at stand.ports)).holds.within_stop in
    omega (arith, within, before, most)

-- ---- The seats of a run

module _ (r : Inside) (is : IsRun r) (have : HaveStates r.plan.value.run r.units.states) where
  abbrev run : Composition
  run = r.plan.value.run

  abbrev stand : Stand
  stand = stand_of r

  pub long : AreOfOneLength run.members stand.at.states r.units.states r.seats.items
  long = record { each_state = one_state run stand.at is.stands.words; each_unit = states_long run r.units.states have; each_seat = is.room.seats }

  phase_by : (phase : Phase) → r.phase ≡ phase → IsPhase run stand phase (cells_seen phase r.seats.items r.units.states)
  phase_by phase same = subst (λ one. IsPhase run stand one (cells_seen one r.seats.items r.units.states)) same is.stands.phase_is

  agreed_most : agreed run stand.at stand.ports ≤ proposed run stand.at stand.ports
  agreed_most = agreed_is_at_most run stand.at stand.ports is.stands.members is.stands.words

  proposed_in_time : r.point.t + proposed run stand.at stand.ports ≤ 10 ^ 15
  proposed_in_time = proposed_ends run stand is.stands.in_bounds.stop is.stands.bounded.stop

  pub agreed_in_time : r.point.t + agreed run stand.at stand.ports ≤ 10 ^ 15
  agreed_in_time = omega (arith, agreed_most, proposed_in_time)

  in_time_by : (phase : Phase) → r.phase ≡ phase → is_ended phase ≡ false → r.point.t + step_length phase ≤ 10 ^ 15
  in_time_by (Trial h) same going = let tried = phase_by (Trial h) same in subst (λ step. r.point.t + step ≤ 10 ^ 15) (sym tried.is) proposed_in_time
  in_time_by (Redo h) same going = let redone = phase_by (Redo h) same in subst (λ step. r.point.t + step ≤ 10 ^ 15) (sym redone.is) agreed_in_time
  in_time_by (Ended ending) same going = absurd (cc)

  -- A step of the phase ends within the range of times.
  pub step_in_time : is_ended r.phase ≡ false → r.point.t + step_length r.phase ≤ 10 ^ 15
  step_in_time going = in_time_by r.phase refl going

  -- The counts can rise by one more.
  pub counts_fit : is_ended r.phase ≡ false → r.found + r.own + 1 < 20000000
  counts_fit going =
      let now = now_at_most run stand r.phase (cells_seen r.phase r.seats.items r.units.states) going is.stands.words is.stands.phase_is in
      let rows : is.stands.count ≤ 100000 = omega (arith, is.stands.numbered, is.stands.in_rows, is.stands.bounded.rows) in
      let width : 2 * length run.members ≤ 128 = omega (arith, is.stands.bounded.members) in
      let most = mul-le is.stands.count (2 * length run.members) 100000 128 rows width in
      omega (arith, is.stands.counted, now, most, width)

  ready_by : (phase : Phase) → r.phase ≡ phase → IsReady run r.point.t phase r.seats.items
  ready_by (Trial h) same =
      let seats = fit_as r is (Trial h) same in
      let tried = phase_by (Trial h) same in
      record {
        asked = are_asked r.point.t h stand.ports run.members stand.at.states r.units.states r.seats.items long seats;
        in_time = subst (λ step. r.point.t + step ≤ 10 ^ 15) (sym tried.is) proposed_in_time;
      }
  ready_by (Redo h) same = let redone = phase_by (Redo h) same in subst (λ step. r.point.t + step ≤ 10 ^ 15) (sym redone.is) agreed_in_time
  ready_by (Ended ending) same = tt

  pub is_ready : IsReady run r.point.t r.phase r.seats.items
  is_ready = ready_by r.phase refl

  -- Where the run goes.
  abbrev pub Led : Course → Type 0
  Led (course.Redo least) = IsRedoDue (run_state r) × (least ≡ agreed run stand.at stand.ports)
  Led (course.On point) =
      (IsRedoDue (run_state r) → ⊥) × (successor run stand.at stand.ports ≡ goes (record { point = point; states = r.units.states; number = r.number + 1 }))
  Led (course.End ending) = (IsRedoDue (run_state r) → ⊥) × (successor run stand.at stand.ports ≡ ends ending)

  due_is : IsRedoDue (run_state r) → IsDue run stand
  due_is due = record { no_fault = due.no_fault; shorter = due.shorter }

  from_trial : (h : ℕ) (where_to : Course) → r.phase ≡ Trial h → AreFull r.seats.items → LeadsFromTrial run stand h where_to → Led where_to
  from_trial h (course.Redo least) same full leads = (record { h = h; trial = same; no_fault = leads.0.no_fault; shorter = leads.0.shorter }, leads.1)
  from_trial h (course.On point) same full leads =
      let tried = phase_by (Trial h) same in (
        (λ due. leads.0 (due_is due)),
        leads.1.goes_on ∙ ap goes (sym (leads_to run stand tried.going h r.units.states r.seats.items long (fit_as r is (Trial h) same) full point leads.1)),
      )
  from_trial h (course.End ending) same full leads = ((λ due. leads.0 (due_is due)), leads.1)

  no_trial : (h : ℕ) → r.phase ≡ Redo h → IsRedoDue (run_state r) → ⊥
  no_trial h same due = let other : Redo h ≡ Trial due.h = sym same ∙ due.trial in cc

  from_redo : (h : ℕ) (where_to : Course) → r.phase ≡ Redo h → AreFull r.seats.items → LeadsFromRedo run stand h where_to → Led where_to
  from_redo h (course.Redo least) same full leads = absurd leads
  from_redo h (course.On point) same full leads =
      let redone = phase_by (Redo h) same in (
        no_trial h same,
        leads.goes_on ∙ ap goes (sym (leads_to run stand redone.going h r.units.states r.seats.items long (fit_as r is (Redo h) same) full point leads)),
      )
  from_redo h (course.End ending) same full leads = (no_trial h same, leads)

  full_by : (phase : Phase) → is_ended phase ≡ false → AreCellsFull (cells_seen phase r.seats.items r.units.states) → AreFull r.seats.items
  full_by (Trial h) going full = full_seats r.seats.items r.units.states full
  full_by (Redo h) going full = full_seats r.seats.items r.units.states full
  full_by (Ended ending) going full = absurd (cc)

  led_by : (phase : Phase) → r.phase ≡ phase → is_ended phase ≡ false → AreFull r.seats.items → Led (course_in run r.point phase r.seats.items)
  led_by (Trial h) same going full =
      let tried = phase_by (Trial h) same in
      from_trial h (course_in run r.point (Trial h) r.seats.items) same full
      (trial_leads run stand tried.going h r.units.states r.seats.items long (fit_as r is (Trial h) same) full tried.is is.stands.members is.stands.words)
  led_by (Redo h) same going full =
      let redone = phase_by (Redo h) same in
      from_redo h (course_in run r.point (Redo h) r.seats.items) same full
      (redo_leads run stand redone.going h r.units.states r.seats.items long (fit_as r is (Redo h) same) full redone.is redone.no_fault redone.shorter)
  led_by (Ended ending) same going full = absurd (cc)

  pub led : is_ended r.phase ≡ false → AreCellsFull (cells_seen r.phase r.seats.items r.units.states) → Led (course_in run r.point r.phase r.seats.items)
  led going full = led_by r.phase refl going (full_by r.phase going full)

  -- What is read of a trial.
  pub trial_is : (h : ℕ) → r.phase ≡ Trial h → AreCellsFull (cells_seen r.phase r.seats.items r.units.states)
      → trial_result r.point.t h (seat_steps run.members r.seats.items) ≡ ending_or (trial_end run stand.at stand.ports) (agreed run stand.at stand.ports)
  trial_is h same full =
      let tried = phase_by (Trial h) same in
      let seen = full_by (Trial h) refl (subst (λ phase. AreCellsFull (cells_seen phase r.seats.items r.units.states)) same full) in
      read_is run stand tried.going h r.units.states r.seats.items long (fit_as r is (Trial h) same) seen tried.is is.stands.members is.stands.words

  pub trial_ready : (h : ℕ) → r.phase ≡ Trial h → IsReady run r.point.t (Trial h) r.seats.items
  trial_ready h same = ready_by (Trial h) same
