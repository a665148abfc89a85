-- The invariant of a run at its opening, and from one call to the next.
use Rattle.std.proofs.Common.{◌≡◌, ◌∙◌, ℕ, suc, ◌+◌, ◌*◌, ◌<◌, ◌≤◌, true, false, ℤ, List, [], length, length-set, get_or, Some, Result, inl, inr, refl, sym, ap}
use Rattle.std.proofs.Common.{subst, arith}
use Rattle.std.proofs.lemmas.Bool.Decides.{eqb_tells}
use Rattle.std.proofs.lemmas.List.{get_or-set_same, get_or-set_other}
use Rattle.std.proofs.lemmas.Option.{slice_get_within, slice_get-get_or, get_or_from_slice_get}
use Rattle.std.specs.Prelude.{is_some, is_none, slice_get, slice_set, ◌&&◌, if◌then◌else◌}
use Rattle.std.specs.List.{count_by}
use Rattle.std.proofs.lemmas.Slice.Zip.{AllZip-long}
use Rattle.fixed_words.specs.declared.types.Fault.{Fault}
use Rattle.trace_core.specs.Runs.{Cell, Empty, Filled, RunState, Stands, IsPhase, IsTrial, AreCellsFull, IsWanted, ArePortsKnown, HoldSteps, arrived, phase_at}
use Rattle.trace_core.specs.Runs.{step_in, is_ended, is_filled, cells_now, first_end}
use Rattle.trace_core.specs.Settling.{with_redo}
use Rattle.trace_core.specs.declared.phase.Phase.{Phase}
use Rattle.trace_core.specs.declared.phase.Phase.TheVariants.{Trial, Redo, Ended}
use Rattle.trace_core.proofs.ArrivalLaws.{fresh_cells_fit, phase_is_right}
use Rattle.trace_core.proofs.CellLaws.{full_are_steps, steps_at_most, filled_at_most, fresh_are_empty, one_filled, filled_fit, none_begun}
use Rattle.trace_core.proofs.CourseLaws.{IsDue}
use Rattle.trace_plan.specs.Plans.{IsBounded, Planned}
use Rattle.unit_tree.specs.Components.{Moved}
use Rattle.unit_tree.specs.Compositions.{Composition, AreMembers, run_of}
use Rattle.unit_tree.specs.Negotiation.{all_inputs}
use Rattle.unit_tree.specs.Ports.{IsPlaceOrder}
use Rattle.unit_tree.specs.Successor.{Position, agreed, ends, is_redone, proposed, steps_by, successor, trial_end}
use Rattle.unit_tree.specs.Trace.{Stand, Goes, IsGoing, IsStand, HasWords, AreWordsOf, steps_there, cells_of_trial, cells_of_redo, cells_at, IsInBounds}
use Rattle.unit_tree.specs.Trace.{IsInRows}
use Rattle.unit_tree.specs.declared.ending.Ending.{Ending}
use Rattle.run_laws.proofs.RunSteps.{step_is_right}

-- ---- How many cells there may be

pub one_state : (run : Composition) (at : Position) → HasWords run at → length at.states ≡ length run.members
one_state run at words = AllZip-long (λ member state. AreWordsOf member.component.unit.states state) run.members at.states words

bound_more : (count width cells now later : ℕ) → cells ≤ count * width + now → now ≤ width → cells ≤ suc count * width + later
bound_more count width cells now later before most = omega arith

-- The cells of a step of a length.
abbrev cells_by : Composition → Stand → ℕ → ℕ
cells_by run stand step = steps_there (steps_by run stand.at stand.ports step)

abbrev filled_at : List Cell → ℕ → Result Moved Fault → List Cell
filled_at cells instance step = slice_set cells instance (Filled step)

abbrev width : RunState → ℕ
width r = 2 * length r.plan.run.members

pub now_at_most : (run : Composition) (stand : Stand) (phase : Phase) (cells : List Cell) → is_ended phase ≡ false → HasWords run stand.at
    → IsPhase run stand phase cells → cells_now run stand phase cells ≤ 2 * length run.members
now_at_most run stand (Trial h) cells going words is =
    let most = filled_at_most run stand.at.point.t h cells is.cells_fit in
    omega (arith, most)
now_at_most run stand (Redo h) cells going words is =
    let most = filled_at_most run stand.at.point.t h cells is.cells_fit in
    let tried = steps_at_most run stand.at stand.ports (proposed run stand.at stand.ports) (one_state run stand.at words) in
    omega (arith, most, tried)
now_at_most run stand (Ended ending) cells going words is = absurd (cc)

-- ---- At the opening

pub stands_opened : (plan : Planned) (stand : Stand) (before : List (List ℤ)) (order : List ℕ) → plan.run ≡ run_of plan.system → IsPlaceOrder plan.run order
    → IsBounded plan.run → AreMembers plan.run → HasWords plan.run stand.at → IsInBounds plan.run stand.at → IsInRows plan.run stand.at
    → IsStand plan.run stand → (ArePortsKnown plan.run stand → before ≡ all_inputs plan.run stand.ports) → Stands (arrived plan stand.at stand before 0 0)
stands_opened plan stand before order composed ordered bounded members words in_bounds in_rows is_stand fed = record {
  composed = composed;
  order = order;
  ordered = ordered;
  bounded = bounded;
  members = members;
  words = words;
  is_stand = is_stand;
  in_bounds = in_bounds;
  in_rows = in_rows;
  from = stand;
  count = 0;
  last = stand;
  opened = refl;
  from_stand = is_stand;
  reached = (refl, refl);
  numbered = omega arith;
  before = fed;
  phase_is = phase_is_right plan.run stand;
  steps = λ instance step is. absurd (none_begun plan.run stand.at.point.t (phase_at plan.run stand) instance step is);
  counted = omega arith;
}

-- ---- At the next stand

pub stands_moved : (old : RunState) (next : Stand) → Stands old → is_ended old.phase ≡ false → Goes old.plan.run old.stand next
    → Stands (arrived old.plan old.opened next (all_inputs old.plan.run old.stand.ports) old.found old.own)
stands_moved old next stands going on =
    let right = step_is_right old.plan.run old.stand next stands.members on in
    let number : next.at.number ≡ suc old.stand.at.number = ap (λ (at : Position). at.number) right.agreed in
    record {
      composed = stands.composed;
      order = stands.order;
      ordered = stands.ordered;
      bounded = stands.bounded;
      members = stands.members;
      words = right.words stands.words;
      is_stand = on.1;
      in_bounds = right.bounds stands.words stands.in_bounds;
      in_rows = right.rows stands.in_rows;
      from = stands.from;
      count = suc stands.count;
      last = old.stand;
      opened = stands.opened;
      from_stand = stands.from_stand;
      reached = (stands.last, stands.reached, on);
      numbered = omega (arith, number, stands.numbered);
      before = λ known. refl;
      phase_is = phase_is_right old.plan.run next;
      steps = λ instance step is. absurd (none_begun old.plan.run next.at.point.t (phase_at old.plan.run next) instance step is);
      counted =
          bound_more stands.count (width old) (old.found + old.own) (cells_now old.plan.run old.stand old.phase old.cells) _ stands.counted
          (now_at_most old.plan.run old.stand old.phase old.cells going stands.words stands.phase_is);
    }

-- ---- At a redo

module _ (old : RunState) (stands : Stands old) (h : ℕ) (is : old.phase ≡ Trial h) (full : AreCellsFull old.cells) where
  trial_is : IsTrial old.plan.run old.stand h old.cells
  trial_is = subst (λ phase. IsPhase old.plan.run old.stand phase old.cells) is stands.phase_is

  tried : old.found + old.own ≤ stands.count * width old + cells_of_trial old.plan.run old.stand
  tried =
      let counted : old.found + old.own ≤ stands.count * width old + count_by is_filled old.cells =
      subst (λ phase. old.found + old.own ≤ stands.count * width old + cells_now old.plan.run old.stand phase old.cells) is stands.counted in
      let steps : count_by is_filled old.cells ≡ cells_of_trial old.plan.run old.stand =
      full_are_steps old.plan.run old.stand.at old.stand.ports h old.cells (one_state old.plan.run old.stand.at stands.words) trial_is.cells_fit full
      ∙ ap (λ step. cells_by old.plan.run old.stand step) trial_is.is in
      omega (arith, counted, steps)

  pub stands_redone : IsDue old.plan.run old.stand → Stands (with_redo old)
  stands_redone due = record {
    composed = stands.composed;
    order = stands.order;
    ordered = stands.ordered;
    bounded = stands.bounded;
    members = stands.members;
    words = stands.words;
    is_stand = stands.is_stand;
    in_bounds = stands.in_bounds;
    in_rows = stands.in_rows;
    from = stands.from;
    count = stands.count;
    last = stands.last;
    opened = stands.opened;
    from_stand = stands.from_stand;
    reached = stands.reached;
    numbered = stands.numbered;
    before = stands.before;
    phase_is = record {
      going = trial_is.going;
      no_fault = due.no_fault;
      shorter = due.shorter;
      is = refl;
      cells_fit = fresh_cells_fit old.stand.at.point.t (agreed old.plan.run old.stand.at old.stand.ports) old.plan.run.members;
    };
    steps = λ instance step is.
        absurd (none_begun old.plan.run old.stand.at.point.t (Redo (agreed old.plan.run old.stand.at old.stand.ports)) instance step is);
    counted =
        let none = fresh_are_empty old.stand.at.point.t (agreed old.plan.run old.stand.at old.stand.ports) old.plan.run.members in
        omega (arith, tried, none);
  }

-- ---- At the end

not_before : (run : Composition) (stand : Stand) → IsGoing run stand → is_some (first_end run stand) ≡ false
not_before run stand going = rw (going.ports_known, going.before_stop, going.rows_left, going.limits_told) refl

cells_there : (run : Composition) (stand : Stand) → IsGoing run stand
    → cells_at run stand
    ≡ cells_of_trial run stand + (if is_none (trial_end run stand.at stand.ports) && is_redone run stand.at stand.ports then cells_of_redo run stand else 0)
cells_there run stand going =
    ap (λ ended. if ended then 0 else cells_of_trial run stand
    + (if is_none (trial_end run stand.at stand.ports) && is_redone run stand.at stand.ports then cells_of_redo run stand else 0))
    (not_before run stand going)

now_by : (run : Composition) (stand : Stand) (phase : Phase) (cells : List Cell) → is_ended phase ≡ false → HasWords run stand.at
    → IsPhase run stand phase cells → AreCellsFull cells → cells_now run stand phase cells ≤ cells_at run stand
now_by run stand (Trial h) cells going words is full =
    let steps : count_by is_filled cells ≡ cells_of_trial run stand =
    full_are_steps run stand.at stand.ports h cells (one_state run stand.at words) is.cells_fit full ∙ ap (cells_by run stand) is.is in
    let there = cells_there run stand is.going in
    omega (arith, steps, there)
now_by run stand (Redo h) cells going words is full =
    let steps : count_by is_filled cells ≡ cells_of_redo run stand =
    full_are_steps run stand.at stand.ports h cells (one_state run stand.at words) is.cells_fit full ∙ ap (cells_by run stand) is.is in
    let both : (is_none (trial_end run stand.at stand.ports) && is_redone run stand.at stand.ports) ≡ true =
    ap (λ ended. is_none ended && is_redone run stand.at stand.ports) is.no_fault ∙ is.shorter in
    let there : cells_at run stand ≡ cells_of_trial run stand + cells_of_redo run stand =
    cells_there run stand is.going ∙ ap (λ told. cells_of_trial run stand + (if told then cells_of_redo run stand else 0)) both in
    omega (arith, steps, there)
now_by run stand (Ended ending) cells going words is full = absurd (cc)

pub stands_ended : (old : RunState) (ending : Ending) → Stands old → is_ended old.phase ≡ false → AreCellsFull old.cells
    → successor old.plan.run old.stand.at old.stand.ports ≡ ends ending → Stands (record old { phase = Ended ending; cells = [] })
stands_ended old ending stands going full ended = record {
  composed = stands.composed;
  order = stands.order;
  ordered = stands.ordered;
  bounded = stands.bounded;
  members = stands.members;
  words = stands.words;
  is_stand = stands.is_stand;
  in_bounds = stands.in_bounds;
  in_rows = stands.in_rows;
  from = stands.from;
  count = stands.count;
  last = stands.last;
  opened = stands.opened;
  from_stand = stands.from_stand;
  reached = stands.reached;
  numbered = stands.numbered;
  before = stands.before;
  phase_is = record { is = ended; none = refl };
  steps = λ instance step is. absurd (none_begun old.plan.run old.stand.at.point.t (Ended ending) instance step is);
  counted =
      let most = now_by old.plan.run old.stand old.phase old.cells going stands.words stands.phase_is full in
      omega (arith, stands.counted, most);
}

-- ---- Where a cell is filled

still_phase : (run : Composition) (stand : Stand) (phase : Phase) (cells : List Cell) (instance : ℕ) (step : Result Moved Fault)
    → slice_get cells instance ≡ Some Empty → IsPhase run stand phase cells → IsPhase run stand phase (filled_at cells instance step)
still_phase run stand (Trial h) cells instance step wanted is =
    record { going = is.going; is = is.is; cells_fit = filled_fit cells instance step wanted ∙ is.cells_fit }
still_phase run stand (Redo h) cells instance step wanted is =
    record { going = is.going; no_fault = is.no_fault; shorter = is.shorter; is = is.is; cells_fit = filled_fit cells instance step wanted ∙ is.cells_fit }
still_phase run stand (Ended ending) cells instance step wanted is =
    let none : slice_get {X = Cell} [] instance ≡ Some Empty = subst (λ some. slice_get some instance ≡ Some Empty) is.none wanted in
    absurd (cc)

one_more_now : (run : Composition) (stand : Stand) (phase : Phase) (cells : List Cell) (instance : ℕ) (step : Result Moved Fault)
    → slice_get cells instance ≡ Some Empty → IsPhase run stand phase cells
    → cells_now run stand phase (filled_at cells instance step) ≡ suc (cells_now run stand phase cells)
one_more_now run stand (Trial h) cells instance step wanted is = one_filled cells instance step wanted
one_more_now run stand (Redo h) cells instance step wanted is =
    let more = one_filled cells instance step wanted in omega (arith, more)
one_more_now run stand (Ended ending) cells instance step wanted is =
    let none : slice_get {X = Cell} [] instance ≡ Some Empty = subst (λ some. slice_get some instance ≡ Some Empty) is.none wanted in
    absurd (cc)

hold_more : (old : RunState) (instance : ℕ) (step : Result Moved Fault) → HoldSteps old → IsWanted old instance → step_in old instance ≡ Some step
    → HoldSteps (record old { cells = filled_at old.cells instance step })
hold_more old instance step hold wanted gives place held is = elim (eqb_tells place instance) [
  | inl same ↦
      let made : Filled step ≡ Filled held =
      sym (get_or-set_same old.cells instance (Filled step) Empty (slice_get_within old.cells instance Empty wanted))
      ∙ ap (λ p. get_or (filled_at old.cells instance step) p Empty) (sym same.1)
      ∙ get_or_from_slice_get (filled_at old.cells instance step) place (Filled held) Empty is in
      ap (step_in old) same.1 ∙ gives ∙ ap Some (same_step made)
  | inr differ ↦
      let within : place < length old.cells =
      subst (λ count. place < count) (length-set old.cells instance (Filled step))
      (slice_get_within (filled_at old.cells instance step) place (Filled held) is) in
      let there : get_or old.cells place Empty ≡ Filled held =
      sym (get_or-set_other old.cells instance place (Filled step) Empty differ.1)
      ∙ get_or_from_slice_get (filled_at old.cells instance step) place (Filled held) Empty is in
      hold place held (slice_get-get_or old.cells place Empty within ∙ ap Some there)
]
  where
    same_step : Filled step ≡ Filled held → step ≡ held
    same_step made = cc

-- The run with the cell of an instance filled, and these counts.
abbrev pub filled : RunState → ℕ → Result Moved Fault → ℕ → ℕ → RunState
filled old instance step found own = record old { cells = filled_at old.cells instance step; found = found; own = own }

pub stands_filled : (old : RunState) (instance : ℕ) (step : Result Moved Fault) (found own : ℕ) → found + own ≡ suc (old.found + old.own) → Stands old
    → IsWanted old instance → step_in old instance ≡ Some step
    → Stands (filled old instance step found own)
stands_filled old instance step found own one_more stands wanted gives = record {
  composed = stands.composed;
  order = stands.order;
  ordered = stands.ordered;
  bounded = stands.bounded;
  members = stands.members;
  words = stands.words;
  is_stand = stands.is_stand;
  in_bounds = stands.in_bounds;
  in_rows = stands.in_rows;
  from = stands.from;
  count = stands.count;
  last = stands.last;
  opened = stands.opened;
  from_stand = stands.from_stand;
  reached = stands.reached;
  numbered = stands.numbered;
  before = stands.before;
  phase_is = still_phase old.plan.run old.stand old.phase old.cells instance step wanted stands.phase_is;
  steps = hold_more old instance step stands.steps wanted gives;
  counted =
      let more = one_more_now old.plan.run old.stand old.phase old.cells instance step wanted stands.phase_is in
      omega (arith, stands.counted, more, one_more);
}
