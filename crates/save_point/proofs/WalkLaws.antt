-- A run that goes on by its own steps, and where in the trace it is then.
use Rattle.std.proofs.Common.{◌≡◌, ℕ, zero, suc, ◌+◌, ◌-◌, ◌*◌, ◌<◌, ◌≤◌, true, false, List, [], ◌∷◌, ◌++◌, length, length-append, inl, inr}
use Rattle.std.proofs.Common.{refl, sym, ap, subst, ◌∙◌, arith, append_assoc}
use Rattle.trace_core.proofs.FillLaws.{not_ended}
use Rattle.run_laws.proofs.Rests.{next_number}
use Rattle.run_laws.proofs.RunTraces.{Rest, left, rest_of, same_rests}
use Rattle.run_laws.proofs.PositionLaws.{positions_keep}
use Rattle.save_point.specs.SavedTexts.{saved_text}
use Rattle.save_point.specs.Saving.{HasNoPosition, PutsPosition}
use Rattle.trace_core.specs.Runs.{RunState, Stands, IsOpened, IsPhase, is_ended}
use Rattle.trace_core.specs.Settling.{Ends, Moves, Settled}
use Rattle.trace_core.specs.declared.phase.Phase.{Phase}
use Rattle.trace_core.specs.declared.phase.Phase.TheVariants.{Trial, Redo, Ended}
use Rattle.trace_core.specs.declared.phase.Settle.{Settle}
use Rattle.trace_core.specs.declared.phase.Settle.TheVariants as settle
use Rattle.trace_plan.specs.Plans.{Planned}
use Rattle.trace_rows.specs.Passing.{AreStepsThere}
use Rattle.unit_tree.specs.Compositions.{Composition}
use Rattle.unit_tree.specs.Successor.{Position, first_position, ends, successor}
use Rattle.unit_tree.specs.Trace.{Stand, Follows, GoesOnFrom, IsPositionOf, IsStand, IsTrace, Reaches}
use Rattle.unit_tree.specs.declared.ending.Ending.{Ending}

-- ---- Phases that are still to come

-- How many phases may follow at a stand.
abbrev phases_in : Phase → ℕ
phases_in (Trial h) = 2
phases_in (Redo h) = 1
phases_in (Ended ending) = 0

abbrev pub phases_left : ℕ → RunState → ℕ
phases_left row r = 3 * (row - r.stand.at.number) + phases_in r.phase

few_phases : (phase : Phase) → phases_in phase ≤ 2
few_phases (Trial h) = omega arith
few_phases (Redo h) = omega arith
few_phases (Ended ending) = omega arith

some_phase : (phase : Phase) → is_ended phase ≡ false → 1 ≤ phases_in phase
some_phase (Trial h) going = omega arith
some_phase (Redo h) going = omega arith
some_phase (Ended ending) going = absurd (cc)

-- What stays when the run goes on, and that it ends.
pub record Nearer (row : ℕ) (old new : RunState) : Type 0 where
  pub planned : new.plan ≡ old.plan
  pub opened : new.opened ≡ old.opened
  pub within : new.stand.at.number ≤ row
  pub fewer : phases_left row new < phases_left row old

fewer_rows : (row number next here there : ℕ) → number < row → next ≡ suc number → 1 ≤ here → there ≤ 2 → 3 * (row - next) + there < 3 * (row - number) + here
fewer_rows row number next here there before is some few = omega (arith, before, is, some, few)

moved : (row : ℕ) (old new : RunState) → old.stand.at.number < row → is_ended old.phase ≡ false → Moves old new → Nearer row old new
moved row old new before going moves =
    let number : new.stand.at.number ≡ suc old.stand.at.number = next_number old.plan.run old.stand new.stand moves.goes in
    record {
      planned = ap (λ (s : RunState). s.plan) moves.is;
      opened = ap (λ (s : RunState). s.opened) moves.is;
      within = omega (arith, number, before);
      fewer =
          fewer_rows row old.stand.at.number new.stand.at.number (phases_in old.phase) (phases_in new.phase) before number (some_phase old.phase going)
          (few_phases new.phase);
    }

ended : (row : ℕ) (old new : RunState) → old.stand.at.number < row → is_ended old.phase ≡ false → Ends old new → Nearer row old new
ended row old new before going end =
    let number : new.stand.at.number ≡ old.stand.at.number = ap (λ (s : RunState). s.stand.at.number) end.is in
    let left_now : phases_left row new ≡ 3 * (row - old.stand.at.number) + 0 = ap (phases_left row) end.is in
    let some = some_phase old.phase going in
    record {
      planned = ap (λ (s : RunState). s.plan) end.is;
      opened = ap (λ (s : RunState). s.opened) end.is;
      within = omega (arith, number, before);
      fewer = omega (arith, left_now, some);
    }

pub settled_nearer : (row : ℕ) (old new : RunState) (told : Settle) → old.stand.at.number < row → is_ended old.phase ≡ false → Settled old new told
    → Nearer row old new
settled_nearer row old new settle.Row before going settled = moved row old new before going settled.0
settled_nearer row old new settle.Ended before going (inl moves) = moved row old new before going moves.0
settled_nearer row old new settle.Ended before going (inr end) = ended row old new before going end
settled_nearer row old new settle.Redo before going (due, is) =
    let number : new.stand.at.number ≡ old.stand.at.number = ap (λ (s : RunState). s.stand.at.number) is in
    let left_now : phases_left row new ≡ 3 * (row - old.stand.at.number) + 1 = ap (phases_left row) is in
    let tried : phases_in old.phase ≡ 2 = ap phases_in due.trial in
    record {
      planned = ap (λ (s : RunState). s.plan) is;
      opened = ap (λ (s : RunState). s.opened) is;
      within = omega (arith, number, before);
      fewer = omega (arith, left_now, tried);
    }

-- The same, after the steps of the phase.
pub stepped_nearer : (row : ℕ) (old now new : RunState) (told : Settle) → old.stand.at.number < row → is_ended old.phase ≡ false → AreStepsThere old now
    → Settled now new told → Nearer row old new
stepped_nearer row old now new told before going there settled =
    let stands : now.stand ≡ old.stand = ap (λ (s : RunState). s.stand) there.is in
    let phases : now.phase ≡ old.phase = ap (λ (s : RunState). s.phase) there.is in
    let on =
    settled_nearer row now new told (subst (λ (s : Stand). s.at.number < row) (sym stands) before) (ap is_ended phases ∙ going) settled in
    record {
      planned = on.planned ∙ ap (λ (s : RunState). s.plan) there.is;
      opened = on.opened ∙ ap (λ (s : RunState). s.opened) there.is;
      within = on.within;
      fewer = subst (λ most. phases_left row new < most) (ap (phases_left row) there.is) on.fewer;
    }

-- ---- The place of a run in the trace

-- Some stands were passed between two: what follows the second continues from the first.
record Passed (run : Composition) (from to : Stand) (count : ℕ) : Type 0 where
  stands : List Stand
  long : length stands ≡ count
  joins : (later : List Stand) (ending : Ending) → Follows run to later ending → GoesOnFrom run from.at (stands ++ (to ∷ later)) ending

passed : (run : Composition) (count : ℕ) (from last to : Stand) → IsStand run from → Reaches run count last from to → Passed run from to count
passed run zero from last to is reaches = record {
  stands = [];
  long = refl;
  joins = λ later ending follows. (
    ap (λ (s : Stand). s.at) (sym reaches.0),
    subst (IsStand run) reaches.0 is,
    follows,
  );
}
passed run (suc count) from last to is reaches =
    let before = passed run count from reaches.0 last is reaches.1 in
    record {
      stands = before.stands ++ (last ∷ []);
      long = omega (arith, length-append before.stands (last ∷ []), before.long);
      joins = λ later ending follows.
          subst (λ all. GoesOnFrom run from.at all ending) (sym (append_assoc before.stands (last ∷ []) (to ∷ later)))
          (before.joins (to ∷ later) ending (reaches.2, follows));
    }

module _ (r : RunState) (stands : Stands r) (start : r.opened ≡ first_position r.plan.run) where
  abbrev run : Composition
  run = r.plan.run

  way : Passed run stands.from r.stand stands.count
  way = passed run stands.count stands.from stands.last r.stand stands.from_stand stands.reached

  from_first : stands.from.at ≡ first_position run
  from_first = stands.opened ∙ start

  counted : r.stand.at.number ≡ stands.count
  counted = stands.numbered ∙ omega (arith, ap (λ (at : Position). at.number) start)

  trace_by : (later : List Stand) (ending : Ending) → Follows run r.stand later ending → IsTrace run (way.stands ++ (r.stand ∷ later)) ending
  trace_by later ending follows = subst (λ at. GoesOnFrom run at (way.stands ++ (r.stand ∷ later)) ending) from_first (way.joins later ending follows)

  rest_there : Rest run r.stand
  rest_there =
      rest_of run stands.order stands.members stands.ordered (suc (left run r.stand.at)) r.stand (omega arith) stands.words stands.in_bounds

  pub stands_at : (row : ℕ) → r.stand.at.number ≡ row → IsPositionOf run row r.stand.at
  stands_at row is = record {
    before = way.stands;
    here = r.stand;
    later = rest_there.0;
    ending = rest_there.1;
    trace = trace_by rest_there.0 rest_there.1 rest_there.2;
    place = sym is ∙ counted ∙ sym way.long;
    is = refl;
  }

  ends_there : (phase : Phase) → r.phase ≡ phase → is_ended phase ≡ true → (ending : Ending) × (successor run r.stand.at r.stand.ports ≡ ends ending)
  ends_there (Trial h) is told = absurd (cc)
  ends_there (Redo h) is told = absurd (cc)
  ends_there (Ended ending) is told = (ending, (subst (λ p. IsPhase run r.stand p r.cells) is stands.phase_is).is)

  pub ends_before : (row : ℕ) → is_ended r.phase ≡ true → r.stand.at.number < row → HasNoPosition run row
  ends_before row told short at of =
      let end = ends_there r.phase refl told in
      let first = (positions_keep run stands.members).first in
      let same =
      same_rests run stands.order stands.members stands.ordered (first_position run) (way.stands ++ (r.stand ∷ [])) (of.before ++ (of.here ∷ of.later))
      end.0 of.ending first (trace_by [] end.0 end.1) of.trace in
      let long = ap length same.0 in
      omega (
        arith,
        long,
        length-append way.stands (r.stand ∷ []),
        length-append of.before (of.here ∷ of.later),
        way.long,
        counted,
        of.place,
        short,
      )

pub goes_on : (r : RunState) (phase : Phase) → phase ≡ r.phase → ((ending : Ending) → phase ≡ Ended ending → ⊥) → is_ended r.phase ≡ false
goes_on r phase is not = ap is_ended (sym is) ∙ not_ended phase not

-- ---- From the start

pub record Started (plan : Planned) (r : RunState) : Type 0 where
  pub planned : r.plan ≡ plan
  pub first : r.opened ≡ first_position r.plan.run

pub started : (plan shared : Planned) (opened r : RunState) → shared ≡ plan → IsOpened shared (first_position shared.run) opened → r.plan ≡ opened.plan
    → r.opened ≡ opened.opened → Started plan r
started plan shared opened r same is planned from =
    let all : r.plan ≡ plan = planned ∙ ap (λ (s : RunState). s.plan) is.is ∙ same in
    record {
      planned = all;
      first = from ∙ ap (λ (s : RunState). s.opened) is.is ∙ ap (λ (p : Planned). first_position p.run) (same ∙ sym all);
    }

pub starts_before : (plan shared : Planned) (opened : RunState) (row : ℕ) → IsOpened shared (first_position shared.run) opened → opened.stand.at.number ≤ row
starts_before plan shared opened row is = let start = ap (λ (s : RunState). s.stand.at.number) is.is in omega (arith, start)

pub puts_position : (plan : Planned) (r : RunState) (row : ℕ) (old text new : List ℕ) → Started plan r → Stands r → r.stand.at.number ≡ row
    → text ≡ saved_text plan.system r.stand.at → new ≡ old ++ text → PutsPosition plan row old new
puts_position plan r row old text new start stands is text_is put = record {
  at = r.stand.at;
  is_position = subst (λ (p : Planned). IsPositionOf p.run row r.stand.at) start.planned (stands_at r stands start.first row is);
  put = put ∙ ap (λ bytes. old ++ bytes) text_is;
}

pub has_none : (plan : Planned) (r : RunState) (row : ℕ) → Started plan r → Stands r → is_ended r.phase ≡ true → r.stand.at.number < row
    → HasNoPosition plan.run row
has_none plan r row start stands told short =
    subst (λ (p : Planned). HasNoPosition p.run row) start.planned (ends_before r stands start.first row told short)
