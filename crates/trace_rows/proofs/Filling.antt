-- All steps of a phase are made, by anyone, one instance after the other.
use Rattle.std.proofs.Common.{◌≡◌, ℕ, suc, ◌+◌, ◌<◌, ◌≤◌, cond, Bool, true, false, List, [], ◌∷◌, ◌++◌, length, length-append, Some}
use Rattle.std.proofs.Common.{Result, refl, sym, ap, subst, ◌∙◌, arith, append-nil, append_assoc}
use Rattle.std.specs.Prelude.{slice_get, slice_set}
use Rattle.std.specs.List.{AllZip, count_by}
use Rattle.std.proofs.Math.Seq.{set-append_seam}
use Rattle.std.proofs.lemmas.List.Sums.{sum_by_push}
use Rattle.std.proofs.lemmas.List.{length-map}
use Rattle.std.proofs.lemmas.Slice.Zip.{AllZip-long}
use Rattle.std.proofs.lemmas.Option.{same_Some}
use Rattle.fixed_words.specs.declared.types.Fault.{Fault}
use Rattle.list_laws.proofs.Members.{at_seam}
use Rattle.list_laws.proofs.Pairs.{zip_append}
use Rattle.trace_core.specs.Runs.{Cell, Held, Empty, Filled, RunState, AreCellsFull, FitCells, IsComputed, IsPhase, IsWanted, Stands, is_empty_cell}
use Rattle.trace_core.specs.Runs.{is_ended, is_filled, is_held_cell, with_found}
use Rattle.trace_core.specs.declared.phase.Phase.{Phase}
use Rattle.trace_core.specs.declared.phase.Phase.TheVariants.{Trial, Redo, Ended}
use Rattle.trace_rows.specs.Passing.{AreStepsThere, IsFilled}
use Rattle.unit_tree.specs.Components.{Moved}
use Rattle.unit_tree.specs.Compositions.{Composition, Member}
use Rattle.unit_tree.specs.Negotiation.{is_held}
use Rattle.unit_tree.specs.Trace.{Stand}

-- ---- How many cells there are

pub fit_long : (run : Composition) (t h : ℕ) (cells : List Cell) → FitCells run t h cells → length cells ≡ length run.members
fit_long run t h cells fit = sym (length-map cells is_held_cell) ∙ ap length fit ∙ length-map run.members (λ (member : Member). is_held member.factor t h)

cells_long : (run : Composition) (stand : Stand) (phase : Phase) (cells : List Cell) → IsPhase run stand phase cells → is_ended phase ≡ false
    → length cells ≡ length run.members
cells_long run stand (Trial h) cells is going = fit_long run stand.at.point.t h cells is.cells_fit
cells_long run stand (Redo h) cells is going = fit_long run stand.at.point.t h cells is.cells_fit
cells_long run stand (Ended ending) cells is going = absurd (cc)

pub one_for_each : (r : RunState) → Stands r → is_ended r.phase ≡ false → length r.cells ≡ length r.plan.run.members
one_for_each r stands going = cells_long r.plan.run r.stand r.phase r.cells stands.phase_is going

cells_within : (run : Composition) (stand : Stand) (phase : Phase) (cells : List Cell) → IsPhase run stand phase cells
    → length cells ≤ length run.members
cells_within run stand (Trial h) cells is = omega (arith, fit_long run stand.at.point.t h cells is.cells_fit)
cells_within run stand (Redo h) cells is = omega (arith, fit_long run stand.at.point.t h cells is.cells_fit)
cells_within run stand (Ended ending) cells is = omega (arith, ap length is.none)

pub few_cells : (r : RunState) → Stands r → length r.cells ≤ length r.plan.run.members
few_cells r stands = cells_within r.plan.run r.stand r.phase r.cells stands.phase_is

-- A cell whose step isn't required is full.
pub full_cell : (cell : Cell) → (Some cell ≡ Some Empty → ⊥) → is_empty_cell cell ≡ false
full_cell Held not = refl
full_cell Empty not = absurd (not refl)
full_cell (Filled step) not = refl

-- ---- One step

pub by_own_step : (old new : RunState) (instance : ℕ) → IsComputed old instance new → IsFilled old instance new
by_own_step old new instance computed = record {
  step = computed.step;
  is =
      computed.is
      ∙ ap (λ found. record old { cells = slice_set old.cells instance (Filled computed.step); found = found; own = suc old.own })
      (sym (ap (λ (s : RunState). s.found) computed.is))
      ∙ ap (λ own. record old { cells = slice_set old.cells instance (Filled computed.step); found = new.found; own = own })
      (sym (ap (λ (s : RunState). s.own) computed.is));
  counted = ap (λ (s : RunState). s.found + s.own) computed.is ∙ omega arith;
}

pub by_answer : (old new : RunState) (instance : ℕ) (step : Result Moved Fault) → new ≡ with_found old instance step → IsFilled old instance new
by_answer old new instance step is = record {
  step = step;
  is =
      is
      ∙ ap (λ found. record old { cells = slice_set old.cells instance (Filled step); found = found; own = old.own }) (sym (ap (λ (s : RunState). s.found) is))
      ∙ ap (λ own. record old { cells = slice_set old.cells instance (Filled step); found = new.found; own = own }) (sym (ap (λ (s : RunState). s.own) is));
  counted = ap (λ (s : RunState). s.found + s.own) is ∙ omega arith;
}

-- ---- Cells in turn

-- A cell before and after: a required step was made, and any other cell stays.
abbrev pub IsAfter : Cell → Cell → Type 0
IsAfter Empty new = is_filled new ≡ true
IsAfter old new = new ≡ old

abbrev pub with_cells : RunState → List Cell → ℕ → ℕ → RunState
with_cells r cells found own = record r { cells = cells; found = found; own = own }

-- The steps of the first cells are made.
pub record Filling (r now : RunState) (count : ℕ) : Type 0 where
  pub done : List Cell
  pub made : List Cell
  pub others : List Cell
  pub split : r.cells ≡ done ++ others
  pub long : length made ≡ count
  pub each : AllZip IsAfter done made
  pub is : now ≡ with_cells r (made ++ others) now.found now.own
  pub counted : now.found + now.own ≡ r.found + r.own + count_by is_empty_cell done

pub filling_none : (r : RunState) → Filling r r 0
filling_none r = record { done = []; made = []; others = r.cells; split = refl; long = refl; each = tt; is = refl; counted = omega arith }

module _ (r now : RunState) (count : ℕ) (within : count < length r.cells) where
  none_left : (done made : List Cell) → r.cells ≡ done ++ [] → length made ≡ count → AllZip IsAfter done made → ⊥
  none_left done made split long each =
      let all = ap length split ∙ length-append done [] in
      let as_long = AllZip-long IsAfter done made each in
      omega (arith, all, as_long, long, within)

  seen_next : (made : List Cell) (cell : Cell) (others : List Cell) → length made ≡ count → now.cells ≡ made ++ (cell ∷ others)
      → slice_get now.cells count ≡ Some cell
  seen_next made cell others long is = ap (λ cells. slice_get cells count) is ∙ ap (slice_get (made ++ (cell ∷ others))) (sym long) ∙ at_seam made cell others

  -- The next cell is filled too.
  next_filling : (next : RunState) (done made : List Cell) (cell new : Cell) (others : List Cell) → r.cells ≡ done ++ (cell ∷ others)
      → length made ≡ count → AllZip IsAfter done made → IsAfter cell new → next ≡ with_cells r (made ++ (new ∷ others)) next.found next.own
      → next.found + next.own ≡ r.found + r.own + count_by is_empty_cell (done ++ (cell ∷ [])) → Filling r next (count + 1)
  next_filling next done made cell new others split long each after is counted = record {
    done = done ++ (cell ∷ []);
    made = made ++ (new ∷ []);
    others = others;
    split = split ∙ sym (append_assoc done (cell ∷ []) others);
    long = length-append made (new ∷ []) ∙ omega (arith, long);
    each = zip_append IsAfter done (cell ∷ []) made (new ∷ []) each (after, tt);
    is = is ∙ ap (λ cells. with_cells r cells next.found next.own) (sym (append_assoc made (new ∷ []) others));
    counted = counted;
  }

  pushed : (done : List Cell) (cell : Cell) → count_by is_empty_cell (done ++ (cell ∷ [])) ≡ count_by is_empty_cell done + cond (is_empty_cell cell) 1 0
  pushed done cell = sum_by_push (λ one. cond (is_empty_cell one) 1 0) done cell

  wanted_next : (next : RunState) (filled : IsFilled now count next) (done made others : List Cell) → r.cells ≡ done ++ others → length made ≡ count
      → AllZip IsAfter done made → now ≡ with_cells r (made ++ others) now.found now.own
      → now.found + now.own ≡ r.found + r.own + count_by is_empty_cell done → IsWanted now count → Filling r next (count + 1)
  wanted_next next filled done made [] split long each is counted wanted = absurd (none_left done made split long each)
  wanted_next next filled done made (cell ∷ others) split long each is counted wanted =
      let cells = ap (λ (s : RunState). s.cells) is in
      let empty : cell ≡ Empty = same_Some cell Empty (sym (seen_next made cell others long cells) ∙ wanted) in
      let set_there : slice_set now.cells count (Filled filled.step) ≡ made ++ (Filled filled.step ∷ others) =
      ap (λ all. slice_set all count (Filled filled.step)) cells
      ∙ ap (λ n. slice_set (made ++ (cell ∷ others)) n (Filled filled.step)) (sym long) ∙ set-append_seam made cell others (Filled filled.step) in
      let one = pushed done Empty in
      let more = filled.counted in
      next_filling next done made Empty (Filled filled.step) others (split ∙ ap (λ c. done ++ (c ∷ others)) empty) long each refl
      (filled.is ∙ ap (λ (s : RunState). with_cells s (slice_set now.cells count (Filled filled.step)) next.found next.own) is
      ∙ ap (λ all. with_cells r all next.found next.own) set_there)
      (omega (arith, one, more, counted))

  -- A cell that is not required stays.
  stays : (cell : Cell) → (cell ≡ Empty → ⊥) → IsAfter cell cell × (is_empty_cell cell ≡ false)
  stays Held not = (refl, refl)
  stays Empty not = absurd (not refl)
  stays (Filled step) not = (refl, refl)

  other_next : (done made others : List Cell) → r.cells ≡ done ++ others → length made ≡ count → AllZip IsAfter done made
      → now ≡ with_cells r (made ++ others) now.found now.own → now.found + now.own ≡ r.found + r.own + count_by is_empty_cell done
      → (IsWanted now count → ⊥) → Filling r now (count + 1)
  other_next done made [] split long each is counted unwanted = absurd (none_left done made split long each)
  other_next done made (cell ∷ others) split long each is counted unwanted =
      let same = stays cell (λ e. unwanted (seen_next made cell others long (ap (λ (s : RunState). s.cells) is) ∙ ap Some e)) in
      let none : ◌≡◌ {A = ℕ} (cond (is_empty_cell cell) 1 0) 0 = ap {B = ℕ} (λ (b : Bool). cond b 1 0) same.1 in
      let as_many = pushed done cell in
      next_filling now done made cell cell others split long each same.0 is (omega (arith, as_many, none, counted))

pub fills : (r now next : RunState) (count : ℕ) → Filling r now count → count < length r.cells → IsWanted now count → IsFilled now count next
    → Filling r next (count + 1)
fills r now next count f within wanted filled = wanted_next r now count within next filled f.done f.made f.others f.split f.long f.each f.is f.counted wanted

pub leaves : (r now : RunState) (count : ℕ) → Filling r now count → count < length r.cells → (IsWanted now count → ⊥) → Filling r now (count + 1)
leaves r now count f within unwanted = other_next r now count within f.done f.made f.others f.split f.long f.each f.is f.counted unwanted

-- ---- All steps are made

filled_full : (cell : Cell) → is_filled cell ≡ true → is_empty_cell cell ≡ false
filled_full Held is = absurd (cc)
filled_full Empty is = absurd (cc)
filled_full (Filled step) is = refl

after_full : (old new : Cell) → IsAfter old new → is_empty_cell new ≡ false
after_full Held new after = ap is_empty_cell after
after_full Empty new after = filled_full new after
after_full (Filled step) new after = ap is_empty_cell after

all_after_full : (old new : List Cell) → AllZip IsAfter old new → AreCellsFull new
all_after_full [] [] each = tt
all_after_full [] (cell ∷ new) each = absurd each
all_after_full (was ∷ old) [] each = absurd each
all_after_full (was ∷ old) (cell ∷ new) each = (after_full was cell each.0, all_after_full old new each.1)

all_by : (r now : RunState) (done made others : List Cell) → r.cells ≡ done ++ others → length r.cells ≤ length made → AllZip IsAfter done made
    → now ≡ with_cells r (made ++ others) now.found now.own → now.found + now.own ≡ r.found + r.own + count_by is_empty_cell done → AreStepsThere r now
all_by r now done made [] split long each is counted =
    let all : r.cells ≡ done = split ∙ append-nil done in
    let cells : now.cells ≡ made = ap (λ (s : RunState). s.cells) is ∙ append-nil made in
    record {
      full = subst AreCellsFull (sym cells) (all_after_full done made each);
      is = is ∙ ap (λ some. with_cells r some now.found now.own) (sym (ap (λ (s : RunState). s.cells) is));
      counted = counted ∙ ap (λ some. r.found + r.own + count_by is_empty_cell some) (sym all);
    }
all_by r now done made (cell ∷ others) split long each is counted =
    let all = ap length split ∙ length-append done (cell ∷ others) in
    let as_long = AllZip-long IsAfter done made each in
    absurd (omega (arith, all, as_long, long))

pub all_there : (r now : RunState) (count : ℕ) → Filling r now count → length r.cells ≤ count → AreStepsThere r now
all_there r now count f past = all_by r now f.done f.made f.others f.split (omega (arith, f.long, past)) f.each f.is f.counted
